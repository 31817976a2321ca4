-- The bank rule: an access covers m fields from INTID lo on, the lowest INTID in the lowest bits. One rule for every bank.
use Rattle.std.specs.Prelude.{ℕ, ◌+◌, ◌-◌, Bool, ◌&&◌, cond, List, get_or}
use Rattle.theory.specs.Lists.{passing}
use Rattle.identifiers.specs.Answer.{within}
use Rattle.place.specs.Table.{in_table, beyond_table}
use Rattle.bank.specs.declared.bank.Bank.{Bank}
use Rattle.bank.specs.Banks.{read_refuses, field, refused_over, packed}
use Rattle.slot.specs.declared.slot.Slot.{Slot}
use Rattle.slot.specs.Slots.{showing, field_written, field_listed}
use Rattle.slot.specs.NoSlot.{no_slot}

-- the slot of INTID i
abbrev pub slot_of : List Slot → ℕ → Slot
slot_of slots i = get_or slots (i - 32) no_slot

-- the SPIs of a table of n that an access covers
abbrev pub covers : ℕ → ℕ → ℕ → ℕ → Bool
covers n lo m i = within lo (lo + m) i && in_table n i

module _ (explicit : Bool) (n : ℕ) (b : Bank) where
  -- reading: an owned SPI of the table shows its field, everything else 0
  abbrev pub shown_at : List Slot → ℕ → ℕ
  shown_at slots i = cond (in_table n i) (showing explicit b (slot_of slots i)) 0

  abbrev pub bank_value : ℕ → ℕ → List Slot → ℕ
  bank_value lo m slots = packed b (shown_at slots) lo m

  -- writing the value v: what an SPI is afterwards
  abbrev pub bank_slot : ℕ → ℕ → ℕ → ℕ → Slot → Slot
  bank_slot v lo m i s = cond (covers n lo m i) (field_written explicit b (field b v lo i) s) s

  -- and which SPIs are listed
  abbrev pub candidate : ℕ → ℕ → ℕ → List Slot → ℕ → Bool
  candidate v lo m slots i = covers n lo m i && field_listed explicit b (field b v lo i) (slot_of slots i)

  abbrev pub bank_candidates : ℕ → ℕ → ℕ → List Slot → List ℕ
  bank_candidates v lo m slots = passing (candidate v lo m slots) lo m

  -- the INTIDs over which a read, or a write, is refused 1: it carries the lowest
  abbrev pub read_beyond : ℕ → ℕ → List ℕ
  read_beyond lo m = passing (λ i. read_refuses b && beyond_table explicit n i) lo m

  abbrev pub write_beyond : ℕ → ℕ → ℕ → List ℕ
  write_beyond v lo m = passing (refused_over explicit n b v lo) lo m
