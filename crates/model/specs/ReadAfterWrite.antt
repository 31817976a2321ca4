-- What the guest reads after it wrote: each register against each register, in every state, in both ownership modes, at every width
-- that is legal.
use Rattle.std.specs.Prelude.{ℕ, ◌+◌, ◌-◌, ◌*◌, ◌/◌, ◌%◌, ◌<◌, ◌≡◌, refl, Bool, true, false, ◌&&◌, eqb, Ok}
use Rattle.std.proofs.Common.{sym, ◌∙◌, pow_pos, mod-lt}
use Rattle.std.proofs.Math.Path.{ap}
use Rattle.std.proofs.Math.Bool.{cond, and-false}
use mathlib.Core.List.{List, [], ◌∷◌}
use native.Mathlib.Omega.{arith}
use Rattle.std.proofs.Math.ListN.{length}
use Rattle.theory.specs.Bools.{both}
use Rattle.theory.specs.Lists.{passing}
use Rattle.theory.specs.ListLaws.{passing_agree, passing_same}
use Rattle.theory.specs.MapAtLaws.{mapped_at, map_at_still}
use Rattle.identifiers.specs.Answer.{done, within, unless}
use Rattle.life.specs.Life.{line}
use Rattle.interrupt.specs.Records.{is_level}
use Rattle.place.specs.Table.{in_table}
use Rattle.place.specs.TableLaws.{in_range}
use Rattle.ownership.specs.Owned.{owned}
use Rattle.controller.specs.Modes.{explicit}
use Rattle.controller.specs.IdentityLaws.{ctlr_written}
use Rattle.bank.specs.declared.bank.Bank.{Bank}
use Rattle.bank.specs.Banks.{bits_of, shown, field, packed}
use Rattle.bank.specs.RowLaws.{ISENABLER, ISPENDR, deliverable-shown}
use Rattle.bank.specs.BankLaws.{packed_same}
use Rattle.bank.specs.FieldLaws.{packed-field}
use Rattle.registers.specs.declared.register.AccessWidth.{AccessWidth}
use Rattle.registers.specs.declared.register.Direction.TheVariants.{Reading}
use Rattle.registers.specs.declared.register.Register.TheVariants.{Identification, Ctlr, Typer, Iidr, Fields, Reserved}
use Rattle.decoding.specs.Decoding.{decode, write_access}
use Rattle.slot.specs.declared.slot.Slot.{Slot}
use Rattle.slot.specs.Slots.{showing, field_written, field_listed}
use Rattle.slot.specs.NoSlot.{no_slot}
use Rattle.slot.specs.BankRule.{slot_of, covers, shown_at, bank_value, bank_slot, bank_candidates, read_beyond}
use Rattle.slot.specs.Guest.{shows_then, can_list, reads_deliverable}
use Rattle.slot.proofs.GuestLaws.{read_after_write, unowned_ignores, listed_exactly}
use Rattle.model.specs.Calls.{Distributor, Call, read, write, plain, size, written_at, switched, slot_after, step, after_write, deliverable_at, read_reply, write_reply, reply}
use Rattle.model.specs.Typed.{Typed}
use Rattle.model.specs.ReadLaws.{shown_at_fits}
use Rattle.registers.specs.Registers.{Access}

-- ---- a bank's register after a bank's register

module _ (d : Distributor) (ok : Typed d) (offset : ℕ) (w : AccessWidth) (v places : ℕ) (a : Bank) (lo m : ℕ)
    (reaches : write_access places (size d) d.config.distributor_size offset w ≡ Ok (Fields a lo m)) where
  abbrev e : Bool
  e = explicit d.config.spi_ownership

  abbrev n : ℕ
  n = size d

  abbrev wrote : Distributor
  wrote = step (write offset w v places) d

  -- what the field of INTID i in bank b shows after the write, where it showed `old`: the write changes it if it covers the SPI and the
  -- SPI is owned
  abbrev pub field_then : Bank → ℕ → ℕ → ℕ
  field_then b i old =
      let s = slot_of d.slots i in
      cond (covers n lo m i && owned e s.ownership) (shows_then (line s.interrupt.life) (is_level s.interrupt) s.ownership.fixed_route a (field a v lo i) b old) old

  slot_then : (i : ℕ) → in_table n i ≡ true → slot_of wrote.slots i ≡ bank_slot e n a v lo m i (slot_of d.slots i)
  unfolding step
  slot_then i inside =
      let (low, high) = in_range n i inside in
      let at : 32 + (i - 32) ≡ i = omega arith in
      let here : i - 32 < length d.slots = (let r = ok.room in omega arith) in
      mapped_at (λ p. slot_after d.config n (write offset w v places) (32 + p)) (i - 32) d.slots no_slot here ∙ (rw (at, reaches))

  written_shows : (b : Bank) (i : ℕ) → showing e b (bank_slot e n a v lo m i (slot_of d.slots i)) ≡ field_then b i (showing e b (slot_of d.slots i))
  written_shows b i = go (covers n lo m i) (owned e s.ownership) refl
    where
      s : Slot
      s = slot_of d.slots i

      f : ℕ
      f = field a v lo i

      go : (x o : Bool) → owned e s.ownership ≡ o
          → showing e b (cond x (field_written e a f s) s) ≡ cond (x && o) (shows_then (line s.interrupt.life) (is_level s.interrupt) s.ownership.fixed_route a f b (showing e b s)) (showing e b s)
      go true true own = read_after_write e s own a f b (mod-lt _ (pow_pos (bits_of a)))
      go true false own = ap (showing e b) (unowned_ignores e s own a f)
      go false o own = refl

  shown-then : (b : Bank) (i : ℕ) → shown_at e n b wrote.slots i ≡ field_then b i (shown_at e n b d.slots i)
  shown-then b i = go (in_table n i) refl
    where
      go : (t : Bool) → in_table n i ≡ t → cond t (showing e b (slot_of wrote.slots i)) 0 ≡ field_then b i (cond t (showing e b (slot_of d.slots i)) 0)
      go true inside = ap (showing e b) (slot_then i inside) ∙ written_shows b i
      go false outside = rw (outside, and-false (within lo (lo + m) i))

  -- the write lists an SPI that it covers, if its bank and field can list, and the guest reads then that the SPI is enabled and pending
  pub candidates_then : bank_candidates e n a v lo m d.slots
      ≡ passing (λ i. covers n lo m i && (can_list a (field a v lo i) && reads_deliverable e (slot_of wrote.slots i))) lo m
  candidates_then = passing_agree _ (λ i. covers n lo m i && (can_list a (field a v lo i) && reads_deliverable e (slot_of wrote.slots i))) lo m (λ i low high. go i (covers n lo m i) refl)
    where
      listed : (i : ℕ) → covers n lo m i ≡ true → field_listed e a (field a v lo i) (slot_of d.slots i) ≡ (can_list a (field a v lo i) && reads_deliverable e (slot_of wrote.slots i))
      listed i c =
          let now : slot_of wrote.slots i ≡ field_written e a (field a v lo i) (slot_of d.slots i) = slot_then i (both (within lo (lo + m) i) _ c).1 ∙ (rw c) in
          listed_exactly e (slot_of d.slots i) a (field a v lo i) ∙ ap (λ (t : Slot). can_list a (field a v lo i) && reads_deliverable e t) (sym now)

      go : (i : ℕ) (x : Bool) → covers n lo m i ≡ x → (x && field_listed e a (field a v lo i) (slot_of d.slots i)) ≡ (x && (can_list a (field a v lo i) && reads_deliverable e (slot_of wrote.slots i)))
      go i true c = listed i c
      go i false c = refl

  module _ (offset' : ℕ) (w' : AccessWidth) (b : Bank) (lo' m' : ℕ)
      (shows : decode Reading d.config.distributor_size offset' w' ≡ Ok (Fields b lo' m')) where
    -- a read that gave x before the write gives x after it, with each field changed as `field_then` says
    pub register_then : (x : ℕ) → (reply (read offset' w') d).answer ≡ done (x ∷ [])
        → (reply (read offset' w') wrote).answer ≡ done (packed b (λ i. field_then b i (field b x lo' i)) lo' m' ∷ [])
    unfolding reply step
    register_then x was = rw shows (go (read_beyond e n b lo' m') (rw shows at was))
      where
        go : (l : List ℕ) → unless l (done (bank_value e n b lo' m' d.slots ∷ [])) ≡ done (x ∷ [])
            → unless l (done (bank_value e n b lo' m' wrote.slots ∷ [])) ≡ done (packed b (λ i. field_then b i (field b x lo' i)) lo' m' ∷ [])
        go [] h =
            let z : bank_value e n b lo' m' d.slots ≡ x = cc in
            ap (λ (y : ℕ). done (y ∷ []))
            (packed_same b (shown_at e n b wrote.slots) (λ i. field_then b i (field b x lo' i)) lo' m'
            (λ i low high. shown-then b i ∙ ap (field_then b i) (sym (packed-field b (shown_at e n b d.slots) (shown_at_fits d ok b) lo' m' i low high) ∙ ap (λ (y : ℕ). field b y lo' i) z)))
        go (i ∷ is) h = cc

-- ---- the registers that have no INTID

-- TYPER, IIDR, the identification registers and what is reserved read the same whatever was called
pub constants_stay : (k : Call) (d : Distributor)
    → (read_reply (step k d) (Ok Typer) ≡ read_reply d (Ok Typer))
    × (read_reply (step k d) (Ok Iidr) ≡ read_reply d (Ok Iidr))
    × ((j : ℕ) → read_reply (step k d) (Ok (Identification j)) ≡ read_reply d (Ok (Identification j)))
    × (read_reply (step k d) (Ok Reserved) ≡ read_reply d (Ok Reserved))
unfolding step
constants_stay k d = (refl, refl, (λ j. refl), refl)

module _ (d : Distributor) (offset : ℕ) (w : AccessWidth) (v places : ℕ) where
  abbrev at : Access
  at = write_access places (size d) d.config.distributor_size offset w

  abbrev then : Distributor
  then = step (write offset w v places) d

  -- CTLR reads bit 1 of what was written to it, with ARE_NS, and no other bit
  pub ctlr_after_ctlr : at ≡ Ok Ctlr → read_reply then (Ok Ctlr) ≡ plain (done ((0x10 + 2 * (v / 2 % 2)) ∷ []))
  unfolding step
  ctlr_after_ctlr h = rw (h, ctlr_written v)

  -- turned on, it lists every SPI of the table that is enabled and pending, owned or not, ascending
  pub switch_lists : at ≡ Ok Ctlr → (reply (write offset w v places) d).candidates
      ≡ cond (eqb (v / 2 % 2) 1) (passing (λ i. let r = (slot_of d.slots i).interrupt in eqb (shown ISENABLER r) 1 && eqb (shown ISPENDR r) 1) 32 (size d)) []
  unfolding reply
  switch_lists h =
      ap (λ (x : Access). (write_reply d x v).candidates) h
      ∙ ap (λ (l : List ℕ). cond (eqb (v / 2 % 2) 1) l []) (passing_same (deliverable_at d.slots) _ 32 (size d) (λ i. deliverable-shown (slot_of d.slots i).interrupt))

  -- a write to a bank leaves CTLR
  pub ctlr_after_bank : (b : Bank) (lo m : ℕ) → at ≡ Ok (Fields b lo m) → read_reply then (Ok Ctlr) ≡ read_reply d (Ok Ctlr)
  unfolding step
  ctlr_after_bank b lo m h = rw h

  -- a write to CTLR leaves every bank
  pub bank_after_ctlr : at ≡ Ok Ctlr → then.slots ≡ d.slots
  unfolding step
  bank_after_ctlr h = ap (λ (x : Access). (after_write d x v).slots) h ∙ map_at_still (λ p s. s) d.slots (λ p s. refl)

  -- and a write to TYPER, IIDR, an identification register or what is reserved leaves everything
  ignored : (a : Access) → at ≡ a → ((i : ℕ) (s : Slot) → written_at d.config (size d) a v i s ≡ s) → switched d.config (size d) a v d.switch ≡ d.switch → then ≡ d
  unfolding step
  ignored a h slot on =
      ap (λ (x : Access). after_write d x v) h
      ∙ (let kept = map_at_still (λ p. written_at d.config (size d) a v (32 + p)) d.slots (λ p s. slot (32 + p) s) in λ j. record { config = d.config; switch = on j; count = d.count; slots = kept j })

  pub typer_ignores : at ≡ Ok Typer → then ≡ d
  typer_ignores h = ignored (Ok Typer) h (λ i s. refl) refl

  pub iidr_ignores : at ≡ Ok Iidr → then ≡ d
  iidr_ignores h = ignored (Ok Iidr) h (λ i s. refl) refl

  pub identification_ignores : (j : ℕ) → at ≡ Ok (Identification j) → then ≡ d
  identification_ignores j h = ignored (Ok (Identification j)) h (λ i s. refl) refl

  pub reserved_ignores : at ≡ Ok Reserved → then ≡ d
  reserved_ignores h = ignored (Ok Reserved) h (λ i s. refl) refl
