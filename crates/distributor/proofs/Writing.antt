-- The loop that writes a bank's fields, from the lowest INTID of the table up: one field more, to the slots and to the list.
use Prim.Native.Nat.{ℕ, ◌+◌, ◌-◌, ◌/◌, ◌%◌, ◌^◌, ◌≤◌, ◌<◌, min, max}
use mathlib.Core.Path.{◌≡◌, ap, ◌∙◌}
use mathlib.Core.Logic.{◌≢◌, by_cases}
use mathlib.Core.Bool.{Bool, true, false, ◌&&◌, false≢true}
use mathlib.Core.List.{List}
use native.Mathlib.Omega.{arith}
use native.Mathlib.Decide.{dec_lt}
use lib.ListN.{get_or, set}
use Rattle.theory.specs.Lists.{map_at, passing}
use Rattle.theory.specs.ListLaws.{passing-inside}
use Rattle.theory.specs.MapAtLaws.{map_at_edit, map_at_same, map_at_still, get_or-map_at}
use Rattle.place.specs.Table.{table_size}
use Rattle.controller.specs.Modes.{explicit}
use Rattle.bank.specs.declared.bank.Bank.{Bank}
use Rattle.bank.specs.Banks.{bits_of, field}
use Rattle.slot.specs.declared.slot.Slot.{Slot}
use Rattle.slot.specs.Slots.{field_written, field_listed}
use Rattle.slot.specs.NoSlot.{no_slot}
use Rattle.slot.specs.BankRule.{slot_of, covers, bank_slot, candidate}
use Rattle.slot.specs.BankRuleLaws.{candidate_in}
use Rattle.model.proofs.Covering.{covers_yes, covers_past, covers_before, covers_same}
use Rattle.distributor.specs.declared.distributor.DistributorState.{DistributorState}
use Rattle.distributor.specs.Loops.{with_slots}

-- ---- the slots

module _ (e : Bool) (n : ℕ) (b : Bank) (value lo : ℕ) (l : List Slot) where
  -- once the INTIDs below i are written
  abbrev pub up_to : ℕ → ℕ → Slot → Slot
  up_to i p s = bank_slot e n b value lo (i - lo) (32 + p) s

  abbrev pub swept : ℕ → List Slot
  swept i = map_at (up_to i) l

  -- before the first turn nothing is written
  pub none_yet : swept (max lo 32) ≡ l
  none_yet = map_at_still (up_to (max lo 32)) l (λ p s. let z : covers n lo (max lo 32 - lo) (32 + p) ≡ false = go p in rw z)
    where
      go : (p : ℕ) → covers n lo (max lo 32 - lo) (32 + p) ≡ false
      go p = by_cases (dec_lt (32 + p) lo) (λ q. covers_before n lo (max lo 32 - lo) (32 + p) q) (λ q. covers_past n lo (max lo 32 - lo) (32 + p) (omega arith))

  module _ (i p : ℕ) (low : max lo 32 ≤ i) (high : i < 32 + n) (at : p ≡ i - 32) where
    -- the slot of the next INTID is as it was
    untouched : (s : Slot) → up_to i p s ≡ s
    untouched s = let z = covers_past n lo (i - lo) (32 + p) (omega arith) in rw z

    -- another slot is as it was before the next INTID was written
    other : (q : ℕ) (s : Slot) → q ≢ p → up_to i q s ≡ up_to (i + 1) q s
    other q s h =
        let z = covers_same n lo (i - lo) (i + 1 - lo) (32 + q) (omega arith) (λ x y w. omega arith) (λ x y w. by_cases (dec_lt (32 + q) (lo + (i - lo))) (λ r. r) (λ r. absurd (h (omega arith)))) in
        rw z

    next : (f : ℕ) (s : Slot) → f ≡ field b value lo i → field_written e b f s ≡ up_to (i + 1) p s
    next f s h =
        let w : 32 + p ≡ i = omega arith in
        let z = covers_yes n lo (i + 1 - lo) i (omega arith) (omega arith) (omega arith) high in
        rw (w, z, h)

    pub swept_more : (f : ℕ) (new : Slot) → f ≡ field b value lo i → new ≡ field_written e b f (get_or (swept i) p no_slot) → set (swept i) p new ≡ swept (i + 1)
    swept_more f new hf hn =
        ap (set (swept i) p) hn
        ∙ map_at_edit (up_to i) (up_to (i + 1)) (field_written e b f) no_slot p l
        (λ s. ap (field_written e b f) (untouched s) ∙ next f s hf)
        (λ q s h. other q s h)

    -- whether the code lists the INTID
    pub listed_here : (f m : ℕ) (on : Bool) → f ≡ field b value lo i → i < lo + m → on ≡ field_listed e b f (get_or (swept i) p no_slot) → on ≡ candidate e n b value lo m l i
    listed_here f m on hf hm ho =
        let S : get_or (swept i) p no_slot ≡ slot_of l i = get_or-map_at (up_to i) p l no_slot untouched ∙ (rw at) in
        let z = covers_yes n lo m i (omega arith) hm (omega arith) high in
        ho ∙ (rw (S, z, hf))

  -- after the last turn all is written: what is left lies beyond the table
  pub all_written : (m i : ℕ) → max lo 32 ≤ i → i ≤ max (max lo 32) (min (lo + m) (32 + n)) → min (lo + m) (32 + n) ≤ i → swept i ≡ map_at (λ p. bank_slot e n b value lo m (32 + p)) l
  all_written m i low high done =
      map_at_same (up_to i) (λ p. bank_slot e n b value lo m (32 + p)) l
      (λ p s. let z = covers_same n lo (i - lo) m (32 + p) (omega arith) (λ x y w. omega arith) (λ x y w. omega arith) in rw z)

pub one_more : (i first end : ℕ) → i < end → i + 1 ≤ max first end
one_more i first end h = omega arith

-- ---- a turn of the code, in its own terms

module _ (d₀ : DistributorState) (b : Bank) (lo m value : ℕ) (tells : Bool) where
  abbrev pub E : Bool
  E = explicit d₀.config.spi_ownership

  abbrev pub N : ℕ
  N = table_size d₀.spi_count

  -- who is listed
  abbrev pub test : ℕ → Bool
  test i = tells && candidate E N b value lo m d₀.slots i

  pub test_in : (i : ℕ) → test i ≡ true → (32 ≤ i) × (i < 32 + N)
  test_in i e = go tells e
    where
      go : (t : Bool) → (t && candidate E N b value lo m d₀.slots i) ≡ true → (32 ≤ i) × (i < 32 + N)
      go true e = candidate_in E N b value lo m d₀.slots i e
      go false e = absurd (false≢true e)

  -- those of the INTIDs that the loop goes through are all
  pub all_listed : passing test lo m ≡ passing test (max lo 32) (min (lo + m) (32 + N) - max lo 32)
  all_listed = passing-inside test 32 (32 + N) test_in lo m

  module _ (i p f v : ℕ) (x : Bool) (new : Slot) (on : Bool) (d : DistributorState)
      (low : max lo 32 ≤ i) (high : i < min (lo + m) (32 + N)) (at : p ≡ i - 32) (hx : x ≡ E)
      (hd : d ≡ with_slots d₀ (swept E N b value lo d₀.slots i)) (hv : v ≡ value / (2 ^ bits_of b) ^ (i - lo)) (hf : f ≡ v % 2 ^ bits_of b)
      (hn : new ≡ field_written x b f (get_or d.slots p no_slot)) (ho : on ≡ field_listed x b f (get_or d.slots p no_slot)) where
    slots_are : d.slots ≡ swept E N b value lo d₀.slots i
    slots_are = ap (λ (y : DistributorState). y.slots) hd

    digit : f ≡ field b value lo i
    digit = hf ∙ (rw hv)

    pub state_more : with_slots d (set d.slots p new) ≡ with_slots d₀ (swept E N b value lo d₀.slots (i + 1))
    state_more =
        ap (λ (y : DistributorState). with_slots y (set y.slots p new)) hd
        ∙ ap (with_slots d₀) (swept_more E N b value lo d₀.slots i p low (omega arith) at f new digit (hn ∙ (rw (hx, slots_are))))

    pub on_more : (tells && on) ≡ test i
    on_more = ap (λ (y : Bool). tells && y) (listed_here E N b value lo d₀.slots i p low (omega arith) at f m on digit (omega arith) (ho ∙ (rw (hx, slots_are))))
