-- Loops that list candidates: one number more. A loop goes from the INTID `first` up, and stands at i.
use Prim.Native.Nat.{ℕ, ◌+◌, ◌-◌, ◌≤◌, ◌<◌}
use mathlib.Core.Path.{◌≡◌, sym, ap, ◌∙◌}
use mathlib.Core.Bool.{Bool, true, false, cond}
use mathlib.Core.List.{List, [], ◌∷◌}
use native.Mathlib.Omega.{arith}
use lib.ListN.{length, get_or, set, length-append}
use Rattle.theory.specs.Lists.{passing}
use Rattle.theory.specs.ListLaws.{laid_more, length-laid, passing_few, passing_most}
use Rattle.interrupt.specs.Records.{deliverable_in}
use Rattle.slot.specs.declared.slot.Slot.{Slot}
use Rattle.slot.specs.NoSlot.{no_slot}
use Rattle.model.specs.Calls.{deliverable_at}
use Rattle.model.proofs.Listing.{found_one, found_none}
use Rattle.distributor.specs.Loops.{LaidOut}

-- a test, and a list that has room for all that pass it below `end`
module _ (t : ℕ → Bool) (first : ℕ) (old : List ℕ) (end : ℕ) (fits : (i : ℕ) → i ≤ end → length (passing t first (i - first)) ≤ length old) where
  pub list_size : (i : ℕ) (list : List ℕ) (count : ℕ) → i ≤ end → LaidOut (passing t first (i - first)) old list count → length list ≡ length old
  list_size i list count l h = ap length h.0 ∙ length-laid (passing t first (i - first)) old (fits i l)

  -- there is room for the next one
  pub list_room : (i : ℕ) (list : List ℕ) (count : ℕ) → first ≤ i → i < end → LaidOut (passing t first (i - first)) old list count → t i ≡ true → count < length list
  list_room i list count l b h e =
      let f = fits (i + 1) (omega arith) in
      let g : length (passing t first (i + 1 - first)) ≡ length (passing t first (i - first)) + 1 = ap length (found_one t first i l e) ∙ length-append (passing t first (i - first)) _ in
      let k = list_size i list count (omega arith) h in
      let c = h.1 in
      omega arith

  pub list_more : (i : ℕ) (list : List ℕ) (count : ℕ) (on : Bool) → first ≤ i → i < end → LaidOut (passing t first (i - first)) old list count → on ≡ t i
      → LaidOut (passing t first (i + 1 - first)) old (cond on (set list count i) list) (cond on (count + 1) count)
  list_more i list count true l b h e =
      let r = list_room i list count l b h (sym e) in
      let k = list_size i list count (omega arith) h in
      let m = found_one t first i l (sym e) in (
        rw (m, h.0, h.1) (laid_more (passing t first (i - first)) old i (let c = h.1 in omega arith)),
        rw (m, length-append (passing t first (i - first)) (i ∷ []), h.1),
      )
  list_more i list count false l b h e = let m = found_none t first i l (sym e) in rw m h

-- a test that only INTIDs of a table of n pass, and a list of at least n places
pub table_fits : (t : ℕ → Bool) (first : ℕ) (old : List ℕ) (n end : ℕ) → ((i : ℕ) → t i ≡ true → (32 ≤ i) × (i < 32 + n)) → n ≤ length old
    → (i : ℕ) → i ≤ end → length (passing t first (i - first)) ≤ length old
table_fits t first old n end inside enough i l = let h = passing_few t 32 (32 + n) inside first (i - first) in omega arith

-- the INTIDs of a table of n, whatever the test
pub turns_fit : (t : ℕ → Bool) (old : List ℕ) (n : ℕ) → n ≤ length old → (i : ℕ) → i ≤ 32 + n → length (passing t 32 (i - 32)) ≤ length old
turns_fit t old n enough i l = let h = passing_most t 32 (i - 32) in omega arith

-- the place p is INTID i's
pub deliverable-at : (slots : List Slot) (p i : ℕ) → p ≡ i - 32 → deliverable_in (get_or slots p no_slot).interrupt ≡ deliverable_at slots i
deliverable-at slots p i e = rw e
