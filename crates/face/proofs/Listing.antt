-- Loops that list candidates into bytes, 4 for each: one INTID more. A loop goes from the INTID `first` up, and stands at i.
use Prim.Native.Nat.{ℕ, suc, ◌+◌, ◌-◌, ◌*◌, ◌≤◌, ◌<◌}
use mathlib.Core.Path.{◌≡◌, refl, sym, ap, ◌∙◌}
use mathlib.Core.Bool.{Bool, true, false, cond}
use mathlib.Core.List.{List, [], ◌∷◌, ◌++◌, append-nil, append_assoc}
use native.Mathlib.Omega.{arith}
use lib.ListN.{length, set, length-append}
use lib.Seq.{sets}
use Rattle.theory.specs.Lists.{passing, laid}
use Rattle.theory.specs.ListLaws.{laid_more, length-laid, passing_few, passing_most, passing_split, passing_agree, passing_never}
use Rattle.model.proofs.Listing.{found_one, found_none}
use Rattle.image.specs.Bytes.{bytes_of, flat}
use Rattle.image.specs.ByteLaws.{length_bytes, length-flat, flat_append}
use Rattle.face.specs.Sweeps.{LaidOut}

-- a run of stores at the place after the last
laid-sets : (xs ys l : List ℕ) → length xs + length ys ≤ length l → sets (laid xs l) (length xs) ys ≡ laid (xs ++ ys) l
laid-sets xs [] l h = ap (λ (z : List ℕ). laid z l) (sym (append-nil xs))
laid-sets xs (y ∷ ys) l h =
    let more : set (laid xs l) (length xs) y ≡ laid (xs ++ (y ∷ [])) l = laid_more xs l y (omega arith) in
    let long : length (xs ++ (y ∷ [])) ≡ suc (length xs) = length-append xs (y ∷ []) ∙ (omega arith) in
    let rest : sets (laid (xs ++ (y ∷ [])) l) (length (xs ++ (y ∷ []))) ys ≡ laid ((xs ++ (y ∷ [])) ++ ys) l = laid-sets (xs ++ (y ∷ [])) ys l (omega (arith, long)) in
    ap (λ (z : List ℕ). sets z (suc (length xs)) ys) more
    ∙ ap (λ (k : ℕ). sets (laid (xs ++ (y ∷ [])) l) k ys) (sym long)
    ∙ rest
    ∙ ap (λ (z : List ℕ). laid z l) (append_assoc xs (y ∷ []) ys)

-- INTIDs that do not pass are passed over
skipped : (t : ℕ → Bool) (first i j : ℕ) → first ≤ i → i ≤ j → ((k : ℕ) → i ≤ k → k < j → t k ≡ false) → passing t first (j - first) ≡ passing t first (i - first)
skipped t first i j low le none =
    let z : j - first ≡ i - first + (j - i) = omega arith in
    let w : first + (i - first) ≡ i = omega arith in
    let rest : passing t i (j - i) ≡ [] = passing_agree t (λ k. false) i (j - i) (λ k p q. none k p (omega arith)) ∙ passing_never (λ k. false) i (j - i) (λ k. refl) in
    rw z (passing_split t first (i - first) (j - i) ∙ (rw (w, rest) (append-nil (passing t first (i - first)))))

-- a test, and a list that has room for all that pass it below `end`
module _ (t : ℕ → Bool) (first : ℕ) (old : List ℕ) (end : ℕ) (fits : (i : ℕ) → i ≤ end → 4 * length (passing t first (i - first)) ≤ length old) where
  pub list_size : (i : ℕ) (list : List ℕ) (count : ℕ) → i ≤ end → LaidOut (passing t first (i - first)) old list count → length list ≡ length old
  list_size i list count l h =
      let f = fits i l in
      let k = length-flat 4 (passing t first (i - first)) in
      ap length h.0 ∙ length-laid (flat 4 (passing t first (i - first))) old (omega arith)

  -- there is room for the next one
  pub list_room : (i : ℕ) (list : List ℕ) (count : ℕ) → first ≤ i → i < end → LaidOut (passing t first (i - first)) old list count → t i ≡ true → 4 * count + 4 ≤ length list
  list_room i list count l b h e =
      let f = fits (i + 1) (omega arith) in
      let g : length (passing t first (i + 1 - first)) ≡ length (passing t first (i - first)) + 1 = ap length (found_one t first i l e) ∙ length-append (passing t first (i - first)) _ in
      let k = list_size i list count (omega arith) h in
      let c = h.1 in
      omega arith

  pub list_more : (i : ℕ) (list : List ℕ) (count : ℕ) (on : Bool) → first ≤ i → i < end → LaidOut (passing t first (i - first)) old list count → on ≡ t i
      → LaidOut (passing t first (i + 1 - first)) old (cond on (sets list (4 * count) (bytes_of 4 i)) list) (cond on (count + 1) count)
  list_more i list count true l b h e =
      let xs = passing t first (i - first) in
      let m = found_one t first i l (sym e) in
      let r = list_room i list count l b h (sym e) in
      let k = list_size i list count (omega arith) h in
      let q : length (flat 4 xs) ≡ 4 * count = length-flat 4 xs ∙ ap (λ (z : ℕ). 4 * z) (sym h.1) in
      let whole : flat 4 (xs ++ (i ∷ [])) ≡ flat 4 xs ++ bytes_of 4 i = flat_append 4 xs (i ∷ []) ∙ ap (λ (z : List ℕ). flat 4 xs ++ z) (append-nil (bytes_of 4 i)) in (
        rw m (ap (λ (z : List ℕ). sets z (4 * count) (bytes_of 4 i)) h.0 ∙ ap (λ (z : ℕ). sets (laid (flat 4 xs) old) z (bytes_of 4 i)) (sym q)
            ∙ laid-sets (flat 4 xs) (bytes_of 4 i) old (omega (arith, length_bytes 4 i)) ∙ ap (λ (z : List ℕ). laid z old) (sym whole)),
        rw (m, length-append xs (i ∷ []), h.1),
      )
  list_more i list count false l b h e = let m = found_none t first i l (sym e) in rw m h

  pub list_skip : (i j : ℕ) (list : List ℕ) (count : ℕ) → first ≤ i → i ≤ j → ((k : ℕ) → i ≤ k → k < j → t k ≡ false) → LaidOut (passing t first (i - first)) old list count → LaidOut (passing t first (j - first)) old list count
  list_skip i j list count low le none h = let z : passing t first (j - first) ≡ passing t first (i - first) = skipped t first i j low le none in rw z h

-- a test that only INTIDs of a table of n pass, and a list of at least n places
pub table_fits : (t : ℕ → Bool) (first : ℕ) (old : List ℕ) (n end : ℕ) → ((i : ℕ) → t i ≡ true → (32 ≤ i) × (i < 32 + n)) → 4 * n ≤ length old
    → (i : ℕ) → i ≤ end → 4 * length (passing t first (i - first)) ≤ length old
table_fits t first old n end inside enough i l = let h = passing_few t 32 (32 + n) inside first (i - first) in omega arith

-- the INTIDs of a table of n, whatever the test
pub turns_fit : (t : ℕ → Bool) (old : List ℕ) (n : ℕ) → 4 * n ≤ length old → (i : ℕ) → i ≤ 32 + n → 4 * length (passing t 32 (i - 32)) ≤ length old
turns_fit t old n enough i l = let h = passing_most t 32 (i - 32) in omega arith
