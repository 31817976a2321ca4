-- Loops that go from the INTID `first` up and stand at i: what they have found, one INTID more.
use Prim.Native.Nat.{ℕ, ◌+◌, ◌-◌, ◌≤◌}
use mathlib.Core.Path.{◌≡◌, ◌∙◌}
use mathlib.Core.Bool.{Bool, true, false, cond}
use mathlib.Core.List.{[], ◌∷◌, ◌++◌, append-nil}
use native.Mathlib.Numerals.{add-one}
use native.Mathlib.Omega.{arith}
use Rattle.theory.specs.Lists.{passing}
use Rattle.theory.specs.ListLaws.{passing_more}

module _ (t : ℕ → Bool) (first i : ℕ) (low : first ≤ i) where
  next : passing t first (i + 1 - first) ≡ passing t first (i - first) ++ cond (t i) (i ∷ []) []
  next =
      let z : i + 1 - first ≡ i - first + 1 = omega arith in
      let w : first + (i - first) ≡ i = omega arith in
      rw (z, add-one (i - first)) (passing_more t first (i - first) ∙ (rw w))

  pub found_one : t i ≡ true → passing t first (i + 1 - first) ≡ passing t first (i - first) ++ (i ∷ [])
  found_one e = next ∙ (rw e)

  pub found_none : t i ≡ false → passing t first (i + 1 - first) ≡ passing t first (i - first)
  found_none e = next ∙ (rw e (append-nil (passing t first (i - first))))
