-- Whether every named record is good, from what a loop has found.
use Prim.Native.Nat.{ℕ, ◌+◌, ◌-◌, ◌≤◌, ◌<◌}
use mathlib.Core.Path.{◌≡◌, sym}
use mathlib.Core.Bool.{Bool, true, false, not}
use mathlib.Core.List.{List}
use mathlib.Core.Logic.{by_cases}
use native.Mathlib.Decide.{dec_lt}
use native.Mathlib.Omega.{arith}
use Rattle.image.specs.Kept.{good_word}
use Rattle.image.specs.Meaning.{record_at}

-- what a loop has found: the named records from the INTID `from` up to below `end` are good
pub record GoodFrom (named : ℕ → Bool) (from end : ℕ) (image : List ℕ) : Type 0 where
  pub good : (i : ℕ) → from ≤ i → i < end → named i ≡ true → good_word (record_at image (i - 32)) ≡ true

module _ (named : ℕ → Bool) (from i : ℕ) (image : List ℕ) (h : GoodFrom named from i image) where
  -- one INTID more
  pub good_more : (p : ℕ) → p ≡ i - 32 → (named i ≡ true → good_word (record_at image p) ≡ true) → GoodFrom named from (i + 1) image
  good_more p at k =
      record {
        good = λ j a b t. by_cases (dec_lt j i)
            (λ r. h.good j a r t)
            (λ r. let e : j ≡ i = omega arith in rw (e, ← at) (k (rw e at t)));
      }

  -- INTIDs that are not named are passed over
  pub good-skip : (end : ℕ) → ((j : ℕ) → i ≤ j → j < end → named j ≡ false) → GoodFrom named from end image
  good-skip end none =
      record {
        good = λ j a b t. by_cases (dec_lt j i)
            (λ r. h.good j a r t)
            (λ r. let z : ◌≡◌ {A = ℕ} 0 1 = cc (none j (omega arith) b) in absurd (omega arith));
      }

-- one INTID less, for a loop that goes down
pub good_less : (named : ℕ → Bool) (i end : ℕ) (image : List ℕ) → GoodFrom named i end image → (p : ℕ) → p ≡ i - 1 - 32
    → (named (i - 1) ≡ true → good_word (record_at image p) ≡ true) → GoodFrom named (i - 1) end image
good_less named i end image h p at k =
    record {
      good = λ j a b t. by_cases (dec_lt j i)
          (λ r. let e : j ≡ i - 1 = omega arith in rw (e, ← at) (k (rw e at t)))
          (λ r. h.good j (omega arith) b t);
    }

-- what the code's test of a record says
pub found_bad : (x g : Bool) → x ≡ g → not x ≡ true → g ≡ false
found_bad true g e t = let z : ◌≡◌ {A = ℕ} 0 1 = cc in absurd (omega arith)
found_bad false g e t = sym e

pub found_good : (x g : Bool) → x ≡ g → not x ≡ false → g ≡ true
found_good true g e t = sym e
found_good false g e t = let z : ◌≡◌ {A = ℕ} 0 1 = cc in absurd (omega arith)
