-- Laws of the test whether every named record is good.
use Rattle.std.specs.Prelude.{ℕ, zero, suc, ◌+◌, ◌-◌, ◌≤◌, ◌<◌, ◌≡◌, refl, Bool, true, false, not, ◌||◌, List}
use Rattle.std.proofs.Common.{ap, arith}
use Rattle.std.proofs.Math.Bool.{and-false}
use Rattle.std.proofs.Math.Logic.{by_cases}
use Rattle.std.proofs.Math.Decide.{ℕ_discrete}
use Rattle.theory.specs.Bools.{both}
use Rattle.image.specs.Kept.{good_word}
use Rattle.image.specs.Meaning.{record_at}
use Rattle.image_model.specs.Face.{every, good_where}

every_all : (t : ℕ → Bool) (k n : ℕ) → ((i : ℕ) → k ≤ i → i < k + n → t i ≡ true) → every t k n ≡ true
every_all t k zero h = refl
every_all t k (suc n) h =
    let here : t k ≡ true = h k (omega arith) (omega arith) in
    let rest : every t (suc k) n ≡ true = every_all t (suc k) n (λ i p q. h i (omega arith) (omega arith)) in
    rw (here, rest)

every-at : (t : ℕ → Bool) (k n : ℕ) → every t k n ≡ true → (i : ℕ) → k ≤ i → i < k + n → t i ≡ true
every-at t k zero e i p q = absurd (omega arith)
every-at t k (suc n) e i p q =
    let two = both (t k) (every t (suc k) n) e in
    by_cases (ℕ_discrete k i) (λ z. rw (← z) two.0) (λ z. every-at t (suc k) n two.1 i (omega arith) (omega arith))

every_not : (t : ℕ → Bool) (k n i : ℕ) → k ≤ i → i < k + n → t i ≡ false → every t k n ≡ false
every_not t k zero i p q e = absurd (omega arith)
every_not t k (suc n) i p q e =
    by_cases (ℕ_discrete k i)
    (λ z. let here : t k ≡ false = rw z e in rw here)
    (λ z. let rest : every t (suc k) n ≡ false = every_not t (suc k) n i (omega arith) (omega arith) e in rw rest (and-false (t k)))

module _ (named : ℕ → Bool) (n : ℕ) (image : List ℕ) where
  abbrev good : ℕ → Bool
  good i = good_word (record_at image (i - 32))

  passes : (i : ℕ) → (named i ≡ true → good i ≡ true) → (not (named i) || good i) ≡ true
  passes i h = go (named i) h
    where
      go : (b : Bool) → (b ≡ true → good i ≡ true) → (not b || good i) ≡ true
      go true h = h refl
      go false h = refl

  -- each named record is good
  pub good_all : ((i : ℕ) → 32 ≤ i → i < 32 + n → named i ≡ true → good i ≡ true) → good_where named n image ≡ true
  good_all h = every_all (λ i. not (named i) || good i) 32 n (λ i p q. passes i (h i p q))

  pub good-at : good_where named n image ≡ true → (i : ℕ) → 32 ≤ i → i < 32 + n → named i ≡ true → good i ≡ true
  good-at e i p q k =
      let t : (not (named i) || good i) ≡ true = every-at (λ i. not (named i) || good i) 32 n e i p q in
      rw k at t

  -- a bad one was found
  pub good_not : (i : ℕ) → 32 ≤ i → i < 32 + n → named i ≡ true → good i ≡ false → good_where named n image ≡ false
  good_not i p q k g = every_not (λ i. not (named i) || good i) 32 n i p q (rw (k, g))

  -- nothing is named
  pub good_none : ((i : ℕ) → named i ≡ false) → good_where named n image ≡ true
  good_none h = good_all (λ i p q k. let z : ◌≡◌ {A = ℕ} 0 1 = cc (h i) in absurd (omega arith))

every_agree : (t u : ℕ → Bool) (k n : ℕ) → ((i : ℕ) → k ≤ i → i < k + n → t i ≡ u i) → every t k n ≡ every u k n
every_agree t u k zero h = refl
every_agree t u k (suc n) h =
    let here = h k (omega arith) (omega arith) in
    let rest = every_agree t u (suc k) n (λ i p q. h i (omega arith) (omega arith)) in
    rw (here, rest)

-- two ways to name the same SPIs
pub good_agree : (named other : ℕ → Bool) (n : ℕ) (image : List ℕ) → ((i : ℕ) → 32 ≤ i → i < 32 + n → named i ≡ other i) → good_where named n image ≡ good_where other n image
good_agree named other n image h =
    every_agree (λ i. not (named i) || good_word (record_at image (i - 32))) (λ i. not (other i) || good_word (record_at image (i - 32))) 32 n
    (λ i p q. ap (λ (b : Bool). not b || good_word (record_at image (i - 32))) (h i p q))

-- two images whose records are good alike
pub good-alike : (named : ℕ → Bool) (n : ℕ) (l m : List ℕ) → ((p : ℕ) → p < n → good_word (record_at l p) ≡ good_word (record_at m p)) → good_where named n l ≡ good_where named n m
good-alike named n l m h =
    every_agree (λ i. not (named i) || good_word (record_at l (i - 32))) (λ i. not (named i) || good_word (record_at m (i - 32))) 32 n
    (λ i p q. ap (λ (b : Bool). not (named i) || b) (h (i - 32) (omega arith)))
