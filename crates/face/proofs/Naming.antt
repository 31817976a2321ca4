-- Which SPIs a bank write names: those whose field acts. Fields that do not act are passed over.
use Prim.Native.Nat.{ℕ, zero, suc, ◌+◌, ◌-◌, ◌/◌, ◌%◌, ◌^◌, ◌≤◌, ◌<◌, max}
use mathlib.Core.Path.{◌≡◌, refl, sym, ap, ◌∙◌}
use mathlib.Core.Bool.{Bool, true, false, ◌&&◌, cond, and-false}
use native.Mathlib.Nat.{div-div-eq-div-mul, pow-zero, pow-succ', div-one}
use lib.Count.{count_trailing_zeros, under}
use lib.Pow.{pow-add}
use native.Mathlib.Omega.{arith}
use Rattle.theory.specs.Bools.{both}
use Rattle.bank.specs.declared.bank.Bank.{Bank}
use Rattle.bank.specs.declared.bank.Bank.TheVariants.{Set, Clear, Replace}
use Rattle.bank.specs.Banks.{rule_of, bits_of, acts, field, idle_fields}
use Rattle.bank.proofs.Idling.{passed_over}
use Rattle.slot.specs.BankRule.{covers}
use Rattle.model.proofs.Covering.{covers_yes, covers-inside}

-- a digit higher in a number is a digit lower in its half
halved : (v j : ℕ) → v / 2 ^ suc j ≡ v / 2 / 2 ^ j
halved v j = rw (pow-succ' 2 j) (sym (div-div-eq-div-mul v 2 (2 ^ j)))

-- above its zeros a number has a 1
one_next : (k v : ℕ) → count_trailing_zeros k v < k → v / 2 ^ count_trailing_zeros k v % 2 ≡ 1
unfolding count_trailing_zeros
one_next zero v h = absurd (omega arith)
one_next (suc k) v h = go (one_next k (v / 2)) (v % 2) (omega arith) h
  where
    go : (count_trailing_zeros k (v / 2) < k → v / 2 / 2 ^ count_trailing_zeros k (v / 2) % 2 ≡ 1) → (d : ℕ) → v % 2 ≡ d
        → under d (count_trailing_zeros k (v / 2)) < suc k → v / 2 ^ under d (count_trailing_zeros k (v / 2)) % 2 ≡ 1
    go higher zero e h = rw (halved v (count_trailing_zeros k (v / 2))) (higher (omega arith))
    go higher (suc d) e h = rw (pow-zero 2, div-one v) (omega arith)

-- the field after those that are passed over acts
acts_next : (b : Bank) (v : ℕ) → idle_fields b v < 64 → acts b (v / (2 ^ bits_of b) ^ idle_fields b v % 2 ^ bits_of b) ≡ true
acts_next (Set f) v h = let e = one_next 64 v h in rw e
acts_next (Clear f) v h = let e = one_next 64 v h in rw e
acts_next (Replace x) v h = go (rule_of x).takes_writes h
  where
    go : (t : Bool) → cond t 0 64 < 64 → t ≡ true
    go true h = refl
    go false h = absurd (omega arith)

module _ (n : ℕ) (b : Bank) (value lo m : ℕ) where
  abbrev pub written : ℕ → Bool
  written i = covers n lo m i && acts b (field b value lo i)

  pub written-inside : (i : ℕ) → written i ≡ true → (lo ≤ i) × (i < lo + m) × (32 ≤ i) × (i < 32 + n)
  written-inside i e = covers-inside n lo m i (both (covers n lo m i) _ e).0

  -- the loop stands at i, and v is what is left of the value there
  module _ (i v : ℕ) (low : lo ≤ i) (left : v ≡ value / (2 ^ bits_of b) ^ (i - lo)) where
    pub left_at : (z : ℕ) → v / (2 ^ bits_of b) ^ z ≡ value / (2 ^ bits_of b) ^ (i + z - lo)
    left_at z =
        let e : i + z - lo ≡ i - lo + z = omega arith in
        rw (left, e, pow-add (2 ^ bits_of b) (i - lo) z) (div-div-eq-div-mul value ((2 ^ bits_of b) ^ (i - lo)) ((2 ^ bits_of b) ^ z))

    -- the field of an INTID further up
    pub field_left : (z : ℕ) → v / (2 ^ bits_of b) ^ z % 2 ^ bits_of b ≡ field b value lo (i + z)
    field_left z = ap (λ (x : ℕ). x % 2 ^ bits_of b) (left_at z)

    -- the INTIDs that are passed over are not named
    pub idle_here : (j : ℕ) → i ≤ j → j < i + idle_fields b v → acts b (field b value lo j) ≡ false
    idle_here j p q =
        let e : i + (j - i) ≡ j = omega arith in
        ap (λ (x : ℕ). acts b (field b value lo x)) (sym e) ∙ ap (acts b) (sym (field_left (j - i))) ∙ passed_over b v (j - i) (omega arith)

    pub not_written : (j : ℕ) → i ≤ j → j < i + idle_fields b v → written j ≡ false
    not_written j p q = let e = idle_here j p q in rw e (and-false (covers n lo m j))

    -- and the next one is
    pub written_next : (j : ℕ) → j ≡ i + idle_fields b v → idle_fields b v < 64 → j < lo + m → 32 ≤ j → j < 32 + n → written j ≡ true
    written_next j e small q r t =
        let c = covers_yes n lo m j (omega arith) q r t in
        let a : acts b (field b value lo j) ≡ true = ap (λ (x : ℕ). acts b (field b value lo x)) e ∙ ap (acts b) (sym (field_left (idle_fields b v))) ∙ acts_next b v small in
        rw (c, a)

-- a turn of the loop stays within its bounds
pub one_more : (i first end : ℕ) → i < end → i + 1 ≤ max first end
one_more i first end h = omega arith

pub same_turns : (first end i : ℕ) → first ≤ i → i ≤ max first end → end ≤ i → end - first ≡ i - first
same_turns first end i low high done = omega arith
