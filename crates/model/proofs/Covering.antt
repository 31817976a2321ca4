-- Which INTIDs an access covers: those of its own that the table has.
use Prim.Native.Nat.{ℕ, ◌+◌, ◌≤◌, ◌<◌}
use mathlib.Core.Path.{◌≡◌, refl, sym, ◌∙◌}
use mathlib.Core.Logic.{by_cases}
use mathlib.Core.Bool.{Bool, true, false, ◌&&◌}
use native.Mathlib.Omega.{arith}
use native.Mathlib.Decide.{dec_lt}
use borrow.Author.Tests.{le-leb, lt-leb, lt-ltb, le-ltb}
use lib.Dec.{leb, ltb}
use Rattle.theory.specs.Bools.{both}
use Rattle.identifiers.specs.Answer.{within}
use Rattle.place.specs.Table.{in_table}
use Rattle.place.specs.TableLaws.{within_both, in_range}
use Rattle.slot.specs.BankRule.{covers}

pub covers_yes : (n lo m i : ℕ) → lo ≤ i → i < lo + m → 32 ≤ i → i < 32 + n → covers n lo m i ≡ true
covers_yes n lo m i p q r s =
    let a : leb lo i ≡ true = le-leb lo i p in
    let b : ltb i (lo + m) ≡ true = lt-ltb i (lo + m) q in
    let c : leb 32 i ≡ true = le-leb 32 i r in
    let d : ltb i (32 + n) ≡ true = lt-ltb i (32 + n) s in
    rw (a, b, c, d)

pub covers_past : (n lo m i : ℕ) → lo + m ≤ i → covers n lo m i ≡ false
covers_past n lo m i p = let b : ltb i (lo + m) ≡ false = le-ltb i (lo + m) p in go (leb lo i) b
  where
    go : (x : Bool) → ltb i (lo + m) ≡ false → (x && ltb i (lo + m) && in_table n i) ≡ false
    go true b = rw b
    go false b = refl

pub covers_before : (n lo m i : ℕ) → i < lo → covers n lo m i ≡ false
covers_before n lo m i p = let a : leb lo i ≡ false = lt-leb lo i p in rw a

pub covers_out : (n lo m i : ℕ) → 32 + n ≤ i → covers n lo m i ≡ false
covers_out n lo m i p = let b : ltb i (32 + n) ≡ false = le-ltb i (32 + n) p in go (within lo (lo + m) i) (leb 32 i) b
  where
    go : (x y : Bool) → ltb i (32 + n) ≡ false → (x && (y && ltb i (32 + n))) ≡ false
    go true true b = rw b
    go true false b = refl
    go false y b = refl

-- two accesses from lo on that agree on an INTID past 31
pub covers_same : (n lo k m i : ℕ) → 32 ≤ i → (i < lo + k → lo ≤ i → i < 32 + n → i < lo + m) → (i < lo + m → lo ≤ i → i < 32 + n → i < lo + k) → covers n lo k i ≡ covers n lo m i
covers_same n lo k m i h f g = by_cases (dec_lt i lo)
    (λ p. covers_before n lo k i p ∙ sym (covers_before n lo m i p))
    (λ p. by_cases (dec_lt i (32 + n))
    (λ q. by_cases (dec_lt i (lo + k))
    (λ r. covers_yes n lo k i (omega arith) r h q ∙ sym (covers_yes n lo m i (omega arith) (f r (omega arith) q) h q))
    (λ r. by_cases (dec_lt i (lo + m))
    (λ s. absurd (r (g s (omega arith) q)))
    (λ s. covers_past n lo k i (omega arith) ∙ sym (covers_past n lo m i (omega arith)))))
    (λ q. covers_out n lo k i (omega arith) ∙ sym (covers_out n lo m i (omega arith))))

-- an INTID that is covered is among the access's, and in the table
pub covers-inside : (n lo m i : ℕ) → covers n lo m i ≡ true → (lo ≤ i) × (i < lo + m) × (32 ≤ i) × (i < 32 + n)
covers-inside n lo m i e =
    let two = both (within lo (lo + m) i) (in_table n i) e in
    let own = (within_both lo (lo + m) i).0 two.0 in
    let there = in_range n i two.1 in
    (own.0, own.1, there.0, there.1)
