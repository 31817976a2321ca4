-- A bank's fields as digits: shifts by the bits of a field, in 64 bits.
use Prim.Native.Nat.{ℕ, ◌+◌, ◌-◌, ◌*◌, ◌/◌, ◌%◌, ◌^◌, ◌<◌, ◌≤◌}
use mathlib.Core.Path.{◌≡◌, sym}
use native.Mathlib.Nat.{pow-suc, div-div-eq-div-mul, div-eq_of_lt, lt_of_lt_of_le}
use native.Mathlib.Numerals.{add-one}
use lib.Pow.{pow_mono}
use native.Mathlib.Omega.{arith}
use Rattle.bank.specs.declared.bank.Bank.{Bank}
use Rattle.bank.specs.declared.bank.Field.{Field}
use Rattle.bank.specs.declared.bank.Field.TheVariants.{Group, Priority, Configuration}
use Rattle.bank.specs.declared.bank.Bank.TheVariants.{Set, Clear, Replace}
use Rattle.bank.specs.Banks.{bits_of, field}
use Rattle.bank.specs.FieldLaws.{pow-pow}

-- what holds of a bank with 1, 2, 8 or 64 bits for each INTID holds of every bank
pub each : (P : ℕ → Type 0) → P 1 → P 2 → P 8 → P 64 → (b : Bank) → P (bits_of b)
each P one two eight all (Set f) = one
each P one two eight all (Clear f) = one
each P one two eight all (Replace Group) = one
each P one two eight all (Replace Priority) = eight
each P one two eight all (Replace Configuration) = two
each P one two eight all (Replace Field.Route) = all

-- the fields from the k-th on
pub past_fields : (b : Bank) (v k : ℕ) → v < 2 ^ 64 → 64 ≤ bits_of b * k → 0 ≡ v / (2 ^ bits_of b) ^ k
past_fields b v k h l =
    let wide : 2 ^ 64 ≤ 2 ^ (bits_of b * k) = pow_mono {i = 64} {j = bits_of b * k} l in
    rw (pow-pow (bits_of b) k) (sym (div-eq_of_lt (lt_of_lt_of_le h wide)))

pub below_same : (b : Bank) (a f : ℕ) → a * 2 ^ bits_of b + f < 2 ^ 64 → f < 2 ^ bits_of b
    → a % 2 ^ (64 - bits_of b) * 2 ^ bits_of b + f % 2 ^ bits_of b ≡ a * 2 ^ bits_of b + f
below_same b a f =
    each (λ k. a * 2 ^ k + f < 2 ^ 64 → f < 2 ^ k → a % 2 ^ (64 - k) * 2 ^ k + f % 2 ^ k ≡ a * 2 ^ k + f)
    (λ h k. omega arith) (λ h k. omega arith) (λ h k. omega arith) (λ h k. omega arith) b

-- the value is used up field by field
pub used : (b : ℕ) (value v j : ℕ) → v ≡ value / b ^ j → v / b ≡ value / b ^ (j + 1)
used b value v j e = rw (add-one j, pow-suc b j, e) (div-div-eq-div-mul value (b ^ j) b)

pub field_at : (b : Bank) (value v lo j : ℕ) → v ≡ value / (2 ^ bits_of b) ^ j → v % 2 ^ bits_of b ≡ field b value lo (lo + j)
field_at b value v lo j e = let z : lo + j - lo ≡ j = omega arith in rw (z, e)
