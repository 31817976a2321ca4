-- The zeros below a number's lowest 1: flags that do not act.
use Prim.Native.Nat.{ℕ, zero, suc, ◌/◌, ◌%◌, ◌^◌, ◌≤◌, ◌<◌}
use mathlib.Core.Path.{◌≡◌, refl, sym}
use mathlib.Core.Bool.{Bool, true, false, cond}
use native.Mathlib.Nat.{pow-zero, pow-succ', div-one, div-div-eq-div-mul}
use native.Mathlib.Omega.{arith}
use lib.Count.{count_trailing_zeros, under, trailing_le}
use Rattle.bank.specs.declared.bank.Bank.{Bank}
use Rattle.bank.specs.declared.bank.Bank.TheVariants.{Set, Clear, Replace}
use Rattle.bank.specs.Banks.{rule_of, bits_of, acts, idle_fields}

-- a digit higher in a number is a digit lower in its half
halved : (v j : ℕ) → v / 2 ^ suc j ≡ v / 2 / 2 ^ j
halved v j = rw (pow-succ' 2 j) (sym (div-div-eq-div-mul v 2 (2 ^ j)))

pub zeros_below : (k v j : ℕ) → j < count_trailing_zeros k v → v / 2 ^ j % 2 ≡ 0
unfolding count_trailing_zeros
zeros_below zero v j h = absurd (omega arith)
zeros_below (suc k) v j h = go (zeros_below k (v / 2)) (v % 2) (omega arith) j h
  where
    go : ((i : ℕ) → i < count_trailing_zeros k (v / 2) → v / 2 / 2 ^ i % 2 ≡ 0) → (d : ℕ) → v % 2 ≡ d → (j : ℕ) → j < under d (count_trailing_zeros k (v / 2)) → v / 2 ^ j % 2 ≡ 0
    go higher zero e zero h = rw (pow-zero 2, div-one v) e
    go higher zero e (suc j) h = rw (halved v j) (higher j (omega arith))
    go higher (suc d) e j h = absurd (omega arith)

-- none of the fields that are passed over acts
pub passed_over : (b : Bank) (v j : ℕ) → j < idle_fields b v → acts b (v / (2 ^ bits_of b) ^ j % 2 ^ bits_of b) ≡ false
passed_over (Set f) v j h = let z = zeros_below 64 v j h in rw z
passed_over (Clear f) v j h = let z = zeros_below 64 v j h in rw z
passed_over (Replace x) v j h = go (rule_of x).takes_writes h
  where
    go : (t : Bool) → j < cond t 0 64 → t ≡ false
    go true h = absurd (omega arith)
    go false h = refl

pub passed_most : (b : Bank) (v : ℕ) → idle_fields b v ≤ 64
passed_most (Set f) v = trailing_le 64 v
passed_most (Clear f) v = trailing_le 64 v
passed_most (Replace x) v = go (rule_of x).takes_writes
  where
    go : (t : Bool) → cond t 0 64 ≤ 64
    go true = omega arith
    go false = omega arith
