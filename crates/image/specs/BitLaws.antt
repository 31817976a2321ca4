-- Flags in the low bits of a number.
use Rattle.std.specs.Prelude.{ℕ, zero, suc, ◌+◌, ◌*◌, ◌/◌, ◌%◌, ◌^◌, ◌<◌, ◌≡◌, refl, Bool, true, false, List, [], ◌∷◌, eqb, length, get_or}
use Rattle.std.proofs.Common.{sym, ap, ◌∙◌, add-zero, mul_assoc, pow-suc, div-one, arith}
use Rattle.std.proofs.Math.Nat.{pow-succ', div-div-eq-div-mul}
use mir.Val.{bool_byte}
use Rattle.theory.specs.Bools.{bit_fits}
use Rattle.theory.specs.Lists.{tabulate}

-- some flags, the first in bit 0, and a number above them
abbrev pub flagged : List Bool → ℕ → ℕ
flagged [] n = n
flagged (b ∷ bs) n = bool_byte b + 2 * flagged bs n

-- the flag in bit j of a number
abbrev pub flag_at : ℕ → ℕ → Bool
flag_at w j = eqb (w / 2 ^ j % 2) 1

bit_read : (b : Bool) → eqb (bool_byte b) 1 ≡ b
bit_read true = refl
bit_read false = refl

-- what is a flag's number reads as the flag, and what is under 2 is the number of the flag that it reads as
pub reads_as : (n : ℕ) (b : Bool) → n ≡ bool_byte b → eqb n 1 ≡ b
reads_as n b e = rw e (bit_read b)

pub read_bit : (n : ℕ) → n < 2 → bool_byte (eqb n 1) ≡ n
read_bit zero h = refl
read_bit (suc zero) h = refl
read_bit (suc (suc n)) h = absurd (omega arith)

module _ (b : Bool) (n : ℕ) where
  first_flag : (bool_byte b + 2 * n) % 2 ≡ bool_byte b
  first_flag = omega (arith, bit_fits b)

  past_first : (bool_byte b + 2 * n) / 2 ≡ n
  past_first = omega (arith, bit_fits b)

-- each flag is read back
pub flag_back : (bs : List Bool) (n j : ℕ) → j < length bs → flag_at (flagged bs n) j ≡ get_or bs j false
flag_back [] n j h = absurd (omega arith)
flag_back (b ∷ bs) n zero h = rw (div-one, first_flag b (flagged bs n)) (bit_read b)
flag_back (b ∷ bs) n (suc j) h =
    rw (pow-succ' 2 j, ← div-div-eq-div-mul (flagged (b ∷ bs) n) 2 (2 ^ j), past_first b (flagged bs n)) (flag_back bs n j (omega arith))

-- and so is the number above them
pub past_flags : (bs : List Bool) (n : ℕ) → flagged bs n / 2 ^ length bs ≡ n
past_flags [] n = div-one n
past_flags (b ∷ bs) n =
    rw (pow-succ' 2 (length bs), ← div-div-eq-div-mul (flagged (b ∷ bs) n) 2 (2 ^ length bs), past_first b (flagged bs n)) (past_flags bs n)

-- some flags alone are under 2 to their number, and what stands above them counts from there
pub flags_fit : (bs : List Bool) → flagged bs 0 < 2 ^ length bs
flags_fit [] = omega arith
flags_fit (b ∷ bs) = rw (pow-succ' 2 (length bs)) (omega (arith, bit_fits b, flags_fit bs))

pub flags-apart : (bs : List Bool) (n : ℕ) → flagged bs n ≡ flagged bs 0 + 2 ^ length bs * n
flags-apart [] n = omega arith
flags-apart (b ∷ bs) n = rw (flags-apart bs n, pow-succ' 2 (length bs), mul_assoc 2 (2 ^ length bs) n) (omega arith)

-- a number is its lowest k flags, and what stands above them
flags-from : (w i k : ℕ) → w / 2 ^ i ≡ flagged (tabulate (flag_at w) i k) (w / 2 ^ (i + k))
flags-from w i zero = rw (add-zero i)
flags-from w i (suc k) =
    let e : i + suc k ≡ suc i + k = omega arith in
    let half : w / 2 ^ suc i ≡ w / 2 ^ i / 2 = rw (pow-suc 2 i) (sym (div-div-eq-div-mul w (2 ^ i) 2)) in
    rw (e, ← flags-from w (suc i) k, half, read_bit (w / 2 ^ i % 2) (omega arith)) (omega arith)

pub flags_of : (w k : ℕ) → w ≡ flagged (tabulate (flag_at w) 0 k) (w / 2 ^ k)
flags_of w k = let e : 0 + k ≡ k = omega arith in sym (div-one w) ∙ flags-from w 0 k ∙ ap (λ (n : ℕ). flagged (tabulate (flag_at w) 0 k) (w / 2 ^ n)) e
