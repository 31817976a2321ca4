-- Numbers as bytes, the lowest byte first.
use Rattle.std.specs.Prelude.{ℕ, zero, suc, ◌+◌, ◌*◌, ◌/◌, ◌%◌, ◌^◌, ◌<◌, Bool, List, [], ◌∷◌, ◌++◌, eqb, get_or}

-- byte k of a number, and bit j of that byte
abbrev pub byte_of : ℕ → ℕ → ℕ
byte_of k w = w / 2 ^ (8 * k) % 256

abbrev pub bit_of : ℕ → ℕ → ℕ → Bool
bit_of k j w = eqb (w / 2 ^ (8 * k + j) % 2) 1

-- the k lowest bytes of a number
unfoldable pub bytes_of : ℕ → ℕ → List ℕ
bytes_of zero n = []
bytes_of (suc k) n = n % 256 ∷ bytes_of k (n / 256)

-- the number in the k bytes from `at` on
unfoldable pub number_at : ℕ → ℕ → List ℕ → ℕ
number_at zero at l = 0
number_at (suc k) at l = get_or l at 0 + 256 * number_at k (at + 1) l

-- the bytes of some numbers, k each
abbrev pub flat : ℕ → List ℕ → List ℕ
flat k [] = []
flat k (n ∷ ns) = bytes_of k n ++ flat k ns

-- what the code's type says of a list of bytes
pub record Bytes (l : List ℕ) : Type 0 where
  pub byte : (i : ℕ) → get_or l i 0 < 256
