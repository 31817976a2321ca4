-- Numbers as bytes: what is stored is what is read, and bytes are those of the number that stands in them.
use Prim.Native.Nat.{ℕ, zero, suc, ◌+◌, ◌*◌, ◌/◌, ◌%◌, ◌^◌, ◌≤◌, ◌<◌}
use Rattle.std.specs.Prelude.{◌≡◌, refl, ◌⊎◌, length, set, drop}
use Rattle.std.proofs.Math.Path.{ap}
use Rattle.std.proofs.Common.{sym, ◌∙◌, inl, inr, ⊎_elim, add-zero, mul-suc, mul_assoc, div-one, pow-add, length-append, length-set, take, take-append-drop, length-take-le, get_or-take, drop-cons, get_or-append-add, get_or-set_same, get_or-set_other}
use mathlib.Core.List.{List, [], ◌∷◌, ◌++◌, append_assoc}
use Rattle.std.proofs.Math.Nat.{pow-suc, pow-succ', one-le-pow, div-div-eq-div-mul}
use native.Mathlib.Omega.{arith}
use Rattle.std.proofs.Math.Arith.{mod-mul}
use Rattle.std.proofs.Math.ListN.{get_or}
use Rattle.std.proofs.Math.Seq.{paste}
use Rattle.std.proofs.lemmas.List.Edits.{sets, sets-eq, paste_all}
use Rattle.theory.specs.Lists.{tabulate}
use Rattle.image.specs.Bytes.{byte_of, bytes_of, number_at, flat, Bytes}

-- ---- a run of stores

-- one run after another is one run
pub sets-append : (xs ys l : List ℕ) (i : ℕ) → sets l i (xs ++ ys) ≡ sets (sets l i xs) (i + length xs) ys
sets-append [] ys l i = rw (add-zero i)
sets-append (x ∷ xs) ys l i = let e : i + suc (length xs) ≡ suc i + length xs = omega arith in rw e (sets-append xs ys (set l i x) (suc i))

-- and is a part that was replaced as a whole
pub sets_part : (vs l : List ℕ) (i k : ℕ) → length vs ≡ k → i + k ≤ length l → paste l i vs k ≡ sets l i vs
sets_part vs l i k e h = paste_all l i vs k (sym e) ∙ (rw (sets-eq vs l i (rw e h), e, append_assoc))

-- the places beside the stored ones are as they were
pub sets_beside : (vs l : List ℕ) (i j : ℕ) → (j < i) ⊎ (i + length vs ≤ j) → get_or (sets l i vs) j 0 ≡ get_or l j 0
sets_beside [] l i j h = refl
sets_beside (v ∷ vs) l i j h =
    sets_beside vs (set l i v) (suc i) j (⊎_elim (λ x. inl (omega arith)) (λ x. inr (omega arith)) h)
    ∙ get_or-set_other l i j v 0 (λ e. ⊎_elim (λ x. omega arith) (λ x. omega arith) h)

-- ---- a number's bytes

-- there are k of them
pub length_bytes : (k n : ℕ) → length (bytes_of k n) ≡ k
unfolding bytes_of
length_bytes zero n = refl
length_bytes (suc k) n = ap suc (length_bytes k (n / 256))

-- and k for each of some numbers
pub length-flat : (k : ℕ) (ns : List ℕ) → length (flat k ns) ≡ k * length ns
length-flat k [] = omega arith
length-flat k (n ∷ ns) = rw (length-append, length_bytes, length-flat k ns, mul-suc) (omega arith)

byte_weight : (j : ℕ) → 2 ^ (8 * j) ≡ 256 ^ j
byte_weight zero = refl
byte_weight (suc j) = let e : 8 * suc j ≡ 8 * j + 8 = omega arith in rw (e, pow-add 2 (8 * j) 8, byte_weight j, pow-suc 256 j)

bytes_from : (n i k : ℕ) → bytes_of k (n / 256 ^ i) ≡ tabulate (λ j. byte_of j n) i k
unfolding bytes_of
bytes_from n i zero = refl
bytes_from n i (suc k) = rw (byte_weight i, div-div-eq-div-mul n (256 ^ i) 256, ← pow-suc 256 i, bytes_from n (suc i) k)

-- they are the number's bytes 0 to k - 1
pub bytes_listed : (k n : ℕ) → bytes_of k n ≡ tabulate (λ j. byte_of j n) 0 k
bytes_listed k n = let e : n / 256 ^ 0 ≡ n = div-one n in rw e at (bytes_from n 0 k)

-- the low bytes, then the high ones
pub bytes_split : (j k n : ℕ) → bytes_of (j + k) n ≡ bytes_of j n ++ bytes_of k (n / 256 ^ j)
unfolding bytes_of
bytes_split zero k n = let e : 0 + k ≡ k = omega arith in rw (e, div-one n)
bytes_split (suc j) k n =
    let e : suc j + k ≡ suc (j + k) = omega arith in
    rw (e, bytes_split j k (n / 256), pow-succ' 256 j, ← div-div-eq-div-mul n 256 (256 ^ j))

-- the first of them are those of fewer
pub bytes_taken : (k j n : ℕ) → k ≤ j → take k (bytes_of j n) ≡ bytes_of k n
unfolding bytes_of
bytes_taken zero j n h = refl
bytes_taken (suc k) zero n h = absurd (omega arith)
bytes_taken (suc k) (suc j) n h = ap (λ l. n % 256 ∷ l) (bytes_taken k j (n / 256) (omega arith))

-- the low bytes go by what is left of a division alone
pub bytes_low : (k n : ℕ) → bytes_of k (n % 256 ^ k) ≡ bytes_of k n
unfolding bytes_of
bytes_low zero n = refl
bytes_low (suc k) n =
    let q = n / 256 % 256 ^ k in
    let e : n % 256 ^ suc k ≡ q * 256 + n % 256 = rw (pow-suc 256 k) (mod-mul n (one-le-pow k 256 (omega arith)) (omega arith)) in
    let low : (q * 256 + n % 256) % 256 ≡ n % 256 = omega arith in
    let high : (q * 256 + n % 256) / 256 ≡ q = omega arith in
    rw (e, low, high, bytes_low k (n / 256))

-- the bytes of some numbers, then those of more
pub flat_append : (k : ℕ) (ms ns : List ℕ) → flat k (ms ++ ns) ≡ flat k ms ++ flat k ns
flat_append k [] ns = refl
flat_append k (m ∷ ms) ns = rw (flat_append k ms ns, append_assoc)

bytes_before : (k n : ℕ) (l : List ℕ) → Bytes l → (i : ℕ) → get_or (bytes_of k n ++ l) i 0 < 256
unfolding bytes_of
bytes_before zero n l b i = b.byte i
bytes_before (suc k) n l b zero = omega arith
bytes_before (suc k) n l b (suc i) = bytes_before k (n / 256) l b i

-- the bytes of some numbers are bytes
pub flat_bytes : (k : ℕ) (ns : List ℕ) → Bytes (flat k ns)
flat_bytes k [] = record { byte = λ i. omega arith }
flat_bytes k (n ∷ ns) = record { byte = bytes_before k n (flat k ns) (flat_bytes k ns) }

-- ---- the number in some bytes

-- it goes by those bytes alone
pub number_same : (k at : ℕ) (l m : List ℕ) → ((j : ℕ) → at ≤ j → j < at + k → get_or l j 0 ≡ get_or m j 0) → number_at k at l ≡ number_at k at m
unfolding number_at
number_same zero at l m h = refl
number_same (suc k) at l m h =
    let here : get_or l at 0 ≡ get_or m at 0 = h at (omega arith) (omega arith) in
    let rest : number_at k (at + 1) l ≡ number_at k (at + 1) m = number_same k (at + 1) l m (λ j p q. h j (omega arith) (omega arith)) in
    λ i. here i + 256 * rest i

-- the low bytes, then the high ones
pub number_split : (j k at : ℕ) (l : List ℕ) → number_at (j + k) at l ≡ number_at j at l + 256 ^ j * number_at k (at + j) l
unfolding number_at
number_split zero k at l = let e : 0 + k ≡ k = omega arith in rw (e, add-zero at) (omega arith)
number_split (suc j) k at l =
    let e : suc j + k ≡ suc (j + k) = omega arith in
    let f : at + suc j ≡ at + 1 + j = omega arith in
    rw (e, f, number_split j k (at + 1) l, pow-succ' 256 j, mul_assoc 256 (256 ^ j)) (omega arith)

-- the first bytes of a list do not count
number_past : (k o : ℕ) (xs l : List ℕ) → number_at k (length xs + o) (xs ++ l) ≡ number_at k o l
unfolding number_at
number_past zero o xs l = refl
number_past (suc k) o xs l =
    let e : length xs + o + 1 ≡ length xs + (o + 1) = omega arith in
    rw (get_or-append-add, e, number_past k (o + 1) xs l)

-- it is the number of the part that they are
pub number_part : (k at n : ℕ) (l : List ℕ) → at ≤ length l → k ≤ n → number_at k 0 (take n (drop at l)) ≡ number_at k at l
number_part k at n l h g =
    number_same k 0 (take n (drop at l)) (drop at l) (λ j p q. get_or-take n (drop at l) j 0 (omega arith))
    ∙ sym (number_past k 0 (take at l) (drop at l))
    ∙ (let e : length (take at l) + 0 ≡ at = rw (length-take-le at l h) (omega arith) in rw (e, take-append-drop))

-- a number that fits is read back where its bytes were stored
pub number-stored : (k : ℕ) (l : List ℕ) (at w : ℕ) → at + k ≤ length l → w < 256 ^ k → number_at k at (sets l at (bytes_of k w)) ≡ w
unfolding bytes_of number_at
number-stored zero l at w h f = omega arith
number-stored (suc k) l at w h f =
    let m = set l at (w % 256) in
    let room : at + 1 + k ≤ length m = rw length-set (omega arith) in
    let e : at + 1 ≡ suc at = omega arith in
    let small : w < 256 ^ k * 256 = rw pow-suc at f in
    let here : get_or (sets m (suc at) (bytes_of k (w / 256))) at 0 ≡ w % 256 = sets_beside (bytes_of k (w / 256)) m (suc at) at (inl (omega arith)) ∙ get_or-set_same l at (w % 256) 0 (omega arith) in
    let rest : number_at k (at + 1) (sets m (suc at) (bytes_of k (w / 256))) ≡ w / 256 = rw (← e) (number-stored k m (at + 1) (w / 256) room (omega arith)) in
    rw (here, rest) (omega arith)

-- a store beside a number's bytes leaves the number
pub number_beside : (k : ℕ) (l : List ℕ) (at o : ℕ) (vs : List ℕ) → (o + k ≤ at) ⊎ (at + length vs ≤ o) → number_at k o (sets l at vs) ≡ number_at k o l
number_beside k l at o vs h =
    number_same k o (sets l at vs) l (λ j p q. sets_beside vs l at j (⊎_elim (λ x. inl (omega arith)) (λ x. inr (omega arith)) h))

number-first : (k w : ℕ) (l : List ℕ) → w < 256 ^ k → number_at k 0 (bytes_of k w ++ l) ≡ w
unfolding bytes_of number_at
number-first zero w l f = omega arith
number-first (suc k) w l f =
    let small : w < 256 ^ k * 256 = rw pow-suc at f in
    rw (number_past k 0 (w % 256 ∷ []) (bytes_of k (w / 256) ++ l), number-first k (w / 256) l (omega arith)) (omega arith)

-- a number that fits is read back from the bytes of some numbers
pub number-flat : (k : ℕ) (ws : List ℕ) (i : ℕ) → i < length ws → get_or ws i 0 < 256 ^ k → number_at k (k * i) (flat k ws) ≡ get_or ws i 0
number-flat k [] i h f = absurd (omega arith)
number-flat k (w ∷ ws) zero h f = let e : k * 0 ≡ 0 = omega arith in rw e (number-first k w (flat k ws) f)
number-flat k (w ∷ ws) (suc i) h f =
    let e : k * suc i ≡ length (bytes_of k w) + k * i = rw (length_bytes, mul-suc) (omega arith) in
    rw (e, number_past k (k * i) (bytes_of k w) (flat k ws)) (number-flat k ws i (omega arith) f)

-- ---- in a list of bytes

module _ (l : List ℕ) (b : Bytes l) where
  -- the number fits the bytes
  pub number_fits : (k at : ℕ) → number_at k at l < 256 ^ k
  unfolding number_at
  number_fits zero at = omega arith
  number_fits (suc k) at = rw pow-suc (omega (arith, b.byte at, number_fits k (at + 1)))

  -- and they are its bytes
  pub bytes_are : (k at : ℕ) → at + k ≤ length l → drop at l ≡ bytes_of k (number_at k at l) ++ drop (at + k) l
  unfolding bytes_of number_at
  bytes_are zero at h = rw (add-zero at)
  bytes_are (suc k) at h =
      let e : at + 1 ≡ suc at = omega arith in
      let f : at + suc k ≡ suc at + k = omega arith in
      let low : (get_or l at 0 + 256 * number_at k (at + 1) l) % 256 ≡ get_or l at 0 = omega (arith, b.byte at) in
      let high : (get_or l at 0 + 256 * number_at k (at + 1) l) / 256 ≡ number_at k (at + 1) l = omega (arith, b.byte at) in
      rw (low, high, e, f) (drop-cons l at 0 (omega arith) ∙ ap (λ (x : List ℕ). get_or l at 0 ∷ x) (bytes_are k (suc at) (omega arith)))

  byte_in : (k at j : ℕ) → j < k → number_at k at l / 256 ^ j % 256 ≡ get_or l (at + j) 0
  unfolding number_at
  byte_in zero at j h = absurd (omega arith)
  byte_in (suc k) at zero h = rw (add-zero at, div-one) (omega (arith, b.byte at))
  byte_in (suc k) at (suc j) h =
      let high : (get_or l at 0 + 256 * number_at k (at + 1) l) / 256 ≡ number_at k (at + 1) l = omega (arith, b.byte at) in
      let e : at + suc j ≡ at + 1 + j = omega arith in
      rw (pow-succ' 256 j, ← div-div-eq-div-mul _ 256 (256 ^ j), high, e) (byte_in k (at + 1) j (omega arith))

  -- byte j of the number is byte j of the bytes
  pub byte_of_number : (k at j : ℕ) → j < k → byte_of j (number_at k at l) ≡ get_or l (at + j) 0
  byte_of_number k at j h = rw (byte_weight j) (byte_in k at j h)
