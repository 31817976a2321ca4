-- An image is filled from its start: the header, and then a record for each SPI.
use Prim.Native.Nat.{ℕ, zero, suc, ◌+◌, ◌*◌, ◌^◌, ◌≤◌}
use mathlib.Core.Path.{◌≡◌, sym, ap, ◌∙◌}
use mathlib.Core.Bool.{false}
use mathlib.Core.List.{List, [], ◌∷◌, ◌++◌, append_assoc, append-nil}
use native.Mathlib.Omega.{arith}
use lib.ListN.{length, replicate, take, drop, length-append}
use lib.Seq.{sets, sets-eq, take_at, take_all, length-take-le, length-sets}
use Rattle.controller.specs.declared.controller.ControllerConfig.{ControllerConfig}
use Rattle.model.specs.Calls.{created}
use Rattle.image.specs.Bytes.{bytes_of, flat}
use Rattle.image.specs.ByteLaws.{length_bytes}
use Rattle.image.specs.Header.{header_words}
use Rattle.image.specs.Meaning.{image_of}
use Rattle.image_model.specs.CreateLaws.{created_image}
use Rattle.face.specs.Sweeps.{Sized}

-- the bytes up to the end of a number that was stored
take_store : (l : List ℕ) (at w : ℕ) → at + 8 ≤ length l → take (at + 8) (sets l at (bytes_of 8 w)) ≡ take at l ++ bytes_of 8 w
take_store l at w room =
    let size : length (bytes_of 8 w) ≡ 8 = length_bytes 8 w in
    let before : length (take at l) ≡ at = length-take-le at l (omega arith) in
    let front : length (take at l ++ bytes_of 8 w) ≡ at + 8 = rw (length-append, size, before) in
    ap (take (at + 8)) (sets-eq (bytes_of 8 w) l at (rw size room)) ∙ take_at (take at l ++ bytes_of 8 w) (drop (at + length (bytes_of 8 w)) l) (at + 8) front

-- the header's three numbers
pub header_stored : (l : List ℕ) (a b c : ℕ) → 24 ≤ length l
    → take 24 (sets (sets (sets l 0 (bytes_of 8 a)) 8 (bytes_of 8 b)) 16 (bytes_of 8 c)) ≡ flat 8 (a ∷ b ∷ c ∷ [])
header_stored l a b c room =
    let one : List ℕ = sets l 0 (bytes_of 8 a) in
    let two : List ℕ = sets one 8 (bytes_of 8 b) in
    let long = length-sets l 0 (bytes_of 8 a) in
    let longer = length-sets one 8 (bytes_of 8 b) in
    let first : take 8 one ≡ bytes_of 8 a = take_store l 0 a (omega arith) in
    let second : take 16 two ≡ take 8 one ++ bytes_of 8 b = take_store one 8 b (omega arith) in
    take_store two 16 c (omega arith) ∙ (rw (second, first) (simp (append_assoc, append-nil)))

-- ---- fresh records

-- the header of one image, and p fresh records
abbrev pub fresh_to : List ℕ → ℕ → List ℕ
fresh_to image p = take 24 image ++ flat 8 (replicate p (2 ^ 23))

flat_more : (k p w : ℕ) → flat k (replicate p w) ++ bytes_of k w ≡ flat k (replicate (suc p) w)
flat_more k zero w = sym (append-nil (bytes_of k w))
flat_more k (suc p) w = append_assoc (bytes_of k w) (flat k (replicate p w)) (bytes_of k w) ∙ ap (λ (l : List ℕ). bytes_of k w ++ l) (flat_more k p w)

pub fresh_more : (old image : List ℕ) (p : ℕ) → 24 + 8 * p + 8 ≤ length image → take (24 + 8 * p) image ≡ fresh_to old p
    → take (24 + 8 * (p + 1)) (sets image (24 + 8 * p) (bytes_of 8 (2 ^ 23))) ≡ fresh_to old (p + 1)
fresh_more old image p room h =
    let e : 24 + 8 * (p + 1) ≡ 24 + 8 * p + 8 = omega arith in
    let f : p + 1 ≡ suc p = omega arith in
    rw (e, f) (take_store image (24 + 8 * p) (2 ^ 23) room ∙ ap (λ (l : List ℕ). l ++ bytes_of 8 (2 ^ 23)) h ∙ append_assoc (take 24 old) (flat 8 (replicate p (2 ^ 23))) (bytes_of 8 (2 ^ 23))
    ∙ ap (λ (l : List ℕ). take 24 old ++ l) (flat_more 8 p (2 ^ 23)))

-- ---- the image of a Distributor that was created

pub filled : (c : ControllerConfig) (n : ℕ) (started image : List ℕ) → Sized n image → take 24 started ≡ flat 8 (header_words c false n)
    → take (24 + 8 * n) image ≡ fresh_to started n → image ≡ image_of (created c n)
filled c n started image sized head h =
    sym (take_all (24 + 8 * n) image (omega (arith, sized.size))) ∙ h ∙ ap (λ (l : List ℕ). l ++ flat 8 (replicate n (2 ^ 23))) head
    ∙ sym (created_image c n sized.most)
