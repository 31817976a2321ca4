-- One turn of the loop that writes a bank's fields to the records of an image. The loop stands at INTID i; the fields that do not act are
-- passed over, and the next one writes its record and lists its SPI, or not.
use Prim.Native.Nat.{ℕ, ◌+◌, ◌-◌, ◌*◌, ◌/◌, ◌%◌, ◌^◌, ◌≤◌, ◌<◌, min, max}
use mathlib.Core.Path.{◌≡◌, refl, sym, ap, ◌∙◌}
use mathlib.Core.Bool.{Bool, true, ◌&&◌, cond}
use mathlib.Core.List.{List}
use native.Mathlib.Omega.{arith}
use lib.ListN.{length}
use lib.Seq.{sets}
use Rattle.theory.specs.Lists.{passing}
use Rattle.theory.specs.ListLaws.{passing_few}
use Rattle.bank.specs.declared.bank.Bank.{Bank}
use Rattle.bank.specs.Banks.{bits_of, field, idle_fields}
use Rattle.bank.proofs.Digits.{used}
use Rattle.slot.specs.Slots.{field_written, field_listed}
use Rattle.image.specs.Bytes.{bytes_of}
use Rattle.image.specs.Kept.{slot_in, word_of}
use Rattle.image.specs.Meaning.{record_at, meant_at, table}
use Rattle.image_model.specs.Face.{good_where}
use Rattle.face.specs.Sweeps.{Sized, LaidOut}
use Rattle.face.proofs.Listing.{list_room, list_more, list_skip, table_fits}
use Rattle.face.proofs.Naming.{written, left_at, idle_here, not_written, written_next}
use Rattle.face.proofs.Writing.{put_skip, test, tells_inside, unlisted, Done, stored_more, told_more}

module _ (e : Bool) (n : ℕ) (b : Bank) (lo m value : ℕ) (tells : Bool) (old list₀ : List ℕ)
    (sized : Sized n old) (wide : m ≤ 64) (places : 4 * n ≤ length list₀) (good : good_where (written n b value lo m) n old ≡ true) where
  -- who is listed
  abbrev pub tested : ℕ → Bool
  tested = test e n b value lo m old tells

  abbrev pub Stored : ℕ → List ℕ → Type 0
  Stored = Done e n b value lo m old sized.most sized.size good

  abbrev pub Told : ℕ → List ℕ → ℕ → Type 0
  Told i list listed = LaidOut (passing tested (max lo 32) (i - max lo 32)) list₀ list listed

  -- z fields are passed over; w is what is left of the value then, f its lowest field, and p the place of its SPI
  module _ (i v listed : ℕ) (now list : List ℕ) (first : max lo 32 ≤ i) (hv : v ≡ value / (2 ^ bits_of b) ^ (i - lo)) (hs : Stored i now) (hl : Told i list listed)
      (z w f p : ℕ) (on : Bool) (over : z ≡ idle_fields b v) (high : i + z < min (lo + m) (32 + n)) (at : p ≡ i + z - 32)
      (hw : w ≡ v / (2 ^ bits_of b) ^ z) (hf : f ≡ w % 2 ^ bits_of b) (ho : on ≡ field_listed e b f (slot_in (32 + p) (record_at now p))) where
    -- what the turn needs, and what it leaves
    pub record Turned : Type 0 where
      pub room : ((tells && on) ≡ true → 4 * listed + 4 ≤ length list) × (listed < 0x10000)
      pub left : w / 2 ^ bits_of b ≡ value / (2 ^ bits_of b) ^ (i + z + 1 - lo)
      pub stored : Stored (i + z + 1) (sets now (24 + 8 * p) (bytes_of 8 (word_of (field_written e b f (slot_in (32 + p) (record_at now p))))))
      pub told : Told (i + z + 1) (cond (tells && on) (sets list (4 * listed) (bytes_of 4 (i + z))) list) (cond (tells && on) (listed + 1) listed)

    pub turned : Turned
    turned =
        let low : lo ≤ i = omega arith in
        let spi : 32 ≤ i + z = omega arith in
        let inside : p < n = omega arith in
        let none = not_written n b value lo m i v low hv in
        let still = idle_here n b value lo m i v low hv in
        let named =
        written_next n b value lo m i v low hv (i + z) (ap (λ (y : ℕ). i + y) over) (omega (arith, over, high, wide, low)) (omega arith) spi (omega arith) in
        let there : w ≡ value / (2 ^ bits_of b) ^ (i + z - lo) = hw ∙ left_at n b value lo m i v low hv z in
        let done : Stored (i + z) now = put_skip (written n b value lo m) _ n old i now hs (i + z) (omega arith) (λ k q r. none k q (omega (arith, r, over))) in
        let digit : f ≡ field b value lo (i + z) = hf ∙ ap (λ (y : ℕ). y % 2 ^ bits_of b) there in
        let here = tells_inside e n b value lo m (table (meant_at n old)) tells in
        let fits = table_fits tested (max lo 32) list₀ n (min (lo + m) (32 + n)) here places in
        let past : Told (i + z) list listed =
        list_skip tested (max lo 32) list₀ (min (lo + m) (32 + n)) fits i (i + z) list listed first (omega arith)
        (λ k q r. unlisted e n b value lo m old tells k (still k q (omega (arith, r, over)))) hl in
        let is : (tells && on) ≡ tested (i + z) =
        ap (λ (y : Bool). tells && y) (told_more e n b value lo m old sized.most sized.size good (i + z) p f _ now done at spi inside named digit refl on ho) in
        let few = passing_few tested 32 (32 + n) here (max lo 32) (i - max lo 32) in
        let most = sized.most in
        let k : i + z + 1 - lo ≡ i + z - lo + 1 = omega (arith, low) in
        record {
          room = (
            (λ h. list_room tested (max lo 32) list₀ (min (lo + m) (32 + n)) fits (i + z) list listed (omega arith) high past (sym is ∙ h)),
            omega (arith, hl.1, few, most),
          );
          left = rw k (used (2 ^ bits_of b) value w (i + z - lo) there);
          stored = stored_more e n b value lo m old sized.most sized.size good (i + z) p f _ now done at spi inside named digit refl _ refl;
          told = list_more tested (max lo 32) list₀ (min (lo + m) (32 + n)) fits (i + z) list listed _ (omega arith) high past is;
        }
