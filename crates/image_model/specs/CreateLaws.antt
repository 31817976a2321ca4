-- Laws of a creation: what it is refused, in its order, and every byte of the image that it makes. What the image held is in none of them.
use Rattle.std.specs.Prelude.{ℕ, ◌+◌, ◌*◌, ◌/◌, ◌%◌, ◌^◌, ◌≤◌, ◌<◌, ◌≡◌, ◌≢◌, ◌⊎◌, false, ◌&&◌, List, [], ◌∷◌, ◌++◌, leb, eqb, length, replicate}
use Rattle.std.proofs.Common.{sym, ap, ◌∙◌, ⊎_elim, arith, le-leb, eq-eqb, ne_eqb}
use Rattle.std.proofs.Math.Bool.{and-false}
use Rattle.std.proofs.lemmas.Bool.{lt-leb}
use Rattle.theory.specs.Lists.{tabulate}
use Rattle.theory.specs.ListLaws.{get_or-tabulate, tabulate_all}
use Rattle.place.specs.Table.{capacity}
use Rattle.controller.specs.declared.controller.ControllerConfig.{ControllerConfig}
use Rattle.slot.specs.Slots.{fresh_spi}
use Rattle.slot.specs.NoSlot.{no_slot}
use Rattle.slot.specs.BankRule.{slot_of}
use Rattle.model.specs.Calls.{created}
use Rattle.image.specs.Bytes.{bytes_of, flat}
use Rattle.image.specs.ByteLaws.{bytes_listed, flat_append}
use Rattle.image.specs.BitLaws.{flagged, flag_at, read_bit, flags_of}
use Rattle.image.specs.Kept.{word_of}
use Rattle.image.proofs.KeptLaws.{word-fresh}
use Rattle.image.specs.Header.{header_words}
use Rattle.image.proofs.HeaderLaws.{owner-set, header_bytes}
use Rattle.image.specs.Meaning.{image_of}
use Rattle.image.proofs.MeaningLaws.{slot_at, tabulate_agree}
use Rattle.image_model.specs.Face.{refuses}
use Rattle.image_model.specs.Create.{settings, create_seen}
use Rattle.image_model.specs.FaceRefusals.{refusal}

-- ---- THE ORDER: 1, and then 6

module _ (count ownership flags limit frame : ℕ) (image : List ℕ) where
  -- more than 988 SPIs are refused 1 with 1020, whatever the settings are and the image is
  pub create_many : 988 < count → create_seen count ownership flags limit frame image ≡ refuses (record { number = 1; out = 1020 }) image []
  create_many h = rw (lt-leb count 988 h)

  -- else another length, an ownership above 1 or flags above 15 are refused 6
  pub create_bad : count ≤ 988 → (length image ≢ 24 + 8 * count) ⊎ (1 < ownership) ⊎ (15 < flags)
      → create_seen count ownership flags limit frame image ≡ refuses (refusal 6) image []
  create_bad few bad =
      let no : (eqb (length image) (24 + 8 * count) && leb ownership 1 && leb flags 15) ≡ false =
      ⊎_elim (λ h. rw (ne_eqb (length image) (24 + 8 * count) h)) (λ h. ⊎_elim (λ g. rw (lt-leb ownership 1 g, and-false)) (λ g. rw (lt-leb flags 15 g, and-false)) h) bad in
      rw (le-leb count 988 few, no)

  -- and anything else is done
  pub create_done : count ≤ 988 → length image ≡ 24 + 8 * count → ownership ≤ 1 → flags ≤ 15
      → create_seen count ownership flags limit frame image
      ≡ record { told = record { number = 0; out = 0 }; image = image_of (created (settings ownership flags limit frame) count); list = [] }
  create_done few size mode four =
      rw (le-leb count 988 few, eq-eqb (length image) (24 + 8 * count) size, le-leb ownership 1 mode, le-leb flags 15 four)

-- ---- THE IMAGE that a creation makes

fresh-words : (n m : ℕ) → n ≤ m → replicate n (2 ^ 23) ≡ tabulate (λ p. word_of (slot_of (tabulate (λ q. fresh_spi (32 + q)) 0 m) (32 + p))) 0 n
fresh-words n m most =
    let slots = tabulate (λ q. fresh_spi (32 + q)) 0 m in
    tabulate_all (2 ^ 23) 0 n
    ∙ tabulate_agree (λ p. 2 ^ 23) (λ p. word_of (slot_of slots (32 + p))) 0 n
    (λ p a b. sym (ap word_of (slot_at slots p ∙ get_or-tabulate (λ q. fresh_spi (32 + q)) 0 m p no_slot (omega arith)) ∙ word-fresh (32 + (0 + p))))

-- the header, and a fresh record for each SPI
pub created_image : (c : ControllerConfig) (n : ℕ) → n ≤ capacity → image_of (created c n) ≡ flat 8 (header_words c false n) ++ flat 8 (replicate n (2 ^ 23))
created_image c n most =
    ap (λ (ws : List ℕ). flat 8 (header_words c false n ++ ws)) (sym (fresh-words n capacity most)) ∙ flat_append 8 (header_words c false n) (replicate n (2 ^ 23))

-- a fresh record has the priority 0x80 in byte 2, and is 0 elsewhere
pub fresh_bytes : bytes_of 8 (2 ^ 23) ≡ 0 ∷ 0 ∷ 0x80 ∷ 0 ∷ 0 ∷ 0 ∷ 0 ∷ 0 ∷ []
fresh_bytes = bytes_listed 8 (2 ^ 23)

four_flags : (flags : ℕ) → flags ≤ 15 → flagged (flag_at flags 0 ∷ flag_at flags 1 ∷ flag_at flags 2 ∷ flag_at flags 3 ∷ []) 0 ≡ flags
four_flags flags h = let none : flags / 2 ^ 4 ≡ 0 = omega arith in rw none at (sym (flags_of flags 4))

-- byte by byte, the numbers that were handed over: byte 0 the switch, which is off, 1 the ownership, 2 the flags, 4 and 5 the count, 8 to 11
-- the LPI limit, 16 to 23 the frame size
pub create_bytes : (count ownership flags limit frame : ℕ) → count ≤ 988 → ownership ≤ 1 → flags ≤ 15 → limit < 2 ^ 32 → frame < 2 ^ 64
    → image_of (created (settings ownership flags limit frame) count)
    ≡ (0 ∷ ownership ∷ flags ∷ 0 ∷ count % 256 ∷ count / 256 ∷ 0 ∷ 0 ∷ bytes_of 4 limit ++ (0 ∷ 0 ∷ 0 ∷ 0 ∷ bytes_of 8 frame))
    ++ flat 8 (replicate count (2 ^ 23))
create_bytes count ownership flags limit frame few mode four l f =
    let c = settings ownership flags limit frame in
    let owner = owner-set (eqb ownership 1) in
    let one = read_bit ownership (omega arith) in
    rw (created_image c count few, header_bytes c false count (record { count = few; limit = l; size = f }), owner, one, four_flags flags four)
