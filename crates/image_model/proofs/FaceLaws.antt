-- Laws of the face: every call equals the core's on what the image means, and of the image it changes what the call names and no more.
use Prim.Native.Nat.{ℕ, zero, suc, ◌+◌, ◌-◌, ◌*◌, ◌^◌, ◌≤◌, ◌<◌}
use Rattle.std.specs.Prelude.{◌≡◌, Bool, true, false, cond, length, get_or, take}
use Rattle.std.proofs.Math.Path.{refl, ap, subst⁻¹}
use Rattle.std.proofs.Common.{sym, ◌∙◌, arith, get_or-take}
use Rattle.std.proofs.Math.Logic.{by_cases}
use mathlib.Core.List.{List, ◌++◌}
use Rattle.std.proofs.Math.Decide.{dec_lt}
use Rattle.std.proofs.Math.ListN.{get_or-eq_default}
use Rattle.std.proofs.Math.Seq.{take_at}
use Rattle.theory.specs.Lists.{tabulate}
use Rattle.place.specs.TableLaws.{size-asked}
use Rattle.controller.specs.declared.controller.ControllerConfig.{ControllerConfig}
use Rattle.slot.specs.BankRule.{slot_of}
use Rattle.model.specs.Calls.{Distributor, Call, size, step}
use Rattle.model.specs.Typed.{TypedCall}
use Rattle.order.specs.Names.{the_switch, spi, names}
use Rattle.order.specs.OrderFacts.{slot_same}
use Rattle.order.proofs.OrderFacts.{keeps}
use Rattle.image.specs.declared.header.Header.{Header}
use Rattle.image.specs.Bytes.{byte_of, flat, Bytes}
use Rattle.image.specs.ByteLaws.{length-flat, flat_append, flat_bytes, number_same, number_fits, byte_of_number}
use Rattle.image.specs.Kept.{good_word, word_of}
use Rattle.image.proofs.KeptLaws.{meant-good, meant_word, word_fits, word_good, word_of_slot}
use Rattle.image.specs.Header.{header_of, good_image, header_words}
use Rattle.image.specs.HeaderLaws.{Fitting}
use Rattle.image.proofs.HeaderLaws.{header_bytes, fitting_image, good_length, image_words}
use Rattle.image.specs.Meaning.{record_at, meant, meaning}
use Rattle.image.specs.MeaningLaws.{Kept, Whole, image_with}
use Rattle.image.proofs.MeaningLaws.{tabulate_agree, flat_image, length_with, record_with, good_with, header_with, meaning_with, meaning-kept, named_slot, kept_step}
use Rattle.image_model.specs.Face.{named_in, good_named, rewritten, image_after}
use Rattle.image_model.specs.GoodLaws.{good-at}

-- a good image is the bytes of what its header says, and of its records
pub image_numbers : (image : List ℕ) → Bytes image → good_image image ≡ true
    → let h = header_of image in image ≡ flat 8 (header_words h.config h.enabled h.spi_count ++ tabulate (record_at image) 0 h.spi_count)
image_numbers image bytes good =
    let n = (header_of image).spi_count in
    flat_image image n bytes (good_length image bytes good)
    ∙ ap (λ (ws : List ℕ). flat 8 (ws ++ tabulate (record_at image) 0 n)) (sym (image_words image bytes good))

-- the switch is the first byte of a header, and no other
other_bytes : (c : ControllerConfig) (n : ℕ) (on off : Bool) → Fitting c n → (j : ℕ) → 1 ≤ j → get_or (flat 8 (header_words c on n)) j 0 ≡ get_or (flat 8 (header_words c off n)) j 0
other_bytes c n on off fits zero h = absurd (omega arith)
other_bytes c n on off fits (suc j) h = rw (header_bytes c on n fits, header_bytes c off n fits)

-- a call on a good image
module _ (c : Call) (image : List ℕ) (bytes : Bytes image) (good : good_image image ≡ true) where
  abbrev count : ℕ
  count = (header_of image).spi_count

  abbrev after : Distributor
  after = step c (meaning image)

  -- the number that a record is then
  abbrev word : ℕ → ℕ
  word p = cond (named_in image c (32 + p)) (word_of (slot_of after.slots (32 + p))) (record_at image p)

  same_count : after.count ≡ count
  unfolding step
  same_count = refl

  image_is : image_after c image ≡ image_with after word
  unfolding rewritten
  image_is = refl

  -- the slot of an SPI that the call does not name means what its bytes meant
  unnamed_slot : (p : ℕ) → p < count → named_in image c (32 + p) ≡ false → slot_of after.slots (32 + p) ≡ meant (32 + p) (record_at image p)
  unnamed_slot p less e =
      slot_same after.slots (meaning image).slots (32 + p) (omega arith) (keeps c (spi (32 + p)) (meaning image) e)
      ∙ named_slot image bytes good p less

  -- A CALL THAT CHANGES NOTHING of what the image means leaves every byte, if the records that it names are good
  pub still_image : step c (meaning image) ≡ meaning image → good_named c image ≡ true → image_after c image ≡ image
  still_image e fine =
      image_is
      ∙ ap (λ (d : Distributor). image_with d word) e
      ∙ ap (λ (ws : List ℕ). flat 8 (header_words (header_of image).config (header_of image).enabled count ++ ws)) (tabulate_agree word (record_at image) 0 count (λ p a b. same p (omega arith)))
      ∙ sym (image_numbers image bytes good)
    where
      same : (p : ℕ) → p < count → word p ≡ record_at image p
      same p less = go (named_in image c (32 + p)) refl
        where
          named-good : named_in image c (32 + p) ≡ true → good_word (record_at image p) ≡ true
          named-good t =
              let back : 32 + p - 32 ≡ p = omega arith in
              let sized : size (meaning image) ≡ count = size-asked count (fitting_image image bytes good).count in
              rw back at (good-at (named_in image c) (size (meaning image)) image fine (32 + p) (omega arith) (omega arith) t)

          go : (b : Bool) → named_in image c (32 + p) ≡ b → cond b (word_of (slot_of after.slots (32 + p))) (record_at image p) ≡ record_at image p
          go true t =
              ap word_of (ap (λ (d : Distributor). slot_of d.slots (32 + p)) e ∙ named_slot image bytes good p less ∙ meant-good (32 + p) (record_at image p) (named-good t))
              ∙ word_of_slot (32 + p) (record_at image p) (number_fits image bytes 8 (24 + 8 * p)) (named-good t)
          go false t = refl

  header_before : take 24 image ≡ flat 8 (header_words (header_of image).config (header_of image).enabled count)
  header_before =
      let head : List ℕ = header_words (header_of image).config (header_of image).enabled count in
      let records : List ℕ = tabulate (record_at image) 0 count in
      ap (take 24) (image_numbers image bytes good ∙ flat_append 8 head records) ∙ take_at (flat 8 head) (flat 8 records) 24 (length-flat 8 head)

  module _ (typed : TypedCall c) where
    kept : Kept after
    kept = kept_step c (meaning image) typed (meaning-kept image bytes good)

    small : (p : ℕ) → p < after.count → word p < 2 ^ 64
    small p less = go (named_in image c (32 + p))
      where
        go : (b : Bool) → cond b (word_of (slot_of after.slots (32 + p))) (record_at image p) < 2 ^ 64
        go true = word_fits (32 + p) (slot_of after.slots (32 + p)) (kept.held p less)
        go false = number_fits image bytes 8 (24 + 8 * p)

    means : (p : ℕ) → p < after.count → meant (32 + p) (word p) ≡ slot_of after.slots (32 + p)
    means p less = go (named_in image c (32 + p)) refl
      where
        go : (b : Bool) → named_in image c (32 + p) ≡ b → meant (32 + p) (cond b (word_of (slot_of after.slots (32 + p))) (record_at image p)) ≡ slot_of after.slots (32 + p)
        go true e = meant_word (32 + p) (slot_of after.slots (32 + p)) (kept.held p less)
        go false e = sym (unnamed_slot p (rw same_count at less) e)

    -- THE MEANING afterwards is what the core's call makes of the meaning before. A record that the call does not name, good or bad,
    -- goes on meaning what it meant
    pub after_means : meaning (image_after c image) ≡ step c (meaning image)
    after_means = ap meaning image_is ∙ meaning_with after kept word small means

    -- it is bytes, as many as before, and good
    pub after_bytes : Bytes (image_after c image)
    after_bytes = subst⁻¹ Bytes image_is (flat_bytes 8 (header_words after.config after.switch after.count ++ tabulate word 0 after.count))

    pub after-length : length (image_after c image) ≡ length image
    after-length = ap length image_is ∙ length_with after kept word small ∙ ap (λ (n : ℕ). 24 + 8 * n) same_count ∙ sym (good_length image bytes good)

    pub after-good : good_image (image_after c image) ≡ true
    after-good = ap good_image image_is ∙ good_with after kept word small

    -- each record of the image, as a number
    pub record_after_lem : (p : ℕ) → p < count → record_at (image_after c image) p ≡ word p
    record_after_lem p less = ap (λ (l : List ℕ). record_at l p) image_is ∙ record_with after kept word small p (rw same_count less)

    -- the header of the image
    pub header_says : header_of (image_after c image) ≡ record { config = (header_of image).config; enabled = after.switch; spi_count = count }
    unfolding step
    header_says = ap header_of image_is ∙ header_with after kept word small

    -- A RECORD THAT THE CALL DOES NOT NAME STAYS, good or bad
    pub unnamed_stays : (p : ℕ) → named_in image c (32 + p) ≡ false → record_at (image_after c image) p ≡ record_at image p
    unnamed_stays p e = by_cases (dec_lt p count) (λ less. record_after_lem p less ∙ (rw e)) past
      where
        past : ¬ (p < count) → record_at (image_after c image) p ≡ record_at image p
        past more =
            let size = good_length image bytes good in
            let sized = after-length in
            number_same 8 (24 + 8 * p) (image_after c image) image
            (λ j a b. get_or-eq_default (image_after c image) 0 {n = j} (omega arith) ∙ sym (get_or-eq_default image 0 {n = j} (omega arith)))

    -- each of its 8 bytes
    pub unnamed_bytes : (p : ℕ) → named_in image c (32 + p) ≡ false → (j : ℕ) → j < 8 → get_or (image_after c image) (24 + 8 * p + j) 0 ≡ get_or image (24 + 8 * p + j) 0
    unnamed_bytes p e j h =
        sym (byte_of_number (image_after c image) after_bytes 8 (24 + 8 * p) j h)
        ∙ ap (byte_of j) (unnamed_stays p e)
        ∙ byte_of_number image bytes 8 (24 + 8 * p) j h

    -- THE HEADER, the first 24 bytes, is that of the same settings and count, and of the switch as the core's call leaves it
    pub header_after : take 24 (image_after c image) ≡ flat 8 (header_words (header_of image).config after.switch count)
    unfolding step
    header_after =
        let head : List ℕ = header_words after.config after.switch after.count in
        ap (take 24) (image_is ∙ flat_append 8 head (tabulate word 0 after.count)) ∙ take_at (flat 8 head) _ 24 (length-flat 8 head)

    -- it stays if the call does not name the switch
    pub header_stays : names (meaning image).config (size (meaning image)) c the_switch ≡ false → take 24 (image_after c image) ≡ take 24 image
    header_stays e =
        header_after
        ∙ ap (λ (on : Bool). flat 8 (header_words (header_of image).config on count)) (keeps c the_switch (meaning image) e)
        ∙ sym header_before

    -- and its bytes but the first, the switch, stay whatever the call is
    pub settings_stay : (j : ℕ) → 1 ≤ j → j < 24 → get_or (image_after c image) j 0 ≡ get_or image j 0
    settings_stay j low high =
        sym (get_or-take 24 (image_after c image) j 0 high)
        ∙ ap (λ (l : List ℕ). get_or l j 0) header_after
        ∙ other_bytes (header_of image).config count after.switch (header_of image).enabled (fitting_image image bytes good) j low
        ∙ sym (ap (λ (l : List ℕ). get_or l j 0) header_before)
        ∙ get_or-take 24 image j 0 high

    -- a wholly good image stays wholly good
    pub after_whole : ((p : ℕ) → p < count → good_word (record_at image p) ≡ true) → Whole (image_after c image)
    after_whole records = record { bytes = after_bytes; good = after-good; records = λ p h. there p (rw (ap (λ (x : Header). x.spi_count) header_says) at h) }
      where
        there : (p : ℕ) → p < count → good_word (record_at (image_after c image) p) ≡ true
        there p less = ap good_word (record_after_lem p less) ∙ go (named_in image c (32 + p))
          where
            go : (b : Bool) → good_word (cond b (word_of (slot_of after.slots (32 + p))) (record_at image p)) ≡ true
            go true = word_good (32 + p) (slot_of after.slots (32 + p)) (kept.held p (rw same_count less))
            go false = records p less
