-- An image as the bytes of its numbers, and what a call leaves of it.
use Prim.Native.Nat.{ℕ, zero, suc, ◌+◌, ◌*◌, ◌<◌}
use mathlib.Core.Path.{◌≡◌, refl, sym, ap, ◌∙◌}
use mathlib.Core.Logic.{◌≢◌, by_cases}
use mathlib.Core.Bool.{Bool, true, false, cond}
use mathlib.Core.List.{List, [], ◌∷◌, ◌++◌}
use native.Mathlib.Nat.{mul-suc, mul-zero}
use native.Mathlib.Decide.{ℕ_discrete}
use native.Mathlib.Omega.{arith}
use lib.ListN.{length, get_or, set}
use lib.Seq.{sets, get_or-set_same, get_or-set_other}
use mir.Val.{bool_byte}
use Rattle.theory.specs.Bools.{bit_fits}
use Rattle.theory.specs.Lists.{tabulate}
use Rattle.theory.specs.ListLaws.{length-tabulate, tabulate_edit}
use Rattle.slot.specs.declared.slot.Slot.{Slot}
use Rattle.slot.specs.BankRule.{slot_of}
use Rattle.model.specs.Calls.{Distributor}
use Rattle.image.specs.Bytes.{bytes_of, flat, Bytes}
use Rattle.image.specs.ByteLaws.{length_bytes, number_fits}
use Rattle.image.specs.Kept.{good_word, word_of}
use Rattle.image.proofs.KeptLaws.{word_of_slot}
use Rattle.image.specs.Header.{header_in, header_of, good_image, header_words}
use Rattle.image.proofs.HeaderLaws.{fitting_image, good_length, switch_beside, switch_header, switch_good}
use Rattle.image.specs.Meaning.{record_at, meant_at}
use Rattle.image.proofs.MeaningLaws.{tabulate_agree}
use Rattle.image_model.specs.Face.{rewritten}
use Rattle.image_model.proofs.FaceLaws.{image_numbers}
use Rattle.face.specs.Sweeps.{Sized, Put}
use Rattle.face.proofs.Storing.{meant_there}

-- ---- lists

sets-cons : (x : ℕ) (l vs : List ℕ) (i : ℕ) → sets (x ∷ l) (suc i) vs ≡ x ∷ sets l i vs
sets-cons x l [] i = refl
sets-cons x l (v ∷ vs) i = sets-cons x (set l i v) vs (suc i)

sets_past : (xs l vs : List ℕ) (i : ℕ) → sets (xs ++ l) (length xs + i) vs ≡ xs ++ sets l i vs
sets_past [] l vs i = let e : 0 + i ≡ i = omega arith in rw e
sets_past (x ∷ xs) l vs i =
    let e : suc (length xs) + i ≡ suc (length xs + i) = omega arith in
    rw e (sets-cons x (xs ++ l) vs (length xs + i) ∙ ap (λ (m : List ℕ). x ∷ m) (sets_past xs l vs i))

sets_over : (xs l vs : List ℕ) → length xs ≡ length vs → sets (xs ++ l) 0 vs ≡ vs ++ l
sets_over [] l [] e = refl
sets_over [] l (v ∷ vs) e = absurd (omega arith)
sets_over (x ∷ xs) l [] e = absurd (omega arith)
sets_over (x ∷ xs) l (v ∷ vs) e = sets-cons v (xs ++ l) vs 0 ∙ ap (λ (m : List ℕ). v ∷ m) (sets_over xs l vs (omega arith))

-- a number stored among numbers
flat-set : (k : ℕ) (ws : List ℕ) (i w : ℕ) → i < length ws → sets (flat k ws) (k * i) (bytes_of k w) ≡ flat k (set ws i w)
flat-set k [] i w h = absurd (omega arith)
flat-set k (x ∷ ws) zero w h = rw (mul-zero k) (sets_over (bytes_of k x) (flat k ws) (bytes_of k w) (length_bytes k x ∙ sym (length_bytes k w)))
flat-set k (x ∷ ws) (suc i) w h =
    let e : k * suc i ≡ length (bytes_of k x) + k * i = rw (length_bytes, mul-suc) (omega arith) in
    rw e (sets_past (bytes_of k x) (flat k ws) (bytes_of k w) (k * i) ∙ ap (λ (m : List ℕ). bytes_of k x ++ m) (flat-set k ws i w (omega arith)))

-- ---- an image as numbers

module _ (image : List ℕ) (bytes : Bytes image) (good : good_image image ≡ true) where
  -- a good image has room for its SPIs, and no more
  pub good-sized : Sized (header_of image).spi_count image
  good-sized = record { most = (fitting_image image bytes good).count; size = good_length image bytes good }

-- ---- what a call leaves of an image

-- a Distributor with the settings, the switch and the count that an image says
pub record Heads (d : Distributor) (image : List ℕ) : Type 0 where
  pub config : d.config ≡ (header_of image).config
  pub switch : d.switch ≡ (header_of image).enabled
  pub count : d.count ≡ (header_of image).spi_count

module _ (d : Distributor) (named : ℕ → Bool) where
  -- the number that a record is then
  abbrev pub word_after : List ℕ → ℕ → ℕ
  word_after old p = cond (named (32 + p)) (word_of (slot_of d.slots (32 + p))) (record_at old p)

  module _ (old new : List ℕ) (bytes : Bytes new) (good : good_image new ≡ true) (heads : Heads d new) where
    -- an image with d's header, and with those records
    pub rewrites : ((p : ℕ) → p < d.count → record_at new p ≡ word_after old p) → new ≡ rewritten d named old
    unfolding rewritten
    rewrites records =
        image_numbers new bytes good
        ∙ sym (λ k. flat 8 (header_words (heads.config k) (heads.switch k) (heads.count k) ++ tabulate (record_at new) 0 (heads.count k)))
        ∙ ap (λ (ws : List ℕ). flat 8 (header_words d.config d.switch d.count ++ ws))
        (tabulate_agree (record_at new) (word_after old) 0 d.count (λ p a b. records p (omega arith)))

  module _ (image : List ℕ) (bytes : Bytes image) (good : good_image image ≡ true) where
    -- the named records are those of d already
    abbrev pub Stand : Type 0
    Stand = (p : ℕ) → p < (header_of image).spi_count → named (32 + p) ≡ true → word_of (slot_of d.slots (32 + p)) ≡ record_at image p

    stand : Stand → (p : ℕ) → p < (header_of image).spi_count → record_at image p ≡ word_after image p
    stand h p less = go (named (32 + p)) refl
      where
        go : (b : Bool) → named (32 + p) ≡ b → record_at image p ≡ cond b (word_of (slot_of d.slots (32 + p))) (record_at image p)
        go true e = sym (h p less e)
        go false e = refl

    -- so they are where each of them is good, and means d's slot
    pub stand_meant : ((p : ℕ) → p < (header_of image).spi_count → named (32 + p) ≡ true → (slot_of d.slots (32 + p) ≡ meant_at (header_of image).spi_count image p) × (good_word (record_at image p) ≡ true)) → Stand
    stand_meant h p less e =
        let (slot, ok) = h p less e in
        ap word_of (slot ∙ meant_there (header_of image).spi_count image p less ok) ∙ word_of_slot (32 + p) (record_at image p) (number_fits image bytes 8 (24 + 8 * p)) ok

    -- then the image stays, if its header is d's
    pub kept_rewrites : Heads d image → Stand → rewritten d named image ≡ image
    kept_rewrites heads h = sym (rewrites image image bytes good heads (λ p less. stand h p (rw heads.count at less)))

    -- and if the switch is another, it is stored
    pub switch_rewrites : (on : Bool) → d.config ≡ (header_of image).config → d.switch ≡ on → d.count ≡ (header_of image).spi_count → Stand
        → set image 0 (bool_byte on) ≡ rewritten d named image
    switch_rewrites on config switch count h =
        let header = switch_header image bytes good on in
        rewrites image (set image 0 (bool_byte on)) switch_bytes (switch_good image bytes good on)
        (record { config = rw header config; switch = rw header switch; count = rw header count })
        (λ p less. beside p ∙ stand h p (rw count at less))
      where
        switch_bytes : Bytes (set image 0 (bool_byte on))
        switch_bytes = record { byte = λ i. by_cases (ℕ_discrete i 0) here (λ o. rw (get_or-set_other image 0 i (bool_byte on) 0 o) (bytes.byte i)) }
          where
            here : {i : ℕ} → i ≡ 0 → get_or (set image 0 (bool_byte on)) i 0 < 256
            here e = rw (e, get_or-set_same image 0 (bool_byte on) 0 (omega (arith, good_length image bytes good))) (omega (arith, bit_fits on))

        beside : (p : ℕ) → record_at (set image 0 (bool_byte on)) p ≡ record_at image p
        beside p = let e : 24 + 8 * p ≡ 8 + (16 + 8 * p) = omega arith in rw e (switch_beside image (bool_byte on) (16 + 8 * p))

    -- the one record that is named is stored
    pub store_rewrites : Heads d image → (p : ℕ) → p < (header_of image).spi_count → named (32 + p) ≡ true → ((q : ℕ) → q ≢ p → named (32 + q) ≡ false)
        → sets image (24 + 8 * p) (bytes_of 8 (word_of (slot_of d.slots (32 + p)))) ≡ rewritten d named image
    unfolding rewritten
    store_rewrites heads p less here else =
        let head : List ℕ = header_words d.config d.switch d.count in
        let w : ℕ = word_of (slot_of d.slots (32 + p)) in
        let words : image ≡ flat 8 (head ++ tabulate (record_at image) 0 d.count) =
        image_numbers image bytes good ∙ sym (λ k. flat 8 (header_words (heads.config k) (heads.switch k) (heads.count k) ++ tabulate (record_at image) 0 (heads.count k))) in
        let at : 24 + 8 * p ≡ 8 * suc (suc (suc p)) = omega arith in
        let size = length-tabulate (record_at image) 0 d.count in
        let same : word_after image p ≡ w = rw here in
        ap (λ (l : List ℕ). sets l (24 + 8 * p) (bytes_of 8 w)) words
        ∙ ap (λ (o : ℕ). sets (flat 8 (head ++ tabulate (record_at image) 0 d.count)) o (bytes_of 8 w)) at
        ∙ flat-set 8 (head ++ tabulate (record_at image) 0 d.count) (suc (suc (suc p))) w (omega (arith, heads.count))
        ∙ ap (λ (ws : List ℕ). flat 8 (head ++ ws))
        (ap (set (tabulate (record_at image) 0 d.count) p) (sym same) ∙ tabulate_edit (record_at image) (word_after image) d.count p (λ q o. rw (else q o)))

-- the records that are named are put as `after` says of what they meant, and d's slots are those
module _ (named : ℕ → Bool) (after : ℕ → Slot → Slot) (old new : List ℕ) (put : Put named after (header_of old).spi_count old new) where
  put_header : header_of new ≡ header_of old
  put_header =
      let one = put.head 0 (omega arith) in
      let two = put.head 8 (omega arith) in
      let three = put.head 16 (omega arith) in
      λ k. header_in (one k) (two k) (three k)

  put_good : good_image old ≡ true → good_image new ≡ true
  unfolding good_image
  put_good good = rw (put.size, put.head 0 (omega arith), put.head 8 (omega arith)) good

  pub put_rewrites : (d : Distributor) → Bytes new → good_image old ≡ true → Heads d old
      → ((p : ℕ) → p < (header_of old).spi_count → slot_of d.slots (32 + p) ≡ after (32 + p) (meant_at (header_of old).spi_count old p)) → new ≡ rewritten d named old
  put_rewrites d bytes good heads slots =
      rewrites d named old new bytes (put_good good)
      (record { config = rw put_header heads.config; switch = rw put_header heads.switch; count = rw put_header heads.count })
      (λ p less. let in-old : p < (header_of old).spi_count = rw heads.count at less in
      put.records p in-old ∙ ap (λ (s : Slot). cond (named (32 + p)) (word_of s) (record_at old p)) (sym (slots p in-old)))
