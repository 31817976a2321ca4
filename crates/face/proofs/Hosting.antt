-- A host's call on an image: what is seen of it.
use Rattle.std.specs.Prelude.{Some, None}
use Prim.Native.Nat.{ℕ, ◌+◌, ◌-◌, ◌*◌, ◌≤◌, ◌<◌}
use mathlib.Core.Path.{◌≡◌, refl, sym, ap, ◌∙◌}
use mathlib.Core.Logic.{◌≢◌, by_cases}
use mathlib.Core.Bool.{Bool, true, false, ◌&&◌, cond}
use mathlib.Core.List.{List, [], ◌∷◌}
use native.Mathlib.Decide.{ℕ_discrete}
use native.Mathlib.Omega.{arith}
use borrow.Author.Tests.{eq-eqb, eqb-true}
use lib.Dec.{eqb}
use lib.ListN.{length, get_or}
use lib.Seq.{sets}
use Rattle.theory.specs.Bools.{both, refuted}
use Rattle.theory.specs.Lists.{map_at}
use Rattle.theory.specs.MapAtLaws.{mapped_at}
use Rattle.identifiers.specs.Answer.{done, refused}
use Rattle.place.specs.Table.{capacity, table_size, in_table, place_answer}
use Rattle.place.specs.TableLaws.{in_range, size-asked, at_place}
use Rattle.changes.specs.declared.change.Change.{Change}
use Rattle.slot.specs.declared.slot.Slot.{Slot}
use Rattle.slot.specs.Slots.{changed}
use Rattle.slot.specs.NoSlot.{no_slot}
use Rattle.slot.specs.BankRule.{slot_of}
use Rattle.model.specs.Calls.{Call, size, changed_at, step, reply}
use Rattle.order.specs.Names.{names}
use Rattle.image.specs.Bytes.{bytes_of, Bytes}
use Rattle.image.specs.Kept.{good_word, slot_in, word_of}
use Rattle.image.specs.declared.header.Header.{Header}
use Rattle.image.specs.Header.{header_of, good_image, header_answer}
use Rattle.image.specs.Meaning.{record_at, meant_at, meaning}
use Rattle.image.proofs.MeaningLaws.{length-table, meaning_slot, slot_at}
use Rattle.image_model.specs.Told.{told, bad_image}
use Rattle.image_model.specs.Face.{host, seen, named_in, good_named, image_after, on_records, refuses}
use Rattle.face.specs.Guest.{Headed}
use Rattle.face.specs.Host.{change_seen}
use Rattle.image_model.specs.GoodLaws.{good_all, good_none, good_not}
use Rattle.face.proofs.Storing.{meant_there}
use Rattle.face.proofs.Rewriting.{good-sized, Heads, kept_rewrites, store_rewrites}

-- ---- the header

pub header_good : (image : List ℕ) (h : Header) → Some h ≡ header_answer image → Headed h image
header_good image h = go (good_image image) refl
  where
    go : (b : Bool) → good_image image ≡ b → Some h ≡ cond b (Some (header_of image)) None → Headed h image
    go true e k = record { good = e; header = cc }
    go false e k = record { good = cc; header = cc }

pub header_bad : (image : List ℕ) → None ≡ header_answer image → good_image image ≡ false
header_bad image = go (good_image image) refl
  where
    go : (b : Bool) → good_image image ≡ b → None ≡ cond b (Some (header_of image)) None → good_image image ≡ false
    go true e k = cc
    go false e k = e

-- a bad image is refused 6
pub seen_bad : (h : Change) (raw : ℕ) (image : List ℕ) → good_image image ≡ false → refuses bad_image image [] ≡ seen (host h raw) image []
unfolding seen
seen_bad h raw image e = rw e

-- the place of an SPI: the image is good, the table has the SPI, and the place its 8 bytes
pub record Placed (image : List ℕ) (raw p : ℕ) : Type 0 where
  pub good : good_image image ≡ true
  pub has : in_table (size (meaning image)) raw ≡ true
  pub place : p ≡ raw - 32
  pub room : 24 + 8 * p + 8 ≤ length image

pub placed : (image : List ℕ) (h : Header) (raw p : ℕ) → Bytes image → Some h ≡ header_answer image → done (p ∷ []) ≡ place_answer (table_size h.spi_count) raw → Placed image raw p
placed image h raw p bytes answer at =
    let headed = header_good image h answer in
    let (has, place) = at_place (table_size (header_of image).spi_count) raw p (rw headed.header at at) in
    let sized = good-sized image bytes headed.good in
    let range = in_range (table_size (header_of image).spi_count) raw has in
    record { good = headed.good; has = has; place = place; room = omega arith }

-- ---- the SPI

module _ (h : Change) (raw : ℕ) (image : List ℕ) (bytes : Bytes image) (good : good_image image ≡ true) where
  abbrev call : Call
  call = Call.change h raw

  abbrev count : ℕ
  count = (header_of image).spi_count

  seen_records : seen (host h raw) image [] ≡ on_records call image []
  unfolding seen
  seen_records = rw good

  size-count : size (meaning image) ≡ count
  size-count = size-asked count (good-sized image bytes good).most

  heads : Heads (step call (meaning image)) image
  unfolding step
  heads = record { config = refl; switch = refl; count = refl }

  -- the call names its SPI, if the table has it, and no other
  named : (i : ℕ) → named_in image call i ≡ in_table (size (meaning image)) i && eqb i raw
  unfolding names
  named i = refl

  named_here : in_table (size (meaning image)) raw ≡ true → named_in image call raw ≡ true
  named_here t = let same : eqb raw raw ≡ true = eq-eqb raw raw refl in named raw ∙ (rw (t, same))

  named_only : (i : ℕ) → named_in image call i ≡ true → i ≡ raw
  named_only i e = eqb-true i raw (both (in_table (size (meaning image)) i) (eqb i raw) (sym (named i) ∙ e)).1

  not_named : (i : ℕ) → i ≢ raw → named_in image call i ≡ false
  not_named i o = refuted (named_in image call i) (λ e. o (named_only i e))

  -- ---- an SPI that the table has not

  module _ (out : in_table (size (meaning image)) raw ≡ false) where
    none : (i : ℕ) → named_in image call i ≡ false
    none i = by_cases (ℕ_discrete i raw) (λ e. named i ∙ (rw (e, out))) (not_named i)

    none_rewritten : image_after call image ≡ image
    none_rewritten =
        kept_rewrites (step call (meaning image)) (named_in image call) image bytes good heads
        (λ p less e. let z : ◌≡◌ {A = ℕ} 0 1 = cc (none (32 + p)) in absurd (omega arith))

    -- it is refused 1
    pub seen_out : record { told = told (refused 1 (raw ∷ [])); image = image; list = [] } ≡ seen (host h raw) image []
    unfolding reply
    seen_out =
        let fine : good_named call image ≡ true = good_none (named_in image call) (size (meaning image)) image none in
        rw (seen_records, fine, out, none_rewritten)

  -- ---- an SPI that it has, at the place p

  module _ (p : ℕ) (has : in_table (size (meaning image)) raw ≡ true) (place : p ≡ raw - 32) where
    -- its INTID, and that the table has the place
    there : (raw ≡ 32 + p) × (p < count) × (p < capacity)
    there = let r = in_range _ raw has in let n = size-count in (omega arith, omega arith, omega arith)

    named-place : named_in image call (32 + p) ≡ true
    named-place = rw (sym there.0) (named_here has)

    slot_place : slot_of (meaning image).slots raw ≡ meant_at count image p
    slot_place = ap (slot_of (meaning image).slots) there.0 ∙ meaning_slot image p there.2

    slot_after_lem : slot_of (step call (meaning image)).slots (32 + p) ≡ changed h (meant_at count image p)
    unfolding step
    slot_after_lem =
        let slots = (meaning image).slots in
        let f : ℕ → Slot → Slot = λ q. changed_at (meaning image).config (size (meaning image)) h raw (32 + q) in
        let room : p < length slots = rw (length-table (meant_at count image)) there.2 in
        let here : 32 + p ≡ raw = sym there.0 in
        let same : eqb raw raw ≡ true = eq-eqb raw raw refl in
        let made : f p (get_or slots p no_slot) ≡ changed h (get_or slots p no_slot) = rw (here, has, same) in
        slot_at (map_at f slots) p ∙ mapped_at f p slots no_slot room ∙ made ∙ ap (changed h) (sym (slot_at slots p) ∙ meaning_slot image p there.2)

    -- a bad record is refused 6
    seen_bad_record : good_word (record_at image p) ≡ false → change_seen h p image ≡ seen (host h raw) image []
    seen_bad_record e =
        let back : 32 + p - 32 ≡ p = omega arith in
        let bad : good_named call image ≡ false =
        good_not (named_in image call) (size (meaning image)) image (32 + p) (omega arith) (omega (arith, size-count, there.1)) named-place (rw back e) in
        rw (e, seen_records, bad)

    -- a good one is changed
    seen_good_record : good_word (record_at image p) ≡ true → change_seen h p image ≡ seen (host h raw) image []
    unfolding reply
    seen_good_record e =
        let back : (i : ℕ) → i ≡ raw → i - 32 ≡ p = λ i z. omega (arith, there.0) in
        let fine : good_named call image ≡ true =
        good_all (named_in image call) (size (meaning image)) image (λ i a b k. let z = back i (named_only i k) in rw z e) in
        let meant : slot_in (32 + p) (record_at image p) ≡ meant_at count image p = sym (meant_there count image p there.1 e) in
        let stored : sets image (24 + 8 * p) (bytes_of 8 (word_of (changed h (meant_at count image p)))) ≡ image_after call image =
        ap (λ (s : Slot). sets image (24 + 8 * p) (bytes_of 8 (word_of s))) (sym slot_after_lem)
        ∙ store_rewrites (step call (meaning image)) (named_in image call) image bytes good heads p there.1 named-place (λ q o. not_named (32 + q) (λ z. o (omega (arith, there.0)))) in
        rw (e, seen_records, fine, meant, has, slot_place, stored)

    pub seen_in : change_seen h p image ≡ seen (host h raw) image []
    seen_in = go (good_word (record_at image p)) refl
      where
        go : (b : Bool) → good_word (record_at image p) ≡ b → change_seen h p image ≡ seen (host h raw) image []
        go true e = seen_good_record e
        go false e = seen_bad_record e
