-- The two facts on ownership, over images: which bytes a guest write cannot change, and which a guest read cannot see.
use Rattle.std.specs.Prelude.{ℕ, ◌+◌, ◌-◌, ◌*◌, ◌/◌, ◌^◌, ◌≤◌, ◌<◌, ◌≡◌, Bool, true, false, cond, List, ltb, length, get_or, Option, Some, None}
use Rattle.std.proofs.Math.Path.{refl}
use Rattle.std.proofs.Common.{sym, ap, subst, ◌∙◌, true≢false, arith, ltb-true}
use Rattle.std.proofs.Math.Logic.{by_cases}
use Rattle.std.proofs.Math.Decide.{dec_lt}
use Rattle.std.proofs.Math.ListN.{get_or-eq_default}
use Rattle.place.specs.Table.{capacity, table_size}
use Rattle.place.specs.TableLaws.{size-asked}
use Rattle.controller.specs.Modes.{explicit}
use Rattle.registers.specs.declared.register.AccessWidth.{AccessWidth}
use Rattle.ownership.specs.declared.ownership.Ownership.{Ownership}
use Rattle.ownership.specs.Owned.{owned}
use Rattle.slot.specs.declared.slot.Slot.{Slot}
use Rattle.slot.specs.Slots.{fresh_spi}
use Rattle.slot.specs.NoSlot.{no_slot}
use Rattle.slot.specs.BankRule.{slot_of}
use Rattle.model.specs.Calls.{Distributor, Call, Reply, size, step}
use Rattle.model.specs.Typed.{TypedCall}
use Rattle.order.specs.Names.{spi, names}
use Rattle.order.specs.Isolation.{Spared, guest_write_spares, AlikeSlot, Alike, guest_read_blind}
use Rattle.image.specs.declared.header.Header.{Header}
use Rattle.image.specs.Bytes.{byte_of, number_at, Bytes}
use Rattle.image.specs.ByteLaws.{number_same, number_fits, byte_of_number}
use Rattle.image.specs.Kept.{claimed_in, fixed_in, ownership_in, slot_in, good_word, word_of}
use Rattle.image.specs.KeptLaws.{Held}
use Rattle.image.proofs.KeptLaws.{slot_of_word, word_of_slot, meant-good}
use Rattle.image.specs.Header.{header_in, header_of, good_image}
use Rattle.image.proofs.HeaderLaws.{fitting_image}
use Rattle.image.specs.Meaning.{record_at, meant, meant_at, table, meaning}
use Rattle.image.proofs.MeaningLaws.{length-table, table_at, named_slot, meaning-kept, kept_step}
use Rattle.image_model.specs.Told.{told, bad_image}
use Rattle.registers.specs.Registers.{width_of}
use Rattle.image_model.specs.Face.{read, write, Seen, seen, named_in, good_named, good_where, image_after, refuses, answers}
use Rattle.image_model.specs.GoodLaws.{good-at, good-alike}
use Rattle.image_model.proofs.FaceLaws.{record_after_lem, unnamed_stays, after_bytes}
use Rattle.image_model.specs.FaceRefusals.{with_width, on_core}
use Rattle.image_model.proofs.FaceRefusals.{same_Some, seen-core, bad_image_lem, seen_either}
use Rattle.image_model.specs.FaceIsolation.{SparedRecord, AlikeRecord, same, unseen, AlikeImages}

-- byte 0 has the claim and byte 1 the fixed mark
owner_in : (raw w : ℕ) → (slot_in raw w).ownership ≡ ownership_in w
unfolding slot_in
owner_in raw w = refl

-- ---- a guest write

same_record : (e : Bool) (was is : ℕ) → is ≡ was → SparedRecord e was is
same_record e was is z = record { claim = ap claimed_in z; mark = ap fixed_in z; unowned = λ h. z }

-- from the slots that they mean
spared_word : (e : Bool) (raw was : ℕ) (s t : Slot) → was < 2 ^ 64 → good_word was ≡ true → s ≡ slot_in raw was → Held raw t → Spared e s t → SparedRecord e was (word_of t)
spared_word e raw was s t fits good z held spared =
    let old : ownership_in was ≡ s.ownership = sym (owner_in raw was) ∙ ap (λ (x : Slot). x.ownership) (sym z) in
    let new : ownership_in (word_of t) ≡ t.ownership = sym (owner_in raw (word_of t)) ∙ ap (λ (x : Slot). x.ownership) (slot_of_word raw t held) in
    record {
      claim = ap (λ (o : Ownership). o.explicitly_owned) new ∙ spared.claim ∙ sym (ap (λ (o : Ownership). o.explicitly_owned) old);
      mark = ap (λ (o : Ownership). o.fixed_route) new ∙ spared.mark ∙ sym (ap (λ (o : Ownership). o.fixed_route) old);
      unowned = λ h. ap word_of (spared.unowned (ap (owned e) (sym old) ∙ h) ∙ z) ∙ word_of_slot raw was fits good;
    }

module _ (offset w v : ℕ) (image list : List ℕ) (bytes : Bytes image) where
  abbrev new : List ℕ
  new = (seen (write offset w v) image list).image

  abbrev call : AccessWidth → Call
  call x = Call.write offset x v (length list / 4)

  call_typed : (x : AccessWidth) → TypedCall (call x)
  call_typed x = record { change_typed = λ h raw z. let y : ◌≡◌ {A = ℕ} 0 1 = cc in absurd (omega arith) }

  -- what holds of the image that a write leaves, refused or not
  left_by : (P : List ℕ → Type 0) → P image → (good_image image ≡ true → (x : AccessWidth) → good_named (call x) image ≡ true → P (image_after (call x) image)) → P new
  left_by P stays done =
      seen_either (λ s. P s.image) image list (λ t h. stays) (write offset w v) (λ c good is fine. go (width_of w) c good is fine)
    where
      go : (a : Option AccessWidth) (c : Call) → good_image image ≡ true → with_width a call ≡ Some c → good_named c image ≡ true → P (image_after c image)
      go (Some x) c good e fine = subst (λ (q : Call). good_named q image ≡ true → P (image_after q image)) (same_Some _ _ e) (done good x) fine
      go None c good e fine = cc

  after-count : (x : AccessWidth) → (step (call x) (meaning image)).count ≡ (header_of image).spi_count
  unfolding step
  after-count x = refl

  new_bytes : Bytes new
  new_bytes = left_by Bytes bytes (λ good x fine. after_bytes (call x) image bytes good (call_typed x))

  -- A GUEST WRITE changes no claim, no fixed mark and no unowned record
  pub write_spares : (p : ℕ) → p < (header_of image).spi_count → SparedRecord (explicit (header_of image).config.spi_ownership) (record_at image p) (record_at new p)
  write_spares p less = left_by (λ l. SparedRecord e (record_at image p) (record_at l p)) (same_record e (record_at image p) (record_at image p) refl) done
    where
      e : Bool
      e = explicit (header_of image).config.spi_ownership

      done : good_image image ≡ true → (x : AccessWidth) → good_named (call x) image ≡ true → SparedRecord e (record_at image p) (record_at (image_after (call x) image) p)
      done good x fine = go (named_in image (call x) (32 + p)) refl
        where
          after : Distributor
          after = step (call x) (meaning image)

          go : (b : Bool) → named_in image (call x) (32 + p) ≡ b → SparedRecord e (record_at image p) (record_at (image_after (call x) image) p)
          go false t = same_record e (record_at image p) (record_at (image_after (call x) image) p) (unnamed_stays (call x) image bytes good (call_typed x) p t)
          go true t =
              let back : 32 + p - 32 ≡ p = omega arith in
              let sized : size (meaning image) ≡ (header_of image).spi_count = size-asked (header_of image).spi_count (fitting_image image bytes good).count in
              let ok : good_word (record_at image p) ≡ true = rw back at (good-at (named_in image (call x)) (size (meaning image)) image fine (32 + p) (omega arith) (omega arith) t) in
              let was : slot_of (meaning image).slots (32 + p) ≡ slot_in (32 + p) (record_at image p) = named_slot image bytes good p less ∙ meant-good (32 + p) (record_at image p) ok in
              let kept = kept_step (call x) (meaning image) (call_typed x) (meaning-kept image bytes good) in
              let is : record_at (image_after (call x) image) p ≡ word_of (slot_of after.slots (32 + p)) = record_after_lem (call x) image bytes good (call_typed x) p less ∙ (rw t) in
              rw is
              (spared_word e (32 + p) (record_at image p) (slot_of (meaning image).slots (32 + p)) (slot_of after.slots (32 + p)) (number_fits image bytes 8 (24 + 8 * p)) ok was
              (kept.held p (rw (after-count x) less))
              (guest_write_spares (meaning image) offset x v (length list / 4) (32 + p)))

  -- so each of the 8 bytes of an unowned SPI stays
  pub unowned_stays : (p : ℕ) → p < (header_of image).spi_count → owned (explicit (header_of image).config.spi_ownership) (ownership_in (record_at image p)) ≡ false
      → (j : ℕ) → j < 8 → get_or new (24 + 8 * p + j) 0 ≡ get_or image (24 + 8 * p + j) 0
  unowned_stays p less e j h =
      sym (byte_of_number new new_bytes 8 (24 + 8 * p) j h) ∙ ap (byte_of j) ((write_spares p less).unowned e) ∙ byte_of_number image bytes 8 (24 + 8 * p) j h

-- ---- a guest read

good_same : (e : Bool) (v w : ℕ) → AlikeRecord e v w → good_word v ≡ good_word w
good_same e v w (same x) = refl
good_same e v w (unseen x y p q o h) = p ∙ sym q

equal_slots : (e : Bool) (s : Slot) → AlikeSlot e s s
equal_slots e s = record { claim = refl; mark = refl; interrupt = λ h. refl }

meant-alike : (e : Bool) (raw v w : ℕ) → AlikeRecord e v w → AlikeSlot e (meant raw v) (meant raw w)
meant-alike e raw v w (same x) = equal_slots e (meant raw x)
meant-alike e raw v w (unseen x y p q o h) =
    let a : (meant raw x).ownership ≡ ownership_in x = ap (λ (s : Slot). s.ownership) (meant-good raw x p) ∙ owner_in raw x in
    let b : (meant raw y).ownership ≡ ownership_in y = ap (λ (s : Slot). s.ownership) (meant-good raw y q) ∙ owner_in raw y in
    let z : (meant raw x).ownership ≡ (meant raw y).ownership = a ∙ o ∙ sym b in
    record {
      claim = ap (λ (s : Ownership). s.explicitly_owned) z;
      mark = ap (λ (s : Ownership). s.fixed_route) z;
      interrupt = λ t. absurd (true≢false (sym t ∙ ap (owned e) a ∙ h));
    }

module _ (l m : List ℕ) (alike : AlikeImages l m) where
  abbrev e : Bool
  e = explicit (header_of l).config.spi_ownership

  abbrev n : ℕ
  n = (header_of l).spi_count

  same_number : (at : ℕ) → at + 8 ≤ 24 → number_at 8 at l ≡ number_at 8 at m
  same_number at h = number_same 8 at l m (λ j p q. alike.header j (omega arith))

  same_header : header_of l ≡ header_of m
  same_header =
      let one = same_number 0 (omega arith) in
      let two = same_number 8 (omega arith) in
      let three = same_number 16 (omega arith) in
      λ k. header_in (one k) (two k) (three k)

  same_good : good_image l ≡ good_image m
  unfolding good_image
  same_good = rw (alike.size, same_number 0 (omega arith), same_number 8 (omega arith))

  place-alike : (p : ℕ) → AlikeSlot e (meant_at n l p) (meant_at n m p)
  place-alike p = go (ltb p n) refl
    where
      go : (b : Bool) → ltb p n ≡ b → AlikeSlot e (cond b (meant (32 + p) (record_at l p)) (fresh_spi (32 + p))) (cond b (meant (32 + p) (record_at m p)) (fresh_spi (32 + p)))
      go true t = meant-alike e (32 + p) (record_at l p) (record_at m p) (alike.records p (ltb-true p n t))
      go false t = equal_slots e (fresh_spi (32 + p))

  table-alike : (p : ℕ) → AlikeSlot e (get_or (table (meant_at n l)) p no_slot) (get_or (table (meant_at n m)) p no_slot)
  table-alike p =
      by_cases (dec_lt p capacity)
      (λ h. rw (table_at (meant_at n l) p h, table_at (meant_at n m) p h) (place-alike p))
      (λ h. let a = length-table (meant_at n l) in let b = length-table (meant_at n m) in
      rw (get_or-eq_default (table (meant_at n l)) no_slot {n = p} (omega arith), get_or-eq_default (table (meant_at n m)) no_slot {n = p} (omega arith)) (equal_slots e no_slot))

  meanings_alike : Alike (meaning l) (meaning m)
  meanings_alike =
      record {
        config = ap (λ (h : Header). h.config) same_header;
        switch = ap (λ (h : Header). h.enabled) same_header;
        count = ap (λ (h : Header). h.spi_count) same_header;
        slots = λ i. subst (λ (h : Header). AlikeSlot e (slot_of (table (meant_at n l)) i) (slot_of (table (meant_at h.spi_count m)) i)) same_header (table-alike (i - 32));
      }

  same_named : (c : Call) → good_named c l ≡ good_named c m
  same_named c =
      good-alike (named_in l c) (size (meaning l)) l m (λ p h. good_same e (record_at l p) (record_at m p) (alike.records p (omega arith)))
      ∙ ap (λ (h : Header). good_where (λ i. names h.config (table_size h.spi_count) c (spi i)) (table_size h.spi_count) m) same_header

  -- A GUEST READ tells the same of both
  pub read_blind : (offset w : ℕ) (list : List ℕ) → (seen (read offset w) l list).told ≡ (seen (read offset w) m list).told
  read_blind offset w list = go (good_image l) refl
    where
      tells : (x : AccessWidth) (b : Bool) → (cond b (answers (Call.read offset x) l list) (refuses bad_image l list)).told ≡ (cond b (answers (Call.read offset x) m list) (refuses bad_image m list)).told
      tells x true = ap (λ (r : Reply). told r.answer) (guest_read_blind (meaning l) (meaning m) meanings_alike offset x)
      tells x false = refl

      width : (a : Option AccessWidth) → (on_core (with_width a (λ x. Call.read offset x)) l list).told ≡ (on_core (with_width a (λ x. Call.read offset x)) m list).told
      width (Some x) =
          tells x (good_named (Call.read offset x) l)
          ∙ ap (λ (b : Bool). (cond b (answers (Call.read offset x) m list) (refuses bad_image m list)).told) (same_named (Call.read offset x))
      width None = refl

      go : (b : Bool) → good_image l ≡ b → (seen (read offset w) l list).told ≡ (seen (read offset w) m list).told
      go true good =
          ap (λ (s : Seen). s.told) (seen-core (read offset w) l list good)
          ∙ width (width_of w)
          ∙ sym (ap (λ (s : Seen). s.told) (seen-core (read offset w) m list (sym same_good ∙ good)))
      go false bad = ap (λ (s : Seen). s.told) (bad_image_lem (read offset w) l list bad) ∙ sym (ap (λ (s : Seen). s.told) (bad_image_lem (read offset w) m list (sym same_good ∙ bad)))
