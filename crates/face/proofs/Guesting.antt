-- The guest's accesses on an image: what is seen of them.
use Rattle.std.specs.Prelude.{Result, Ok, Option, Some, None}
use Prim.Native.Nat.{ℕ, ◌+◌, ◌-◌, ◌/◌, ◌≤◌, ◌<◌}
use mathlib.Core.Path.{◌≡◌, refl, sym, ap, ◌∙◌}
use mathlib.Core.Bool.{Bool, true, false, ◌&&◌, cond}
use mathlib.Core.Logic.{◌⊎◌, inl, inr}
use mathlib.Core.List.{List, [], ◌∷◌}
use mir.Val.{bool_byte}
use native.Mathlib.Omega.{arith}
use lib.ListN.{length, get_or, set}
use Rattle.theory.specs.Lists.{map_at, laid, passing}
use Rattle.identifiers.specs.Answer.{Answer, done, unless}
use Rattle.place.specs.Table.{capacity, table_size}
use Rattle.place.specs.TableLaws.{size-asked, has}
use Rattle.controller.specs.Modes.{explicit}
use Rattle.controller.specs.Identity.{switch_bit}
use Rattle.bank.specs.declared.bank.Bank.{Bank}
use Rattle.bank.specs.Banks.{acts, field, first_of, told_beyond, lists_unless}
use Rattle.registers.specs.declared.register.AccessWidth.{AccessWidth}
use Rattle.registers.specs.declared.register.Register.{Register}
use Rattle.registers.specs.declared.register.Register.TheVariants.{Identification, Ctlr, Typer, Iidr, Fields, Reserved}
use Rattle.registers.specs.declared.register.Direction.TheVariants.{Reading}
use Rattle.decoding.specs.Decoding.{decode, write_access}
use Rattle.answers.specs.Answers.{told_read, told_write}
use Rattle.slot.specs.declared.slot.Slot.{Slot}
use Rattle.slot.specs.Slots.{field_written}
use Rattle.slot.specs.NoSlot.{no_slot}
use Rattle.slot.specs.BankRule.{slot_of, covers, bank_value, bank_slot, candidate, read_beyond, write_beyond}
use Rattle.model.specs.Calls.{Distributor, Call, Reply, deliverable_at, switched, read_reply, write_reply, after_write, listing_unless, reply, step}
use Rattle.model.proofs.Beyond.{unless_beyond, listing_beyond}
use Rattle.order.specs.Names.{spi, names, read_names, write_names}
use Rattle.image.specs.Bytes.{flat, Bytes}
use Rattle.image.specs.Kept.{good_word, word_of}
use Rattle.image.specs.Header.{good_image, header_of}
use Rattle.image.proofs.HeaderLaws.{fitting_image}
use Rattle.image.specs.Meaning.{record_at, meant_at, table, meaning}
use Rattle.image.proofs.MeaningLaws.{table_at, map_at-table, slot_at}
use Rattle.image_model.specs.declared.told.Told.{Told}
use Rattle.image_model.specs.Told.{told, bad_image, bad_width}
use Rattle.registers.specs.Registers.{width_of, Access}
use Rattle.image_model.specs.Face.{Seen, read, write, seen, answers, good_where, rewritten, refuses}
use Rattle.face.specs.Sweeps.{Put, LaidOut, read_answer}
use Rattle.face.specs.Guest.{N, read_told, write_seen}
use Rattle.face.proofs.Naming.{written}
use Rattle.image_model.specs.GoodLaws.{good_none, good_agree, good-at}
use Rattle.face.proofs.Rewriting.{Stand, stand_meant, kept_rewrites, switch_rewrites, put_rewrites}
use Rattle.identifiers.specs.declared.error.Refusal.{Refusal}

-- what a loop that reads found
found_value : (g : Bool) (v w : ℕ) → Some v ≡ read_answer g w → (g ≡ true) × (v ≡ w)
found_value true v w e = (refl, cc)
found_value false v w e = (cc, cc)

found_bad : (g : Bool) (w : ℕ) → None ≡ read_answer g w → g ≡ false
found_bad true w e = cc
found_bad false w e = refl

-- ---- an image, whose header is this

module _ (image : List ℕ) (bytes : Bytes image) (good : good_image image ≡ true) where
  abbrev n : ℕ
  n = (header_of image).spi_count

  abbrev owns : Bool
  owns = explicit (header_of image).config.spi_ownership

  abbrev slots : List Slot
  slots = table (meant_at n image)

  pub most : n ≤ capacity
  most = (fitting_image image bytes good).count

  sized : table_size n ≡ n
  sized = size-asked n most

  -- ---- reading

  module _ (b : Bank) (lo m : ℕ) where
    abbrev ReadFields : ℕ → Told
    ReadFields k = cond (good_where (covers k lo m) k image) (told (unless (read_beyond owns k b lo m) (done (bank_value owns k b lo m slots ∷ [])))) bad_image

    pub read_done : (e : Bool) (k : ℕ) (x : Option ℕ) (v : ℕ) (a : Result ℕ Refusal) (t : Told) → e ≡ owns → k ≡ n
        → Some v ≡ read_answer (good_where (covers k lo m) k image) (bank_value e k b lo m (table (meant_at k image)))
        → told_beyond x ≡ first_of (read_beyond e k b lo m) → told_read a ≡ unless (told_beyond x) (done (v ∷ [])) → t ≡ told (told_read a)
        → t ≡ read_told image (Ok (Fields b lo m))
    read_done e k x v a t he hk hv hx ha ht =
        let (g, w) = found_value (good_where (covers n lo m) n image) v (bank_value owns n b lo m slots) (rw (he, hk) at hv) in
        let hx' : told_beyond x ≡ first_of (read_beyond owns n b lo m) = rw (he, hk) at hx in
        let done-so : t ≡ ReadFields n = ht ∙ ap told (ha ∙ unless_beyond x (read_beyond owns n b lo m) (done (v ∷ [])) hx') ∙ (rw (g, w)) in
        done-so ∙ ap ReadFields (sym sized)

    pub read_bad : (e : Bool) (k : ℕ) → e ≡ owns → k ≡ n → None ≡ read_answer (good_where (covers k lo m) k image) (bank_value e k b lo m (table (meant_at k image)))
        → bad_image ≡ read_told image (Ok (Fields b lo m))
    read_bad e k he hk hv =
        let g = found_bad (good_where (covers n lo m) n image) (bank_value owns n b lo m slots) (rw (he, hk) at hv) in
        let so : bad_image ≡ ReadFields n = rw g in
        so ∙ ap ReadFields (sym sized)

  -- a read that names no SPI
  pub read_plain : (a : Access) → ((i : ℕ) → read_names (N image) a (spi i) ≡ false) → told (read_reply (meaning image) a).answer ≡ read_told image a
  read_plain a none = let g = good_none (λ i. read_names (N image) a (spi i)) (N image) image none in rw g

  -- ---- writing

  -- a slot after a write
  slot_after_lem : (g : ℕ → Slot → Slot) (p : ℕ) → p < n → slot_of (map_at g slots) (32 + p) ≡ g p (meant_at n image p)
  slot_after_lem g p h = slot_at (map_at g slots) p ∙ ap (λ (l : List Slot). get_or l p no_slot) (map_at-table g (meant_at n image)) ∙ table_at (λ q. g q (meant_at n image q)) p (omega (arith, most))

  -- a write that names no SPI, and leaves the switch
  pub write_plain : (list : List ℕ) (a : Access) (v : ℕ) (x : Answer) → ((i : ℕ) → write_names (N image) a v (spi i) ≡ false)
      → switched (header_of image).config (N image) a v (header_of image).enabled ≡ (header_of image).enabled
      → write_reply (meaning image) a v ≡ record { answer = x; candidates = [] }
      → record { told = told x; image = image; list = list } ≡ write_seen image list a v
  write_plain list a v x none still told-so =
      let W : ℕ → Bool = λ i. write_names (N image) a v (spi i) in
      let g = good_none W (N image) image none in
      let same : rewritten (after_write (meaning image) a v) W image ≡ image =
      kept_rewrites (after_write (meaning image) a v) W image bytes good (record { config = refl; switch = still; count = refl })
      (λ p less e. let z : ◌≡◌ {A = ℕ} 0 1 = cc (none (32 + p)) in absurd (omega arith)) in
      rw (g, same, told-so)

  -- and so is one to each of these registers
  pub ignored_at : (list : List ℕ) (v : ℕ) (t : Told) (g : Register) → ((k : ℕ) × (g ≡ Identification k)) ⊎ ((g ≡ Typer) ⊎ ((g ≡ Iidr) ⊎ (g ≡ Reserved)))
      → t ≡ told (done (0 ∷ [])) → record { told = t; image = image; list = list } ≡ write_seen image list (Ok g) v
  ignored_at list v t g which e = (λ j. record { told = e j; image = image; list = list }) ∙ go g which
    where
      go : (g : Register) → ((k : ℕ) × (g ≡ Identification k)) ⊎ ((g ≡ Typer) ⊎ ((g ≡ Iidr) ⊎ (g ≡ Reserved)))
          → record { told = told (done (0 ∷ [])); image = image; list = list } ≡ write_seen image list (Ok g) v
      go g (inl k) = rw k.1 (write_plain list (Ok (Identification k.0)) v (done (0 ∷ [])) (λ i. refl) refl refl)
      go g (inr (inl z)) = rw z (write_plain list (Ok Typer) v (done (0 ∷ [])) (λ i. refl) refl refl)
      go g (inr (inr (inl z))) = rw z (write_plain list (Ok Iidr) v (done (0 ∷ [])) (λ i. refl) refl refl)
      go g (inr (inr (inr z))) = rw z (write_plain list (Ok Reserved) v (done (0 ∷ [])) (λ i. refl) refl refl)

  module _ (b : Bank) (lo m v : ℕ) (list : List ℕ) where
    abbrev WrittenFields : ℕ → Seen
    WrittenFields k =
        cond (good_where (written k b v lo m) k image)
        (record { told = told (listing_unless (write_beyond owns k b v lo m) (passing (candidate owns k b v lo m slots) lo m)).answer; image = rewritten (record { config = (header_of image).config; switch = (header_of image).enabled; count = n; slots = map_at (λ p. bank_slot owns k b v lo m (32 + p)) slots }) (written k b v lo m) image; list = laid (flat 4 (listing_unless (write_beyond owns k b v lo m) (passing (candidate owns k b v lo m slots) lo m)).candidates) list })
        (refuses bad_image image list)

    pub write_bad : (k : ℕ) (g : Bool) → k ≡ n → g ≡ good_where (written k b v lo m) k image → g ≡ false → refuses bad_image image list ≡ write_seen image list (Ok (Fields b lo m)) v
    write_bad k g hk hg e =
        let z : good_where (written n b v lo m) n image ≡ false = sym (rw hk at hg) ∙ e in
        let so : refuses bad_image image list ≡ WrittenFields n = rw z in
        so ∙ ap WrittenFields (sym sized)

    pub write_done : (e : Bool) (k : ℕ) (x : Option ℕ) (tells : Bool) (r : ℕ) (a : Result ℕ Refusal) (t : Told) (image' list' : List ℕ) → e ≡ owns → k ≡ n → Bytes image'
        → good_where (written k b v lo m) k image ≡ true
        → Put (written k b v lo m) (λ i. field_written e b (field b v lo i)) k image image'
        → LaidOut (passing (λ i. tells && candidate e k b v lo m (table (meant_at k image)) i) lo m) list list' r
        → tells ≡ lists_unless x → told_beyond x ≡ first_of (write_beyond e k b v lo m) → told_write a ≡ unless (told_beyond x) (done (r ∷ [])) → t ≡ told (told_write a)
        → record { told = t; image = image'; list = list' } ≡ write_seen image list (Ok (Fields b lo m)) v
    write_done e k x tells r a t image' list' he hk bytes' hg put laid_so ht hx ha htold =
        let g : good_where (written n b v lo m) n image ≡ true = rw hk at hg in
        let put' : Put (written n b v lo m) (λ i. field_written owns b (field b v lo i)) n image image' = rw (he, hk) at put in
        let C : List ℕ = passing (λ i. lists_unless x && candidate owns n b v lo m slots i) lo m in
        let L : LaidOut C list list' r = rw (he, hk, ht) at laid_so in
        let hx' : told_beyond x ≡ first_of (write_beyond owns n b v lo m) = rw (he, hk) at hx in
        let R = listing_beyond x (write_beyond owns n b v lo m) (candidate owns n b v lo m slots) lo m hx' in
        let d : Distributor = record { config = (header_of image).config; switch = (header_of image).enabled; count = n; slots = map_at (λ p. bank_slot owns n b v lo m (32 + p)) slots } in
        let whole : image' ≡ rewritten d (written n b v lo m) image =
        put_rewrites (written n b v lo m) (λ i. bank_slot owns n b v lo m i) image image' (covered put') d bytes' good (record { config = refl; switch = refl; count = refl })
        (λ p less. slot_after_lem (λ q. bank_slot owns n b v lo m (32 + q)) p less) in
        let told-so : t ≡ told (unless (told_beyond x) (done (length C ∷ []))) = htold ∙ ap told (ha ∙ ap (λ (z : ℕ). unless (told_beyond x) (done (z ∷ []))) L.1) in
        let made : Seen = record { told = told (listing_unless (write_beyond owns n b v lo m) (passing (candidate owns n b v lo m slots) lo m)).answer; image = rewritten d (written n b v lo m) image; list = laid (flat 4 (listing_unless (write_beyond owns n b v lo m) (passing (candidate owns n b v lo m slots) lo m)).candidates) list } in
        let parts : record { told = t; image = image'; list = list' } ≡ made =
        (λ j. record { told = told-so j; image = whole j; list = L.0 j }) ∙ ap (λ (y : Reply). record { told = told y.answer; image = rewritten d (written n b v lo m) image; list = laid (flat 4 y.candidates) list }) R in
        let chosen : WrittenFields n ≡ made = ap (λ (z : Bool). cond z made (refuses bad_image image list)) g in
        let so : record { told = t; image = image'; list = list' } ≡ WrittenFields n = parts ∙ sym chosen in
        so ∙ ap WrittenFields (sym sized)
      where
        covered : {image' : List ℕ} → Put (written n b v lo m) (λ i. field_written owns b (field b v lo i)) n image image' → Put (written n b v lo m) (λ i. bank_slot owns n b v lo m i) n image image'
        covered put = record { size = put.size; head = put.head; records = λ p less. put.records p less ∙ go p (covers n lo m (32 + p)) (acts b (field b v lo (32 + p))) }
          where
            go : (p : ℕ) (x y : Bool) → cond (x && y) (word_of (field_written owns b (field b v lo (32 + p)) (meant_at n image p))) (record_at image p)
                ≡ cond (x && y) (word_of (cond x (field_written owns b (field b v lo (32 + p)) (meant_at n image p)) (meant_at n image p))) (record_at image p)
            go p true y = refl
            go p false y = refl

  -- ---- the switch

  module _ (v : ℕ) (list : List ℕ) where
    abbrev D : Distributor
    D = after_write (meaning image) (Ok Ctlr) v

    abbrev W : ℕ → Bool
    W i = write_names (N image) (Ok Ctlr) v (spi i)

    -- turned on, it names every SPI
    every-spi : switch_bit v ≡ true → (i : ℕ) → 32 ≤ i → i < 32 + n → W i ≡ true
    every-spi on i p q = let t = (has (table_size n) i).1 (p, rw sized q) in rw (on, t)

    all_named : switch_bit v ≡ true → good_where W (N image) image ≡ good_where (λ i. true) n image
    all_named on = ap (λ (k : ℕ). good_where W k image) sized ∙ good_agree W (λ i. true) n image (every-spi on)

    -- its records are what they were
    stands : ((p : ℕ) → p < n → W (32 + p) ≡ true → good_word (record_at image p) ≡ true) → Stand D W image bytes good
    stands h = stand_meant D W image bytes good (λ p less t. (slot_after_lem (λ q s. s) p less, h p less t))

    pub switched_on : (k r : ℕ) (t : Told) (list' : List ℕ) → k ≡ n → switch_bit v ≡ true → good_where (λ i. true) k image ≡ true
        → LaidOut (passing (deliverable_at (table (meant_at k image))) 32 k) list list' r → t ≡ told (done (r ∷ []))
        → record { told = t; image = set image 0 1; list = list' } ≡ write_seen image list (Ok Ctlr) v
    switched_on k r t list' hk on hg laid_so ht =
        let g : good_where (λ i. true) n image ≡ true = rw hk at hg in
        let G : good_where W (N image) image ≡ true = all_named on ∙ g in
        let L : LaidOut (passing (deliverable_at slots) 32 n) list list' r = rw hk at laid_so in
        let L' : LaidOut (passing (deliverable_at slots) 32 (table_size n)) list list' r = rw sized L in
        let whole : set image 0 (bool_byte true) ≡ rewritten D W image =
        switch_rewrites D W image bytes good true refl on refl (stands (λ p less t. rw (sub_32 p) (good-at (λ i. true) n image g (32 + p) (omega arith) (omega arith) refl))) in
        rw (G, ← whole, on, L'.0, ht, L'.1)
      where
        sub_32 : (p : ℕ) → p ≡ 32 + p - 32
        sub_32 p = omega arith

    pub switch_bad : (k : ℕ) (g : Bool) → k ≡ n → switch_bit v ≡ true → g ≡ good_where (λ i. true) k image → g ≡ false → refuses bad_image image list ≡ write_seen image list (Ok Ctlr) v
    switch_bad k g hk on hg e =
        let z : good_where W (N image) image ≡ false = all_named on ∙ sym (rw hk at hg) ∙ e in
        rw z

    pub switched_off : (t : Told) → switch_bit v ≡ false → t ≡ told (done (0 ∷ [])) → record { told = t; image = set image 0 0; list = list } ≡ write_seen image list (Ok Ctlr) v
    switched_off t off ht =
        let none : (i : ℕ) → W i ≡ false = λ i. rw off in
        let G = good_none W (N image) image none in
        let whole : set image 0 (bool_byte false) ≡ rewritten D W image =
        switch_rewrites D W image bytes good false refl off refl (stands (λ p less t. let z : ◌≡◌ {A = ℕ} 0 1 = cc (none (32 + p)) in absurd (omega arith))) in
        rw (G, ← whole, off, ht)

-- ---- from an access to its call

module _ (image : List ℕ) where
  abbrev frame : ℕ
  frame = (header_of image).config.distributor_size

  told_of : (g : Bool) (s : Seen) → cond g s.told bad_image ≡ (cond g s (refuses bad_image image [])).told
  told_of true s = refl
  told_of false s = refl

  pub seen_read : (offset w : ℕ) (x : AccessWidth) → good_image image ≡ true → Some x ≡ width_of w → read_told image (decode Reading frame offset x) ≡ (seen (read offset w) image []).told
  unfolding seen names step reply
  seen_read offset w x good e = rw (good, ← e) (told_of (good_where (λ i. read_names (N image) (decode Reading frame offset x) (spi i)) (N image) image) (answers (Call.read offset x) image []))

  pub seen_write : (offset w v : ℕ) (list : List ℕ) (x : AccessWidth) → good_image image ≡ true → Some x ≡ width_of w
      → write_seen image list (write_access (length list / 4) (N image) frame offset x) v ≡ seen (write offset w v) image list
  unfolding seen names step reply
  seen_write offset w v list x good e = rw (good, ← e)

  pub no_width_read : (offset w : ℕ) → good_image image ≡ true → None ≡ width_of w → bad_width ≡ (seen (read offset w) image []).told
  unfolding seen
  no_width_read offset w good e = rw (good, ← e)

  pub no_width_write : (offset w v : ℕ) (list : List ℕ) → good_image image ≡ true → None ≡ width_of w → refuses bad_width image list ≡ seen (write offset w v) image list
  unfolding seen
  no_width_write offset w v list good e = rw (good, ← e)

  pub bad_read : (offset w : ℕ) → good_image image ≡ false → bad_image ≡ (seen (read offset w) image []).told
  unfolding seen
  bad_read offset w bad = rw bad

  pub bad_write : (offset w v : ℕ) (list : List ℕ) → good_image image ≡ false → refuses bad_image image list ≡ seen (write offset w v) image list
  unfolding seen
  bad_write offset w v list bad = rw bad
