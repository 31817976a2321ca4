-- Laws of an image's meaning: a Distributor's image means it, and a wholly good image is that of what it means. Every state that calls
-- can reach from creation has such an image.
use Rattle.std.specs.Prelude.{ℕ, zero, suc, ◌+◌, ◌-◌, ◌*◌, ◌^◌, ◌≤◌, ◌<◌, ◌≡◌, refl, true, false, List, [], ◌∷◌, ◌++◌, length, get_or, drop}
use Rattle.std.proofs.Common.{sym, ap, ◌∙◌, arith, drop_of_length-le, ext_get_or, lt-ltb, le-ltb}
use Rattle.std.proofs.Math.Path.{subst⁻¹}
use Rattle.std.proofs.Math.Logic.{by_cases}
use Rattle.std.proofs.Math.Option.{some}
use Rattle.std.proofs.Math.Decide.{dec_lt}
use Rattle.std.proofs.Math.ListN.{get_elem?}
use Rattle.theory.specs.Lists.{map_from, map_at, tabulate}
use Rattle.theory.specs.ListLaws.{length-tabulate, get_or-tabulate}
use Rattle.theory.specs.MapAtLaws.{mapped_at, length-map_at}
use Rattle.theory.specs.Bools.{refuted}
use Rattle.theory.specs.Runs.{run}
use Rattle.place.specs.Table.{capacity, in_table}
use Rattle.place.specs.TableLaws.{in_range}
use Rattle.controller.specs.declared.controller.ControllerConfig.{ControllerConfig}
use Rattle.slot.specs.declared.slot.Slot.{Slot}
use Rattle.slot.specs.Slots.{fresh_spi}
use Rattle.slot.specs.NoSlot.{no_slot}
use Rattle.slot.specs.BankRule.{slot_of}
use Rattle.model.specs.Calls.{Distributor, Call, size, created, slot_after, step}
use Rattle.model.specs.SlotLaws.{call_keeps, call_past}
use Rattle.model.specs.Typed.{TypedCall}
use Rattle.image.specs.declared.header.Header.{Header}
use Rattle.image.specs.Bytes.{number_at, flat, Bytes}
use Rattle.image.specs.ByteLaws.{length-flat, flat_bytes, number-flat, bytes_are, number_fits}
use Rattle.image.specs.Kept.{good_word, word_of}
use Rattle.image.specs.KeptLaws.{Held}
use Rattle.image.proofs.KeptLaws.{word_good, word_fits, word_of_slot, held-fresh, held-written, held-changed, meant-good, meant_word, meant-held}
use Rattle.image.specs.Header.{header_of, good_image, first_word, header_words}
use Rattle.image.specs.HeaderLaws.{Fitting}
use Rattle.image.proofs.HeaderLaws.{first_fits, header_there, image_good, fitting_image, good_length, image_words}
use Rattle.image.specs.Meaning.{record_at, meant, meant_at, table, meaning, image_of}
use Rattle.image.specs.MeaningLaws.{Kept, Whole, image_with}

-- ---- tables

module _ {A : Type 0} where
  -- two functions that agree from k up to below k + n make the same list
  pub tabulate_agree : (f g : ℕ → A) (k n : ℕ) → ((i : ℕ) → k ≤ i → i < k + n → f i ≡ g i) → tabulate f k n ≡ tabulate g k n
  tabulate_agree f g k zero h = refl
  tabulate_agree f g k (suc n) h =
      let p : f k ≡ g k = h k (omega arith) (omega arith) in
      let q : tabulate f (suc k) n ≡ tabulate g (suc k) n = tabulate_agree f g (suc k) n (λ i a b. h i (omega arith) (omega arith)) in
      λ j. p j ∷ q j

  mapped_tabulate : (g : ℕ → A → A) (f : ℕ → A) (k n : ℕ) → map_from g k (tabulate f k n) ≡ tabulate (λ p. g p (f p)) k n
  mapped_tabulate g f k zero = refl
  mapped_tabulate g f k (suc n) = ap (λ (l : List A). g k (f k) ∷ l) (mapped_tabulate g f (suc k) n)

-- a table has a slot for each place that it has room for
pub length-table : (f : ℕ → Slot) → length (table f) ≡ capacity
unfolding table
length-table f = length-tabulate f 0 capacity

pub table_at : (f : ℕ → Slot) (i : ℕ) → i < capacity → get_or (table f) i no_slot ≡ f i
unfolding table
table_at f i h = get_or-tabulate f 0 capacity i no_slot h ∙ (let e : 0 + i ≡ i = omega arith in ap f e)

-- two tables with the same slots are equal
pub table_same : (f g : ℕ → Slot) → ((p : ℕ) → p < capacity → f p ≡ g p) → table f ≡ table g
unfolding table
table_same f g h = tabulate_agree f g 0 capacity (λ i a b. h i (omega arith))

-- a map of a table is a table
pub map_at-table : (g : ℕ → Slot → Slot) (f : ℕ → Slot) → map_at g (table f) ≡ table (λ p. g p (f p))
unfolding table
map_at-table g f = mapped_tabulate g f 0 capacity

-- as many slots as a table has room for are the table of those slots
pub table_of : (l : List Slot) → length l ≡ capacity → table (λ p. get_or l p no_slot) ≡ l
table_of l h = ext_get_or no_slot _ l (length-table (λ p. get_or l p no_slot) ∙ sym h) (λ i p. table_at (λ q. get_or l q no_slot) i (rw (length-table (λ q. get_or l q no_slot)) at p))

-- the slot of INTID 32 + p stands at the place p
pub slot_at : (l : List Slot) (p : ℕ) → slot_of l (32 + p) ≡ get_or l p no_slot
slot_at l p = let e : 32 + p - 32 ≡ p = omega arith in rw e

-- ---- a list of bytes as the numbers of an image

records_from : (l : List ℕ) → Bytes l → (k n : ℕ) → length l ≡ 24 + 8 * (k + n) → drop (24 + 8 * k) l ≡ flat 8 (tabulate (record_at l) k n)
records_from l b k zero h = drop_of_length-le l {i = 24 + 8 * k} (omega arith)
records_from l b k (suc n) h =
    let next : 24 + 8 * k + 8 ≡ 24 + 8 * suc k = omega arith in
    bytes_are l b 8 (24 + 8 * k) (omega arith) ∙ (rw (next, records_from l b (suc k) n (omega arith)))

-- the bytes of an image of n SPIs are those of the header's three numbers and of the n records
pub flat_image : (l : List ℕ) (n : ℕ) → Bytes l → length l ≡ 24 + 8 * n → l ≡ flat 8 (number_at 8 0 l ∷ number_at 8 8 l ∷ number_at 8 16 l ∷ tabulate (record_at l) 0 n)
flat_image l n b h =
    let one = bytes_are l b 8 0 (omega arith) in
    let two = bytes_are l b 8 8 (omega arith) in
    let three = bytes_are l b 8 16 (omega arith) in
    let rest : drop 24 l ≡ flat 8 (tabulate (record_at l) 0 n) = records_from l b 0 n (omega arith) in
    one ∙ (rw (two, three, rest))

-- ---- a Distributor that an image can keep

module _ (d : Distributor) (kept : Kept d) (word : ℕ → ℕ) (small : (p : ℕ) → p < d.count → word p < 2 ^ 64) where
  abbrev numbers : List ℕ
  numbers = header_words d.config d.switch d.count ++ tabulate word 0 d.count

  length-numbers : length numbers ≡ suc (suc (suc d.count))
  length-numbers = ap (λ (n : ℕ). suc (suc (suc n))) (length-tabulate word 0 d.count)

  -- it is as long as the count says
  pub length_with : length (image_with d word) ≡ 24 + 8 * d.count
  length_with = length-flat 8 numbers ∙ (rw length-numbers (omega arith))

  number_there : (k : ℕ) → k < suc (suc (suc d.count)) → get_or numbers k 0 < 2 ^ 64 → number_at 8 (8 * k) (image_with d word) ≡ get_or numbers k 0
  number_there k h f = number-flat 8 numbers k (rw length-numbers h) f

  first_there : number_at 8 0 (image_with d word) ≡ first_word d.config d.switch d.count
  first_there = number_there 0 (omega arith) (first_fits d.config d.switch d.count kept.fits)

  second_there : number_at 8 8 (image_with d word) ≡ d.config.lpi_limit
  second_there = number_there 1 (omega arith) (omega (arith, kept.fits.limit))

  third_there : number_at 8 16 (image_with d word) ≡ d.config.distributor_size
  third_there = number_there 2 (omega arith) kept.fits.size

  -- its records are those numbers
  pub record_with : (p : ℕ) → p < d.count → record_at (image_with d word) p ≡ word p
  record_with p h =
      let e : 24 + 8 * p ≡ 8 * suc (suc (suc p)) = omega arith in
      let there : get_or (tabulate word 0 d.count) p 0 ≡ word p = get_or-tabulate word 0 d.count p 0 h ∙ (let z : 0 + p ≡ p = omega arith in rw z) in
      rw e (number_there (suc (suc (suc p))) (omega arith) (rw there (small p h)) ∙ there)

  -- it is good
  pub good_with : good_image (image_with d word) ≡ true
  good_with = image_good d.config d.switch d.count kept.fits (image_with d word) first_there second_there length_with

  -- and its header says settings, switch and count
  pub header_with : header_of (image_with d word) ≡ record { config = d.config; enabled = d.switch; spi_count = d.count }
  header_with = header_there d.config d.switch d.count kept.fits (image_with d word) first_there second_there third_there

  module _ (means : (p : ℕ) → p < d.count → meant (32 + p) (word p) ≡ slot_of d.slots (32 + p)) where
    slot_with : (p : ℕ) → p < capacity → meant_at d.count (image_with d word) p ≡ get_or d.slots p no_slot
    slot_with p h =
        by_cases (dec_lt p d.count)
        (λ q. rw (lt-ltb p d.count q, record_with p q) (means p q ∙ slot_at d.slots p))
        (λ q. rw (le-ltb p d.count (omega arith)) (sym (kept.fresh p (omega arith) h) ∙ slot_at d.slots p))

    -- it means the Distributor, if each number means its slot
    pub meaning_with : meaning (image_with d word) ≡ d
    meaning_with =
        let places = table_same (meant_at d.count (image_with d word)) (λ p. get_or d.slots p no_slot) slot_with ∙ table_of d.slots kept.room in
        let slots = ap (λ (h : Header). table (meant_at h.spi_count (image_with d word))) header_with ∙ places in
        λ k. record { config = (header_with k).config; switch = (header_with k).enabled; count = (header_with k).spi_count; slots = slots k }

module _ (d : Distributor) (kept : Kept d) where
  abbrev words : ℕ → ℕ
  words p = word_of (slot_of d.slots (32 + p))

  words_fit : (p : ℕ) → p < d.count → words p < 2 ^ 64
  words_fit p h = word_fits (32 + p) (slot_of d.slots (32 + p)) (kept.held p h)

  -- a Distributor's image is good
  pub good_image_lem : good_image (image_of d) ≡ true
  good_image_lem = good_with d kept words words_fit

  header_meaning : header_of (image_of d) ≡ record { config = d.config; enabled = d.switch; spi_count = d.count }
  header_meaning = header_with d kept words words_fit

  -- its records are the bytes of its SPIs
  pub record_there : (p : ℕ) → p < d.count → record_at (image_of d) p ≡ words p
  record_there = record_with d kept words words_fit

  -- and means it
  pub image_meaning : meaning (image_of d) ≡ d
  image_meaning = meaning_with d kept words words_fit (λ p h. meant_word (32 + p) (slot_of d.slots (32 + p)) (kept.held p h))

-- ---- a wholly good image

-- the image of a Distributor that can be kept is wholly good
pub image_whole : (d : Distributor) → Kept d → Whole (image_of d)
image_whole d kept =
    record {
      bytes = flat_bytes 8 (header_words d.config d.switch d.count ++ tabulate (λ p. word_of (slot_of d.slots (32 + p))) 0 d.count);
      good = good_image_lem d kept;
      records = λ p h.
          let q : p < d.count = rw (ap (λ (x : Header). x.spi_count) (header_meaning d kept)) at h in
          rw (record_there d kept p q) (word_good (32 + p) (slot_of d.slots (32 + p)) (kept.held p q));
    }

-- the slot at a place that a table has room for
pub meaning_slot : (l : List ℕ) (p : ℕ) → p < capacity → slot_of (meaning l).slots (32 + p) ≡ meant_at (header_of l).spi_count l p
meaning_slot l p h = slot_at (meaning l).slots p ∙ table_at (meant_at (header_of l).spi_count l) p h

module _ (l : List ℕ) (b : Bytes l) (ok : good_image l ≡ true) where
  abbrev count : ℕ
  count = (header_of l).spi_count

  -- the slot of an SPI that it has
  pub named_slot : (p : ℕ) → p < count → slot_of (meaning l).slots (32 + p) ≡ meant (32 + p) (record_at l p)
  named_slot p h = meaning_slot l p (omega (arith, (fitting_image l b ok).count)) ∙ (rw (lt-ltb p count h))

  -- what a good image means can be kept, be its records good or not
  pub meaning-kept : Kept (meaning l)
  meaning-kept =
      record {
        fits = fitting_image l b ok;
        room = length-table (meant_at count l);
        held = λ p h. subst⁻¹ (Held (32 + p)) (named_slot p h) (meant-held (32 + p) (record_at l p));
        fresh = λ p h q. meaning_slot l p q ∙ (rw (le-ltb p count h));
      }

  -- a wholly good image is the image of what it means
  pub meaning_image : ((p : ℕ) → p < count → good_word (record_at l p) ≡ true) → image_of (meaning l) ≡ l
  meaning_image good =
      let header = image_words l b ok in
      let records = tabulate_agree (λ p. word_of (slot_of (meaning l).slots (32 + p))) (record_at l) 0 count (λ p x y. back p (omega arith)) in
      (λ k. flat 8 (header k ++ records k)) ∙ sym (flat_image l count b (good_length l b ok))
    where
      back : (p : ℕ) → p < count → word_of (slot_of (meaning l).slots (32 + p)) ≡ record_at l p
      back p h =
          ap word_of (named_slot p h ∙ meant-good (32 + p) (record_at l p) (good p h))
          ∙ word_of_slot (32 + p) (record_at l p) (number_fits l b 8 (24 + 8 * p)) (good p h)

-- so two wholly good images that mean the same are equal
pub one_image : (l m : List ℕ) → Whole l → Whole m → meaning l ≡ meaning m → l ≡ m
one_image l m v w e = sym (meaning_image l v.bytes v.good v.records) ∙ ap image_of e ∙ meaning_image m w.bytes w.good w.records

-- ---- what calls can reach

-- a new Distributor can be kept
pub kept-created : (c : ControllerConfig) (n : ℕ) → Fitting c n → Kept (created c n)
kept-created c n fits =
    record {
      fits = fits;
      room = length-tabulate (λ p. fresh_spi (32 + p)) 0 capacity;
      held = λ p h. subst⁻¹ (Held (32 + p)) (new p (omega (arith, fits.count))) (held-fresh (32 + p));
      fresh = λ p h q. new p q;
    }
  where
    new : (p : ℕ) → p < capacity → slot_of (created c n).slots (32 + p) ≡ fresh_spi (32 + p)
    new p h = slot_at (created c n).slots p ∙ get_or-tabulate (λ q. fresh_spi (32 + q)) 0 capacity p no_slot h ∙ (let e : 0 + p ≡ p = omega arith in rw e)

call-held : (c : ControllerConfig) (n : ℕ) (k : Call) (i raw : ℕ) (s : Slot) → TypedCall k → Held raw s → Held raw (slot_after c n k i s)
call-held c n k i raw s call h =
    call_keeps (Held raw) c n i s h (λ e x b v. held-written raw x b v s h) k (λ e x r z. held-changed raw x s (call.change_typed x r z) h)

-- a call leaves one that can be kept
pub kept_step : (k : Call) (d : Distributor) → TypedCall k → Kept d → Kept (step k d)
unfolding step
kept_step k d call kept =
    record {
      fits = kept.fits;
      room = length-map_at after d.slots ∙ kept.room;
      held = λ p h. subst⁻¹ (Held (32 + p)) (there p (omega (arith, kept.fits.count))) (call-held d.config (size d) k (32 + p) (32 + p) (slot_of d.slots (32 + p)) call (kept.held p h));
      fresh = λ p h q. there p q ∙ call_past d.config (size d) (32 + p) (slot_of d.slots (32 + p)) (past p h) k ∙ kept.fresh p h q;
    }
  where
    after : ℕ → Slot → Slot
    after p = slot_after d.config (size d) k (32 + p)

    there : (p : ℕ) → p < capacity → slot_of (map_at after d.slots) (32 + p) ≡ after p (slot_of d.slots (32 + p))
    there p h = slot_at (map_at after d.slots) p ∙ mapped_at after p d.slots no_slot (rw kept.room h) ∙ ap (after p) (sym (slot_at d.slots p))

    past : (p : ℕ) → d.count ≤ p → in_table (size d) (32 + p) ≡ false
    past p h = refuted _ (λ e. let r = in_range (size d) (32 + p) e in omega arith)

-- so every state that calls of the code can reach from creation has an image, and that image means it
pub reached : (c : ControllerConfig) (n : ℕ) → Fitting c n → (calls : List Call) → ((j : ℕ) (k : Call) → get_elem? calls j ≡ some k → TypedCall k)
    → Kept (run step calls (created c n))
reached c n fits calls all = kept_run calls (created c n) all (kept-created c n fits)
  where
    kept_run : (ks : List Call) (d : Distributor) → ((j : ℕ) (k : Call) → get_elem? ks j ≡ some k → TypedCall k) → Kept d → Kept (run step ks d)
    kept_run [] d all kept = kept
    kept_run (k ∷ ks) d all kept = kept_run ks (step k d) (λ j l e. all (suc j) l e) (kept_step k d (all 0 k refl) kept)
