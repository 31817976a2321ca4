-- The loop that writes a bank's fields to the records of an image: one INTID more. It goes from the INTID `first` up, and stands at i.
use Prim.Native.Nat.{ℕ, ◌+◌, ◌-◌, ◌*◌, ◌^◌, ◌≤◌, ◌<◌}
use mathlib.Core.Path.{◌≡◌, refl, sym, ap, subst⁻¹, ◌∙◌}
use mathlib.Core.Logic.{◌≢◌, by_cases}
use mathlib.Core.Bool.{Bool, true, false, ◌&&◌, cond, and-false, false≢true}
use mathlib.Core.List.{List}
use native.Mathlib.Decide.{ℕ_discrete, dec_lt}
use native.Mathlib.Omega.{arith}
use borrow.Author.Tests.{lt-ltb, le-ltb}
use lib.Dec.{ltb}
use lib.ListN.{length, get_or}
use lib.Seq.{sets}
use Rattle.theory.specs.Bools.{both}
use Rattle.place.specs.Table.{capacity}
use Rattle.bank.specs.declared.bank.Bank.{Bank}
use Rattle.bank.specs.Banks.{acts, field}
use Rattle.slot.specs.declared.slot.Slot.{Slot}
use Rattle.slot.specs.Slots.{field_written, field_listed}
use Rattle.slot.specs.NoSlot.{no_slot}
use Rattle.slot.specs.BankRule.{covers, candidate}
use Rattle.slot.specs.BankRuleLaws.{candidate_in}
use Rattle.image.specs.Bytes.{bytes_of}
use Rattle.image.specs.Kept.{good_word, slot_in, word_of}
use Rattle.image.specs.KeptLaws.{Held}
use Rattle.image.proofs.KeptLaws.{held_in, held-written, word_fits}
use Rattle.image.specs.Meaning.{record_at, meant_at, table}
use Rattle.image.proofs.MeaningLaws.{table_at}
use Rattle.image_model.specs.Face.{good_where}
use Rattle.face.specs.Sweeps.{Put}
use Rattle.face.proofs.Naming.{written}
use Rattle.image_model.specs.GoodLaws.{good-at}
use Rattle.face.proofs.Storing.{stored-size, stored_here, stored_beside, stored_head, meant_there}

module _ (named : ℕ → Bool) (after : ℕ → Slot → Slot) (n : ℕ) (old : List ℕ) where
  -- of the named SPIs, those below i
  abbrev pub below : ℕ → ℕ → Bool
  below i k = ltb k i && named k

  same : (f g : ℕ → Bool) (now : List ℕ) → ((p : ℕ) → p < n → f (32 + p) ≡ g (32 + p)) → Put f after n old now → Put g after n old now
  same f g now e put = record { size = put.size; head = put.head; records = λ p q. put.records p q ∙ ap (λ (x : Bool). cond x (word_of (after (32 + p) (meant_at n old p))) (record_at old p)) (e p q) }

  module _ (i : ℕ) (now : List ℕ) (put : Put (below i) after n old now) where
    -- SPIs that are not named are passed over
    pub put_skip : (j : ℕ) → i ≤ j → ((k : ℕ) → i ≤ k → k < j → named k ≡ false) → Put (below j) after n old now
    put_skip j le none = same (below i) (below j) now (λ p q. go p) put
      where
        go : (p : ℕ) → below i (32 + p) ≡ below j (32 + p)
        go p = by_cases (dec_lt (32 + p) i)
            (λ r. let x : ltb (32 + p) i ≡ true = lt-ltb (32 + p) i r in let y : ltb (32 + p) j ≡ true = lt-ltb (32 + p) j (omega arith) in rw (x, y))
            (λ r. let x : ltb (32 + p) i ≡ false = le-ltb (32 + p) i (omega arith) in
            by_cases (dec_lt (32 + p) j)
            (λ s. let z = none (32 + p) (omega arith) s in rw (z, and-false (ltb (32 + p) i), and-false (ltb (32 + p) j)))
            (λ s. let y : ltb (32 + p) j ≡ false = le-ltb (32 + p) j (omega arith) in rw (x, y)))

    -- the record of the next one is as it was
    pub put_ahead : (p : ℕ) → p < n → i ≤ 32 + p → record_at now p ≡ record_at old p
    put_ahead p q le = put.records p q ∙ (let z : ltb (32 + p) i ≡ false = le-ltb (32 + p) i le in rw z)

    -- it is stored
    pub put_more : (p w : ℕ) → i ≡ 32 + p → p < n → 24 + 8 * n ≤ length old → named (32 + p) ≡ true → w ≡ word_of (after (32 + p) (meant_at n old p)) → w < 2 ^ 64
        → Put (below (i + 1)) after n old (sets now (24 + 8 * p) (bytes_of 8 w))
    put_more p w at inside room t e fits =
        record {
          size = stored-size now p w ∙ put.size;
          head = λ a h. stored_head now p w a h ∙ put.head a h;
          records = λ q r. by_cases (ℕ_discrete q p) (λ z. here q z) (λ z. other q r z);
        }
      where
        here : (q : ℕ) → q ≡ p → record_at (sets now (24 + 8 * p) (bytes_of 8 w)) q ≡ cond (below (i + 1) (32 + q)) (word_of (after (32 + q) (meant_at n old q))) (record_at old q)
        here q z =
            let y : ltb (32 + p) (i + 1) ≡ true = lt-ltb (32 + p) (i + 1) (omega arith) in
            let long : length now ≡ length old = put.size in
            rw (z, y, t) (stored_here now p w (omega arith) fits ∙ e)

        other : (q : ℕ) → q < n → q ≢ p → record_at (sets now (24 + 8 * p) (bytes_of 8 w)) q ≡ cond (below (i + 1) (32 + q)) (word_of (after (32 + q) (meant_at n old q))) (record_at old q)
        other q r ne = stored_beside now p w q ne ∙ put.records q r ∙ ap (λ (x : Bool). cond (x && named (32 + q)) (word_of (after (32 + q) (meant_at n old q))) (record_at old q)) (apart q ne)
          where
            apart : (q : ℕ) → q ≢ p → ltb (32 + q) i ≡ ltb (32 + q) (i + 1)
            apart q ne = by_cases (dec_lt (32 + q) i)
                (λ h. lt-ltb (32 + q) i h ∙ sym (lt-ltb (32 + q) (i + 1) (omega arith)))
                (λ h. le-ltb (32 + q) i (omega arith) ∙ sym (le-ltb (32 + q) (i + 1) (by_cases (ℕ_discrete (32 + q) i) (λ z. absurd (ne (omega arith))) (λ z. omega arith))))

    -- all are
    pub put_all : ((k : ℕ) → named k ≡ true → k < i) → Put named after n old now
    put_all last = same (below i) named now (λ p q. go (32 + p) (named (32 + p)) refl) put
      where
        go : (k : ℕ) (b : Bool) → named k ≡ b → (ltb k i && b) ≡ b
        go k true e = let z : ltb k i ≡ true = lt-ltb k i (last k e) in rw z
        go k false e = and-false (ltb k i)

-- ---- the list

module _ (e : Bool) (n : ℕ) (b : Bank) (value lo m : ℕ) (slots : List Slot) where
  -- an SPI whose field does not act is not listed
  pub idle_unlisted : (i : ℕ) → acts b (field b value lo i) ≡ false → candidate e n b value lo m slots i ≡ false
  idle_unlisted i h = rw (h, and-false (covers n lo m i))

  pub tells_inside : (tells : Bool) (i : ℕ) → (tells && candidate e n b value lo m slots i) ≡ true → (32 ≤ i) × (i < 32 + n)
  tells_inside true i h = candidate_in e n b value lo m slots i h
  tells_inside false i h = absurd (false≢true h)

  -- one that the code lists is a candidate
  pub listed_so : (i p f : ℕ) (s : Slot) (on : Bool) → covers n lo m i ≡ true → p ≡ i - 32 → f ≡ field b value lo i → s ≡ get_or slots p no_slot → on ≡ field_listed e b f s → on ≡ candidate e n b value lo m slots i
  listed_so i p f s on c at hf hs ho = ho ∙ (rw (hf, hs, at, c))

-- who is listed, and who is not
abbrev pub test : Bool → ℕ → Bank → ℕ → ℕ → ℕ → List ℕ → Bool → ℕ → Bool
test e n b value lo m old tells i = tells && candidate e n b value lo m (table (meant_at n old)) i

pub unlisted : (e : Bool) (n : ℕ) (b : Bank) (value lo m : ℕ) (old : List ℕ) (tells : Bool) (i : ℕ) → acts b (field b value lo i) ≡ false → test e n b value lo m old tells i ≡ false
unlisted e n b value lo m old tells i h = let z = idle_unlisted e n b value lo m (table (meant_at n old)) i h in rw (z, and-false tells)

-- ---- a turn of the code, in its own terms

module _ (e : Bool) (n : ℕ) (b : Bank) (value lo m : ℕ) (old : List ℕ) (most : n ≤ capacity) (room : length old ≡ 24 + 8 * n) (good : good_where (written n b value lo m) n old ≡ true) where
  abbrev pub after : ℕ → Slot → Slot
  after k = field_written e b (field b value lo k)

  abbrev pub Done : ℕ → List ℕ → Type 0
  Done i now = Put (below (written n b value lo m) after n old i) after n old now

  abbrev slots : List Slot
  slots = table (meant_at n old)

  -- the loop stands at the INTID j, whose field acts; f is the field, and s the slot that was loaded
  module _ (j p f : ℕ) (s : Slot) (now : List ℕ) (done : Done j now) (at : p ≡ j - 32) (low : 32 ≤ j) (inside : p < n) (named : written n b value lo m j ≡ true)
      (hf : f ≡ field b value lo j) (hs : s ≡ slot_in (32 + p) (record_at now p)) where
    here : 32 + p ≡ j
    here = omega arith

    good_there : good_word (record_at old p) ≡ true
    good_there = rw at (good-at (written n b value lo m) n old good j low (omega arith) named)

    loaded : s ≡ meant_at n old p
    loaded =
        hs ∙ ap (slot_in (32 + p)) (put_ahead (written n b value lo m) after n old j now done p inside (omega arith))
        ∙ sym (meant_there n old p inside good_there)

    pub stored_more : (w : ℕ) → w ≡ word_of (field_written e b f s) → Done (j + 1) (sets now (24 + 8 * p) (bytes_of 8 w))
    stored_more w hw =
        let held : Held (32 + p) (slot_in (32 + p) (record_at old p)) = held_in (32 + p) (record_at old p) good_there in
        let same : s ≡ slot_in (32 + p) (record_at old p) = loaded ∙ meant_there n old p inside good_there in
        let fits : word_of (field_written e b f (slot_in (32 + p) (record_at old p))) < 2 ^ 64 =
        word_fits (32 + p) (field_written e b f (slot_in (32 + p) (record_at old p))) (held-written (32 + p) e b f (slot_in (32 + p) (record_at old p)) held) in
        put_more (written n b value lo m) after n old j now done p w (sym here) inside (omega arith)
        (subst⁻¹ (λ (k : ℕ). written n b value lo m k ≡ true) here named)
        (hw ∙ ap (λ (x : Slot). word_of (field_written e b f x)) loaded ∙ ap (λ (x : ℕ). word_of (field_written e b x (meant_at n old p))) (hf ∙ ap (field b value lo) (sym here)))
        (subst⁻¹ (λ (x : ℕ). x < 2 ^ 64) (hw ∙ ap (λ (x : Slot). word_of (field_written e b f x)) same) fits)

    pub told_more : (on : Bool) → on ≡ field_listed e b f s → on ≡ candidate e n b value lo m slots j
    told_more on ho =
        let c : covers n lo m j ≡ true = (both (covers n lo m j) _ named).0 in
        listed_so e n b value lo m slots j p f s on c at hf (loaded ∙ sym (table_at (meant_at n old) p (omega arith))) ho
