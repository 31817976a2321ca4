-- The loops that test and read the fields of a bank from the records of an image, from the highest INTID down: one field more.
use Rattle.std.specs.Prelude.{Some, None}
use Prim.Native.Nat.{ℕ, zero, suc, ◌+◌, ◌-◌, ◌*◌, ◌%◌, ◌^◌, ◌≤◌, ◌<◌, min, max}
use mathlib.Core.Path.{◌≡◌, refl, ap, ◌∙◌}
use mathlib.Core.Bool.{Bool, true, false, not}
use mathlib.Core.List.{List}
use native.Mathlib.Omega.{arith}
use Rattle.place.specs.Table.{capacity, table_size, span_of}
use Rattle.place.specs.declared.place.Span.{Span}
use Rattle.bank.specs.declared.bank.Flag.{Flag}
use Rattle.bank.specs.declared.bank.Bank.{Bank}
use Rattle.bank.specs.declared.bank.Bank.TheVariants.{Set, Clear}
use Rattle.bank.specs.Banks.{bits_of, packed}
use Rattle.bank.proofs.Digits.{below_same}
use Rattle.slot.specs.declared.slot.Slot.{Slot}
use Rattle.slot.specs.Slots.{showing}
use Rattle.slot.specs.BankRule.{covers, shown_at, bank_value}
use Rattle.model.proofs.Reading.{room, packed_more, packed_room, shows, all_read}
use Rattle.model.proofs.Covering.{covers_yes, covers-inside}
use Rattle.image.specs.Kept.{good_word, slot_in}
use Rattle.image.specs.Meaning.{record_at, meant_at, table}
use Rattle.image_model.specs.Face.{good_where}
use Rattle.face.specs.Sweeps.{Sized, read_answer}
use Rattle.image_model.specs.GoodLaws.{good_all, good_not}
use Rattle.face.proofs.Testing.{GoodFrom, good_less, found_good, found_bad}
use Rattle.face.proofs.Storing.{slot_read}

-- the two banks of a flag read the same
pub paired : (t : ℕ → ℕ) (f : Flag) (lo m : ℕ) → packed (Set f) t lo m ≡ packed (Clear f) t lo m
paired t f lo zero = refl
paired t f lo (suc m) = let rest = paired t f (suc lo) m in rw rest

-- a loop over the m fields from INTID lo on stands at i: the records from i up are good, and v holds their fields
module _ (e : Bool) (n : ℕ) (b : Bank) (lo m : ℕ) (image : List ℕ) where
  abbrev end : ℕ
  end = min (lo + m) (32 + n)

  abbrev slots : List Slot
  slots = table (meant_at n image)

  pub record Gathered (i v : ℕ) : Type 0 where
    pub low : min (max lo 32) end ≤ i
    pub high : i ≤ end
    pub value : v ≡ packed b (shown_at e n b slots) i (end - i)
    pub small : v < (2 ^ bits_of b) ^ (end - i)
    pub good : GoodFrom (covers n lo m) i end image

  -- what the loop was asked for
  pub record Asked : Type 0 where
    pub sized : Sized n image
    pub fits : bits_of b * m ≤ 64
    pub whole : lo < 32 → lo + m ≤ 32

  -- where it goes: from the span's end down to its first
  pub record Spans (s : Span) : Type 0 where
    pub first : s.first ≡ max lo 32
    pub last : s.end ≡ end

  module _ (asked : Asked) where
    pub span_so : (s : Span) → s ≡ span_of (table_size n) lo m → Spans s
    span_so s h =
        let most = asked.sized.most in
        let f = ap (λ (x : Span). x.first) h in
        let l = ap (λ (x : Span). x.end) h in
        record { first = f; last = omega arith }

    -- a turn: the INTID below i, at the place p, with the number w there
    module _ (s : Span) (at : Spans s) (i v : ℕ) (g : Gathered i v) (more : s.first < i) (p : ℕ) (near : p ≡ min (i - 1 - 32) (capacity - 1)) where
      spi : (32 ≤ i - 1) × (i - 1 < 32 + n) × (lo ≤ i - 1) × (i - 1 < lo + m)
      spi =
          let f = at.first in
          let h = g.high in
          (omega arith, omega arith, omega arith, omega arith)

      turns_few : i ≤ end → end - (i - 1) ≤ m
      turns_few h = let f = at.first in omega arith

      place : p ≡ i - 1 - 32
      place = let most = asked.sized.most in let r = spi in omega arith

      module _ (w : ℕ) (x : Bool) (hw : w ≡ record_at image p) (hx : x ≡ good_word w) where
        tested : x ≡ good_word (record_at image p)
        tested = hx ∙ ap good_word hw

        -- a bad record was found
        pub gathered_bad : not x ≡ true → None ≡ read_answer (good_where (covers n lo m) n image) (bank_value e n b lo m slots)
        gathered_bad t =
            let bad : good_word (record_at image (i - 1 - 32)) ≡ false = rw (← place) (found_bad x (good_word (record_at image p)) tested t) in
            let r = spi in
            rw (good_not (covers n lo m) n image (i - 1) r.0 r.1 (covers_yes n lo m (i - 1) r.2 r.3 r.0 r.1) bad)

        -- a good one was, and its field f is put below the others
        pub gathered_more : not x ≡ false → (sl : Slot) (f v' : ℕ) → sl ≡ slot_in (32 + p) w → f ≡ showing e b sl → f < 2 ^ bits_of b
            → v' ≡ v % 2 ^ (64 - bits_of b) * 2 ^ bits_of b + f % 2 ^ bits_of b → Gathered (i - 1) v'
        gathered_more t sl f v' hs hf small hv =
            let ok = found_good x (good_word (record_at image p)) tested t in
            let r = spi in
            let pos : 0 < i = omega arith in
            let S = slot_read n image (i - 1) p w sl asked.sized.most r.0 r.1 place hw hs ok in
            let shown = shows e n b slots (i - 1) p f e r.0 r.1 place refl (hf ∙ ap (showing e b) S) in
            let below = packed_room b (shown_at e n b slots) i end v f pos g.high g.small small in
            let fit = room b (end - (i - 1)) m asked.fits (turns_few g.high) in
            let whole = hv ∙ below_same b v f (omega (arith, below, fit)) small in
            record {
              low = let fst = at.first in omega arith;
              high = let h = g.high in omega arith;
              value = whole ∙ packed_more b (shown_at e n b slots) i end v f pos g.high g.value shown;
              small = rw whole below;
              good = good_less (covers n lo m) i end image g.good p place (λ k. ok);
            }

    -- all are read
    pub gathered_all : (s : Span) → Spans s → (i v : ℕ) → Gathered i v → i ≤ s.first → Some v ≡ read_answer (good_where (covers n lo m) n image) (bank_value e n b lo m slots)
    gathered_all s at i v g stop =
        let done : i ≤ max lo 32 = let f = at.first in omega arith in
        let good = good_all (covers n lo m) n image (λ j p q t. let r = covers-inside n lo m j t in g.good.good j (omega (arith, r, done)) (omega (arith, r)) t) in
        rw good (ap Some (all_read e n b slots lo m v i asked.whole g.low g.high done g.value))
