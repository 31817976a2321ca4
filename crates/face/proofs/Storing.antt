-- A store to one record: what each record is then.
use Prim.Native.Nat.{ℕ, ◌+◌, ◌-◌, ◌*◌, ◌^◌, ◌≤◌, ◌<◌}
use mathlib.Core.Path.{◌≡◌, sym, ap, ◌∙◌}
use mathlib.Core.Logic.{◌≢◌, by_cases, ◌⊎◌, inl, inr}
use mathlib.Core.Bool.{true}
use mathlib.Core.List.{List}
use native.Mathlib.Decide.{dec_lt}
use native.Mathlib.Omega.{arith}
use borrow.Author.Tests.{lt-ltb}
use lib.Dec.{ltb}
use lib.ListN.{length, get_or}
use lib.Seq.{sets, length-sets}
use Rattle.place.specs.Table.{capacity}
use Rattle.slot.specs.declared.slot.Slot.{Slot}
use Rattle.image.specs.Bytes.{number_at, bytes_of}
use Rattle.image.specs.ByteLaws.{length_bytes, number-stored, number_beside}
use Rattle.image.specs.Kept.{good_word, slot_in}
use Rattle.slot.specs.NoSlot.{no_slot}
use Rattle.image.proofs.KeptLaws.{meant-good}
use Rattle.image.specs.Meaning.{record_at, meant_at, table}
use Rattle.image.proofs.MeaningLaws.{table_at}

module _ (l : List ℕ) (p w : ℕ) where
  abbrev pub stored : List ℕ
  stored = sets l (24 + 8 * p) (bytes_of 8 w)

  pub stored-size : length stored ≡ length l
  stored-size = length-sets l (24 + 8 * p) (bytes_of 8 w)

  pub stored_here : 24 + 8 * p + 8 ≤ length l → w < 2 ^ 64 → record_at stored p ≡ w
  stored_here room fits = number-stored 8 l (24 + 8 * p) w room fits

  pub stored_beside : (q : ℕ) → q ≢ p → record_at stored q ≡ record_at l q
  stored_beside q ne = number_beside 8 l (24 + 8 * p) (24 + 8 * q) (bytes_of 8 w) apart
    where
      k : length (bytes_of 8 w) ≡ 8
      k = length_bytes 8 w

      apart : (24 + 8 * q + 8 ≤ 24 + 8 * p) ⊎ (24 + 8 * p + length (bytes_of 8 w) ≤ 24 + 8 * q)
      apart = by_cases (dec_lt q p) (λ h. inl (omega arith)) (λ h. inr (omega (arith, k)))

  pub stored_head : (at : ℕ) → at + 8 ≤ 24 → number_at 8 at stored ≡ number_at 8 at l
  stored_head at h = number_beside 8 l (24 + 8 * p) at (bytes_of 8 w) (inl (omega arith))

-- the slot that a good record means
pub meant_there : (n : ℕ) (image : List ℕ) (p : ℕ) → p < n → good_word (record_at image p) ≡ true → meant_at n image p ≡ slot_in (32 + p) (record_at image p)
meant_there n image p h g = let t : ltb p n ≡ true = lt-ltb p n h in rw t (meant-good (32 + p) (record_at image p) g)

-- the slot that the code loads from the place of an INTID whose record is good is the one that stands there in the table
pub slot_read : (n : ℕ) (image : List ℕ) (i p w : ℕ) (s : Slot) → n ≤ capacity → 32 ≤ i → i < 32 + n → p ≡ i - 32 → w ≡ record_at image p → s ≡ slot_in (32 + p) w
    → good_word (record_at image p) ≡ true → s ≡ get_or (table (meant_at n image)) p no_slot
slot_read n image i p w s most low high at hw hs g =
    hs ∙ ap (slot_in (32 + p)) hw ∙ sym (table_at (meant_at n image) p (omega arith) ∙ meant_there n image p (omega arith) g)
