-- A Distributor that an image can keep, and a wholly good image.
use Rattle.std.specs.Prelude.{ℕ, ◌+◌, ◌≤◌, ◌<◌, ◌≡◌, true, List, ◌++◌, length}
use Rattle.theory.specs.Lists.{tabulate}
use Rattle.place.specs.Table.{capacity}
use Rattle.slot.specs.Slots.{fresh_spi}
use Rattle.slot.specs.BankRule.{slot_of}
use Rattle.model.specs.Calls.{Distributor}
use Rattle.image.specs.Bytes.{flat, Bytes}
use Rattle.image.specs.Kept.{good_word}
use Rattle.image.specs.KeptLaws.{Held}
use Rattle.image.specs.Header.{header_of, good_image, header_words}
use Rattle.image.specs.HeaderLaws.{Fitting}
use Rattle.image.specs.Meaning.{record_at}

-- its settings fit, its SPIs can be kept, and the places past the last are as creation leaves them
pub record Kept (d : Distributor) : Type 0 where
  pub fits : Fitting d.config d.count
  pub room : length d.slots ≡ capacity
  pub held : (p : ℕ) → p < d.count → Held (32 + p) (slot_of d.slots (32 + p))
  pub fresh : (p : ℕ) → d.count ≤ p → p < capacity → slot_of d.slots (32 + p) ≡ fresh_spi (32 + p)

-- the image of a Distributor's header, and of a number for each of its SPIs
abbrev pub image_with : Distributor → (ℕ → ℕ) → List ℕ
image_with d word = flat 8 (header_words d.config d.switch d.count ++ tabulate word 0 d.count)

-- good header, length and records
pub record Whole (l : List ℕ) : Type 0 where
  pub bytes : Bytes l
  pub good : good_image l ≡ true
  pub records : (p : ℕ) → p < (header_of l).spi_count → good_word (record_at l p) ≡ true
