-- What an image means: the Distributor that its bytes say.
use Rattle.std.specs.Prelude.{ℕ, ◌+◌, ◌*◌, cond, List, ◌++◌, ltb}
use Rattle.theory.specs.Lists.{tabulate}
use Rattle.place.specs.Table.{capacity}
use Rattle.slot.specs.declared.slot.Slot.{Slot}
use Rattle.slot.specs.Slots.{fresh_spi}
use Rattle.slot.specs.BankRule.{slot_of}
use Rattle.model.specs.Calls.{Distributor}
use Rattle.image.specs.Bytes.{number_at, flat}
use Rattle.image.specs.Kept.{slot_in, good_word, word_of}
use Rattle.image.specs.Header.{header_of, header_words}

-- the 8 bytes of the SPI at place p, as a number
abbrev pub record_at : List ℕ → ℕ → ℕ
record_at image p = number_at 8 (24 + 8 * p) image

-- the SPI that they mean: a bad record counts as a fresh one
unfoldable pub meant : ℕ → ℕ → Slot
meant raw w = cond (good_word w) (slot_in raw w) (fresh_spi raw)

-- the slot at place p of an image of n SPIs; those past the last are fresh, as creation leaves them
abbrev pub meant_at : ℕ → List ℕ → ℕ → Slot
meant_at n image p = cond (ltb p n) (meant (32 + p) (record_at image p)) (fresh_spi (32 + p))

-- a slot for every place that a table has room for
unfoldable pub table : (ℕ → Slot) → List Slot
table f = tabulate f 0 capacity

abbrev pub meaning : List ℕ → Distributor
meaning image = record { config = (header_of image).config; switch = (header_of image).enabled; count = (header_of image).spi_count; slots = table (meant_at (header_of image).spi_count image) }

-- the image that is a Distributor's, where every SPI is kept
abbrev pub image_of : Distributor → List ℕ
image_of d = flat 8 (header_words d.config d.switch d.count ++ tabulate (λ p. word_of (slot_of d.slots (32 + p))) 0 d.count)
