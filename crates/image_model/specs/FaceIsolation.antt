-- What a guest write spares, and which images a guest read cannot tell apart.
use Rattle.std.specs.Prelude.{ℕ, ◌<◌, ◌≡◌, Bool, true, false, List, length, get_or}
use Rattle.controller.specs.Modes.{explicit}
use Rattle.ownership.specs.Owned.{owned}
use Rattle.image.specs.Kept.{claimed_in, fixed_in, ownership_in, good_word}
use Rattle.image.specs.Header.{header_of}
use Rattle.image.specs.Meaning.{record_at}

-- what the 8 bytes of an SPI were and what they are, as numbers: the claim and the fixed mark are the same, and all of them are where the
-- SPI is unowned
pub record SparedRecord (explicit : Bool) (was is : ℕ) : Type 0 where
  pub claim : claimed_in is ≡ claimed_in was
  pub mark : fixed_in is ≡ fixed_in was
  pub unowned : owned explicit (ownership_in was) ≡ false → is ≡ was

-- the 8 bytes of an SPI in two images, as numbers: the same, or both good and of an unowned SPI, with the same claim and fixed mark
pub data AlikeRecord (explicit : Bool) : ℕ → ℕ → Type 0 where
  same : (w : ℕ) → AlikeRecord explicit w w
  unseen : (v w : ℕ) → good_word v ≡ true → good_word w ≡ true → ownership_in v ≡ ownership_in w → owned explicit (ownership_in v) ≡ false → AlikeRecord explicit v w

-- two images alike but for the contents of unowned records
pub record AlikeImages (l m : List ℕ) : Type 0 where
  pub size : length l ≡ length m
  pub header : (j : ℕ) → j < 24 → get_or l j 0 ≡ get_or m j 0
  pub records : (p : ℕ) → p < (header_of l).spi_count → AlikeRecord (explicit (header_of l).config.spi_ownership) (record_at l p) (record_at m p)
