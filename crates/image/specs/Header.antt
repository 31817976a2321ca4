-- The header of an image, 24 bytes: three numbers of 8 bytes.
use Rattle.std.specs.Prelude.{ℕ, ◌+◌, ◌*◌, ◌/◌, ◌%◌, ◌^◌, Bool, ◌&&◌, cond, List, [], ◌∷◌, eqb, leb, length, Option, Some, None}
use mir.Val.{bool_byte}
use Rattle.place.specs.Table.{capacity}
use Rattle.controller.specs.declared.controller.ControllerConfig.{ControllerConfig}
use Rattle.controller.specs.Modes.{explicit, ownership_of}
use Rattle.image.specs.declared.header.Header.{Header}
use Rattle.image.specs.Bytes.{byte_of, bit_of, number_at}

-- byte 0 is 0 or 1, byte 1 is 0 or 1, byte 2 is under 16, byte 3 is 0; bytes 4 to 7 hold the count, at most 988, so that bytes 6 and 7
-- are 0; and bytes 12 to 15 are 0
unfoldable pub good_header : ℕ → ℕ → Bool
good_header first second =
    leb (byte_of 0 first) 1 && leb (byte_of 1 first) 1 && leb (byte_of 2 first) 15 && eqb (byte_of 3 first) 0 && leb (first / 2 ^ 32) capacity
    && eqb (second / 2 ^ 32) 0

-- byte 1: the ownership, 0 all guest-owned and 1 explicit; byte 2: LPI, ITS, level-3 and range flags in bits 0 to 3; bytes 8 to 11 the LPI limit, 16 to 23 the frame size
abbrev pub config_in : ℕ → ℕ → ℕ → ControllerConfig
config_in first second third = record { spi_ownership = ownership_of (eqb (byte_of 1 first) 1); distributor_size = third; exposes_guest_lpis = bit_of 2 0 first; its = bit_of 2 1 first; lpi_limit = second % 2 ^ 32; affinity_level_3 = bit_of 2 2 first; range_selector = bit_of 2 3 first }

-- byte 0 is the switch, bytes 4 and 5 the count
unfoldable pub header_in : ℕ → ℕ → ℕ → Header
header_in first second third = record { config = config_in first second third; enabled = eqb (byte_of 0 first) 1; spi_count = first / 2 ^ 32 % 2 ^ 32 }

-- the header that stands in an image
abbrev pub header_of : List ℕ → Header
header_of image = header_in (number_at 8 0 image) (number_at 8 8 image) (number_at 8 16 image)

-- an image is 24 bytes of header, and 8 for each SPI
unfoldable pub good_image : List ℕ → Bool
good_image image = leb 24 (length image) && good_header (number_at 8 0 image) (number_at 8 8 image) && eqb (length image) (24 + 8 * (number_at 8 0 image / 2 ^ 32))

abbrev pub header_answer : List ℕ → Option Header
header_answer image = cond (good_image image) (Some (header_of image)) None

-- the numbers of a header: settings, switch and count; LPI limit; frame size
unfoldable pub first_word : ControllerConfig → Bool → ℕ → ℕ
first_word c on n =
    bool_byte on + 2 ^ 8 * bool_byte (explicit c.spi_ownership) + 2 ^ 16 * bool_byte c.exposes_guest_lpis + 2 ^ 17 * bool_byte c.its
    + 2 ^ 18 * bool_byte c.affinity_level_3 + 2 ^ 19 * bool_byte c.range_selector + 2 ^ 32 * n

abbrev pub header_words : ControllerConfig → Bool → ℕ → List ℕ
header_words c on n = first_word c on n ∷ c.lpi_limit ∷ c.distributor_size ∷ []
