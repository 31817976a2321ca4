-- What the parts of a read and of a write promise, for an access that is decoded already.
use Rattle.std.specs.Prelude.{ℕ, ◌/◌, ◌≡◌, true, cond, List}
use Rattle.theory.specs.Lists.{laid}
use Rattle.registers.specs.declared.register.AccessWidth.{AccessWidth}
use Rattle.registers.specs.declared.register.Direction.TheVariants.{Reading}
use Rattle.decoding.specs.Decoding.{decode, write_access}
use Rattle.model.specs.Calls.{size, read_reply, write_reply, after_write}
use Rattle.order.specs.Names.{spi, read_names, write_names}
use Rattle.image.specs.declared.header.Header.{Header}
use Rattle.image.specs.Bytes.{flat}
use Rattle.image.specs.Header.{good_image, header_of}
use Rattle.image.specs.Meaning.{meaning}
use Rattle.image_model.specs.declared.told.Told.{Told}
use Rattle.image_model.specs.Told.{told, bad_image}
use Rattle.image_model.specs.Face.{Seen, good_where, rewritten, refuses}
use Rattle.registers.specs.Registers.{Access}

-- the image is good, and this is its header
pub record Headed (h : Header) (image : List ℕ) : Type 0 where
  pub good : good_image image ≡ true
  pub header : h ≡ header_of image

-- what an access to its frame is decoded to
abbrev pub decode_in : Header → ℕ → AccessWidth → Access
decode_in h offset w = decode Reading h.config.distributor_size offset w

-- a write is lent 4 bytes for each place
abbrev pub write_access_in : Header → ℕ → ℕ → AccessWidth → Access
write_access_in h bytes offset w = write_access (bytes / 4) h.spi_count h.config.distributor_size offset w

module _ (image : List ℕ) where
  abbrev pub N : ℕ
  N = size (meaning image)

  abbrev pub read_told : Access → Told
  read_told a = cond (good_where (λ i. read_names N a (spi i)) N image) (told (read_reply (meaning image) a).answer) bad_image

  abbrev pub write_seen : List ℕ → Access → ℕ → Seen
  write_seen list a v =
      cond (good_where (λ i. write_names N a v (spi i)) N image)
      (record { told = told (write_reply (meaning image) a v).answer; image = rewritten (after_write (meaning image) a v) (λ i. write_names N a v (spi i)) image; list = laid (flat 4 (write_reply (meaning image) a v).candidates) list })
      (refuses bad_image image list)
