-- What `create` promises. It never looks at what the image held.
use Rattle.std.specs.Prelude.{ℕ, ◌+◌, ◌*◌, ◌&&◌, cond, List, [], leb, eqb, length}
use Rattle.identifiers.specs.Answer.{done}
use Rattle.place.specs.Table.{capacity, create_answer}
use Rattle.controller.specs.declared.controller.ControllerConfig.{ControllerConfig}
use Rattle.model.specs.Calls.{created}
use Rattle.image.specs.Bytes.{bit_of}
use Rattle.controller.specs.Modes.{ownership_of}
use Rattle.image.specs.Meaning.{image_of}
use Rattle.image_model.specs.Told.{told, bad_image}
use Rattle.image_model.specs.Face.{Seen, refuses}

-- ownership: 0 all guest-owned, 1 explicit; flags: LPI, ITS, level-3 and range in bits 0 to 3
abbrev pub settings : ℕ → ℕ → ℕ → ℕ → ControllerConfig
settings ownership flags limit frame = record { spi_ownership = ownership_of (eqb ownership 1); distributor_size = frame; exposes_guest_lpis = bit_of 0 0 flags; its = bit_of 0 1 flags; lpi_limit = limit; affinity_level_3 = bit_of 0 2 flags; range_selector = bit_of 0 3 flags }

-- refused 1 for more SPIs than there is room for, and then 6 for the image's length or the settings
abbrev pub create_seen : ℕ → ℕ → ℕ → ℕ → ℕ → List ℕ → Seen
create_seen count ownership flags limit frame image =
    cond (leb count capacity)
    (cond (eqb (length image) (24 + 8 * count) && leb ownership 1 && leb flags 15)
    (record { told = told (done []); image = image_of (created (settings ownership flags limit frame) count); list = [] })
    (refuses bad_image image []))
    (refuses (told (create_answer count)) image [])
