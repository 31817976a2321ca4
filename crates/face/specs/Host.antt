-- What a change of the SPI at a place promises.
use Rattle.std.specs.Prelude.{ℕ, ◌+◌, ◌*◌, cond, List, []}
use Rattle.std.proofs.lemmas.List.Edits.{sets}
use Rattle.changes.specs.declared.change.Change.{Change}
use Rattle.slot.specs.Slots.{changed}
use Rattle.spi.specs.ChangeAnswers.{change_answer}
use Rattle.image.specs.Bytes.{bytes_of}
use Rattle.image.specs.Kept.{good_word, slot_in, word_of}
use Rattle.image.specs.Meaning.{record_at}
use Rattle.image_model.specs.Told.{told, bad_image}
use Rattle.image_model.specs.Face.{Seen, refuses}

abbrev pub change_seen : Change → ℕ → List ℕ → Seen
change_seen h p image =
    cond (good_word (record_at image p))
    (record { told = told (change_answer h (slot_in (32 + p) (record_at image p))); image = sets image (24 + 8 * p) (bytes_of 8 (word_of (changed h (slot_in (32 + p) (record_at image p))))); list = [] })
    (refuses bad_image image [])
