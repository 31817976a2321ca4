-- What the face promises. For any bytes, lengths and numbers: what a call tells, and every byte of the image and of the list.
use Rattle.std.specs.Prelude.{ℕ, zero, suc, ◌+◌, ◌-◌, ◌/◌, Bool, true, not, ◌&&◌, ◌||◌, cond, List, ◌++◌, length, Option, Some, None}
use Rattle.theory.specs.Lists.{tabulate, laid}
use Rattle.registers.specs.declared.register.AccessWidth.{AccessWidth}
use Rattle.changes.specs.declared.change.Change.{Change}
use Rattle.slot.specs.BankRule.{slot_of}
use Rattle.model.specs.Calls.{Distributor, Call, size, step, reply}
use Rattle.order.specs.Names.{spi, names}
use Rattle.image.specs.Bytes.{flat}
use Rattle.image.specs.Kept.{good_word, word_of}
use Rattle.image.specs.Header.{good_image, header_words}
use Rattle.image.specs.Meaning.{record_at, meaning}
use Rattle.image_model.specs.declared.told.Told.{Told}
use Rattle.image_model.specs.Told.{told, bad_image, bad_width}
use Rattle.registers.specs.Registers.{width_of}

-- a call on an image. Numbers are as handed over: a width may be any
pub data FaceCall : Type 0 where
  read : ℕ → ℕ → FaceCall
  write : ℕ → ℕ → ℕ → FaceCall
  host : Change → ℕ → FaceCall

-- all that is seen of a call: what it tells, and the image and the lent list as it leaves them
pub record Seen : Type 0 where
  pub told : Told
  pub image : List ℕ
  pub list : List ℕ

-- ---- which records a call looks at

-- a test holds of all n numbers from k on
abbrev pub every : (ℕ → Bool) → ℕ → ℕ → Bool
every t k zero = true
every t k (suc n) = t k && every t (suc k) n

-- every SPI of n that is named has a good record
abbrev pub good_where : (ℕ → Bool) → ℕ → List ℕ → Bool
good_where named n image = every (λ i. not (named i) || good_word (record_at image (i - 32))) 32 n

-- the SPIs that a call of the core names
abbrev pub named_in : List ℕ → Call → ℕ → Bool
named_in image c i = names (meaning image).config (size (meaning image)) c (spi i)

abbrev pub good_named : Call → List ℕ → Bool
good_named c image = good_where (named_in image c) (size (meaning image)) image

-- ---- what a call leaves of an image

-- once the Distributor is d: the header is d's, the records that are named are the bytes of d's slots, and the others stay
unfoldable pub rewritten : Distributor → (ℕ → Bool) → List ℕ → List ℕ
rewritten d named image =
    flat 8
    (header_words d.config d.switch d.count
    ++ tabulate (λ p. cond (named (32 + p)) (word_of (slot_of d.slots (32 + p))) (record_at image p)) 0 d.count)

abbrev pub image_after : Call → List ℕ → List ℕ
image_after c image = rewritten (step c (meaning image)) (named_in image c) image

-- ---- what is seen of a call

abbrev pub refuses : Told → List ℕ → List ℕ → Seen
refuses t image list = record { told = t; image = image; list = list }

-- the core's call on what the image means; a candidate takes 4 bytes of the list
abbrev pub answers : Call → List ℕ → List ℕ → Seen
answers c image list = record { told = told (reply c (meaning image)).answer; image = image_after c image; list = laid (flat 4 (reply c (meaning image)).candidates) list }

-- refused 6 where the call names a bad record. A call that is refused 5, 3 or 4, or a host call outside the table, names none
abbrev pub on_records : Call → List ℕ → List ℕ → Seen
on_records c image list = cond (good_named c image) (answers c image list) (refuses bad_image image list)

-- refused 7 where the width is none
abbrev pub on_width : Option AccessWidth → (AccessWidth → Call) → List ℕ → List ℕ → Seen
on_width (Some w) c image list = on_records (c w) image list
on_width None c image list = refuses bad_width image list

abbrev pub on_good : FaceCall → List ℕ → List ℕ → Seen
on_good (read offset w) image list = on_width (width_of w) (λ x. Call.read offset x) image list
on_good (write offset w v) image list = on_width (width_of w) (λ x. Call.write offset x v (length list / 4)) image list
on_good (host h raw) image list = on_records (Call.change h raw) image list

-- refused 6 first, for the image's length and header
unfoldable pub seen : FaceCall → List ℕ → List ℕ → Seen
seen k image list = cond (good_image image) (on_good k image list) (refuses bad_image image list)
