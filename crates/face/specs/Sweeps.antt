-- What the loops over an image promise.
use Rattle.std.specs.Prelude.{ℕ, ◌+◌, ◌*◌, ◌≤◌, ◌<◌, ◌≡◌, Bool, cond, List, length, Option, Some, None}
use Rattle.theory.specs.Lists.{laid}
use Rattle.place.specs.Table.{capacity}
use Rattle.slot.specs.declared.slot.Slot.{Slot}
use Rattle.image.specs.Bytes.{number_at, flat}
use Rattle.image.specs.Kept.{word_of}
use Rattle.image.specs.Meaning.{record_at, meant_at}

-- an image of n SPIs
pub record Sized (n : ℕ) (image : List ℕ) : Type 0 where
  pub most : n ≤ capacity
  pub size : length image ≡ 24 + 8 * n

abbrev pub read_answer : Bool → ℕ → Option ℕ
read_answer good v = cond good (Some v) None

-- the records of an image that are named are put as `after` says of what they meant, and the others, and the header, stay
pub record Put (named : ℕ → Bool) (after : ℕ → Slot → Slot) (n : ℕ) (old new : List ℕ) : Type 0 where
  pub size : length new ≡ length old
  pub head : (at : ℕ) → at + 8 ≤ 24 → number_at 8 at new ≡ number_at 8 at old
  pub records : (p : ℕ) → p < n → record_at new p ≡ cond (named (32 + p)) (word_of (after (32 + p) (meant_at n old p))) (record_at old p)

-- the list `new` is the list `old` with the candidates in its first places, 4 bytes each, and k is their number
abbrev pub LaidOut : List ℕ → List ℕ → List ℕ → ℕ → Type 0
LaidOut candidates old new k = (new ≡ laid (flat 4 candidates) old) × (k ≡ length candidates)
