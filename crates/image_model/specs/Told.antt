-- What a call of the face tells: the number of its refusal, 0 when it is done, and what `out` gets.
use Rattle.std.specs.Prelude.{ℕ, List, get_or}
use Rattle.identifiers.specs.Answer.{Answer, done, refused}
use Rattle.image_model.specs.declared.told.Told.{Told}

-- `out` gets the value, or the number that refusal 1 carries; 0 where there is none
abbrev pub first_or_zero : List ℕ → ℕ
first_or_zero vs = get_or vs 0 0

abbrev pub told : Answer → Told
told (done values) = record { number = 0; out = first_or_zero values }
told (refused k carried) = record { number = k; out = first_or_zero carried }

-- refusals 6 and 7 carry nothing
abbrev pub bad_image : Told
bad_image = record { number = 6; out = 0 }

abbrev pub bad_width : Told
bad_width = record { number = 7; out = 0 }
