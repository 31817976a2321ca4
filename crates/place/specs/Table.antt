-- Which INTIDs a table of SPIs has, and at which place each stands.
use Rattle.std.specs.Prelude.{ℕ, ◌+◌, ◌-◌, min, max, Bool, ◌&&◌, cond, [], ◌∷◌, leb, Result, ⊤}
use Rattle.identifiers.specs.Answer.{Answer, done, refused, told, within}
use Rattle.place.specs.declared.place.Span.{Span}
use Rattle.identifiers.specs.declared.error.Refusal.{Refusal}
use Rattle.place.specs.declared.place.Place.{Place}

-- how many SPIs a table has room for
abbrev pub capacity : ℕ
capacity = 988

-- more SPIs than a table has room for are refused 1, carrying the first INTID past the SPIs; such a creation makes none
abbrev pub create_answer : ℕ → Answer
create_answer n = cond (leb n capacity) (done []) (refused 1 (1020 ∷ []))

abbrev pub created_count : ℕ → ℕ
created_count n = cond (leb n capacity) n 0

abbrev pub told_create : Result ⊤ Refusal → Answer
told_create = told (λ x. [])

abbrev pub table_size : ℕ → ℕ
table_size count = min count capacity

-- a table of n SPIs has INTIDs 32 to 31 + n
abbrev pub in_table : ℕ → ℕ → Bool
in_table n i = within 32 (32 + n) i

-- an SPI that could be and is not there. With explicit claims the guest is refused over it, by the base's rule
abbrev pub beyond_table : Bool → ℕ → ℕ → Bool
beyond_table explicit n i = explicit && within (32 + n) 1020 i

-- those of the m INTIDs from lo on that the table has: none where first is not below end
abbrev pub span_of : ℕ → ℕ → ℕ → Span
span_of n lo m = record { first = max lo 32; end = min (lo + m) (32 + n) }

abbrev pub told_place : Result Place Refusal → Answer
told_place = told (λ p. p ∷ [])

-- INTID i stands 32 places lower; one that the table has not is refused 1
abbrev pub place_answer : ℕ → ℕ → Answer
place_answer n i = cond (in_table n i) (done ((i - 32) ∷ [])) (refused 1 (i ∷ []))
