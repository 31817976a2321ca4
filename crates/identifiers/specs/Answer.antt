-- Answers in the paper's terms: the number of each refusal, what it carries, and what the makers of identifiers answer.
use Rattle.std.specs.Prelude.{ℕ, Bool, true, false, ◌&&◌, cond, List, [], ◌∷◌, ◌++◌, leb, ltb, Result, Ok, Err, codes}
use Rattle.std.specs.Fmt.{decimal}
use Rattle.identifiers.specs.declared.error.Refusal.{Refusal}
use Rattle.identifiers.specs.declared.error.Refusal.TheVariants.{InvalidIntId, ResourceConflict, InvalidAccess, InvalidWidth, ShortList}
use Rattle.identifiers.specs.declared.types.IntId.{IntId}
use Rattle.identifiers.specs.declared.types.SgiId.{SgiId}
use Rattle.identifiers.specs.declared.types.PpiId.{PpiId}
use Rattle.identifiers.specs.declared.types.SpiId.{SpiId}
use Rattle.identifiers.specs.declared.types.LpiId.{LpiId}

-- a call is done, with the values that it answers; or it is refused, with the refusal's number and what the refusal carries
pub data Answer : Type 0 where
  done : List ℕ → Answer
  refused : ℕ → List ℕ → Answer

abbrev pub number_of : Refusal → ℕ
number_of (InvalidIntId raw) = 1
number_of ResourceConflict = 2
number_of InvalidAccess = 3
number_of InvalidWidth = 4
number_of ShortList = 5

-- refusal 1 carries the raw number, the others nothing
abbrev pub carried_by : Refusal → List ℕ
carried_by (InvalidIntId raw) = raw ∷ []
carried_by ResourceConflict = []
carried_by InvalidAccess = []
carried_by InvalidWidth = []
carried_by ShortList = []

-- a refusal as text: its number, and in parentheses what it carries
abbrev pub carried_text : List ℕ → List ℕ
carried_text [] = []
carried_text (n ∷ ns) = codes " (" ++ (decimal n ++ codes ")")

abbrev pub refusal_text : Refusal → List ℕ
refusal_text f = decimal (number_of f) ++ carried_text (carried_by f)

abbrev pub told_refusal : Refusal → Answer
told_refusal f = refused (number_of f) (carried_by f)

-- refused 1 with the lowest of these INTIDs, if there is one
abbrev pub unless : List ℕ → Answer → Answer
unless [] a = a
unless (i ∷ is) a = refused 1 (i ∷ [])

-- what a call answered: done, with the values of what it hands out, or refused
abbrev pub told : {A : Type 0} → (A → List ℕ) → Result A Refusal → Answer
told values (Ok x) = done (values x)
told values (Err f) = told_refusal f

-- what each maker's answer says
abbrev pub told_sgi : Result SgiId Refusal → Answer
told_sgi = told (λ i. i.0 ∷ [])

abbrev pub told_ppi : Result PpiId Refusal → Answer
told_ppi = told (λ i. i.0 ∷ [])

abbrev pub told_spi : Result SpiId Refusal → Answer
told_spi = told (λ i. i.0 ∷ [])

abbrev pub told_lpi : Result LpiId Refusal → Answer
told_lpi = told (λ i. i.0 ∷ [])

-- an INTID's kind as a number: 0 SGI, 1 PPI, 2 SPI, 3 LPI
abbrev pub kind_of : IntId → ℕ
kind_of (IntId.Sgi i) = 0
kind_of (IntId.Ppi i) = 1
kind_of (IntId.Spi i) = 2
kind_of (IntId.Lpi i) = 3

abbrev pub raw_of : IntId → ℕ
raw_of (IntId.Sgi i) = i.0
raw_of (IntId.Ppi i) = i.0
raw_of (IntId.Spi i) = i.0
raw_of (IntId.Lpi i) = i.0

abbrev pub sgi : IntId → Bool
sgi (IntId.Sgi i) = true
sgi (IntId.Ppi i) = false
sgi (IntId.Spi i) = false
sgi (IntId.Lpi i) = false

abbrev pub told_int_id : Result IntId Refusal → Answer
told_int_id = told (λ i. kind_of i ∷ raw_of i ∷ [])

-- from lo up to below end
abbrev pub within : ℕ → ℕ → ℕ → Bool
within lo end n = leb lo n && ltb n end

-- a number outside its range is refusal 1, which carries it
abbrev pub id_answer : ℕ → ℕ → ℕ → Answer
id_answer lo end raw = cond (within lo end raw) (done (raw ∷ [])) (refused 1 (raw ∷ []))

-- SGIs are 0 to 15, PPIs 16 to 31, SPIs 32 to 1019, LPIs 8192 to 0xffffff; the rest is reserved
abbrev pub int_id_answer : ℕ → Answer
int_id_answer raw =
    cond (within 0 16 raw) (done (0 ∷ raw ∷ []))
    (cond (within 16 32 raw) (done (1 ∷ raw ∷ []))
    (cond (within 32 1020 raw) (done (2 ∷ raw ∷ []))
    (cond (within 8192 0x1000000 raw) (done (3 ∷ raw ∷ []))
    (refused 1 (raw ∷ [])))))
