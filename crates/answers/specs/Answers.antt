-- The guest's answers in the paper's terms.
use Rattle.std.specs.Prelude.{ℕ, List, [], ◌∷◌, Result, Ok, Err, Option, Some, None, option_map, option_to_list}
use Rattle.attributes.specs.declared.attributes.InterruptState.{InterruptState}
use Rattle.attributes.specs.States.{state_number}
use Rattle.identifiers.specs.declared.error.Refusal.{Refusal}
use Rattle.identifiers.specs.declared.error.Refusal.TheVariants.{InvalidIntId}
use Rattle.identifiers.specs.Answer.{Answer, told}

-- a read answers its value, a write how many candidates it lists
abbrev pub told_read : Result ℕ Refusal → Answer
told_read = told (λ v. v ∷ [])

abbrev pub told_write : Result ℕ Refusal → Answer
told_write = told (λ n. n ∷ [])

-- a synchronisation hands out the merged state, and another change of the host nothing
abbrev pub state_values : Option InterruptState → List ℕ
state_values s = option_to_list (option_map state_number s)

-- refused 1 over the lowest INTID beyond the table, if there is one
abbrev pub answered : {A : Type 0} → Option ℕ → A → Result A Refusal
answered None x = Ok x
answered (Some i) x = Err (InvalidIntId i)
