-- What a change of the host answers.
use Rattle.std.specs.Prelude.{Bool, cond, List, [], ◌∷◌, ℕ, Result, Option, option_map, option_to_list}
use Rattle.identifiers.specs.Answer.{Answer, done, refused, told}
use Rattle.attributes.specs.States.{state_number}
use Rattle.interrupt.specs.Records.{state_in, synchronized_with}
use Rattle.slot.specs.declared.slot.Slot.{Slot}
use Rattle.changes.specs.declared.change.Change.{Change}
use Rattle.changes.specs.declared.change.Change.TheVariants.{Claim, ClaimTo, Release, SetCpuTargetMask, SynchronizeInflight, Operate}
use Rattle.identifiers.specs.declared.error.Refusal.{Refusal}
use Rattle.attributes.specs.declared.attributes.InterruptState.{InterruptState}

-- a claim of an SPI that is claimed already is refused 2
abbrev pub claim_answer : Bool → Answer
claim_answer claimed = cond claimed (refused 2 []) (done [])

-- a synchronisation answers the merged state
abbrev pub change_answer : Change → Slot → Answer
change_answer Claim s = claim_answer s.ownership.explicitly_owned
change_answer (ClaimTo a) s = claim_answer s.ownership.explicitly_owned
change_answer Release s = done []
change_answer (SetCpuTargetMask m) s = done []
change_answer (SynchronizeInflight t) s = done (state_number (state_in (synchronized_with t s.interrupt)) ∷ [])
change_answer (Operate o) s = done []

abbrev pub told_given : Option InterruptState → List ℕ
told_given g = option_to_list (option_map state_number g)

abbrev pub told_change : Result (Option InterruptState) Refusal → Answer
told_change = told told_given
