-- What the host asks about one SPI, and what is answered.
use Rattle.std.specs.Prelude.{ℕ, not, List, [], ◌∷◌, Result, Ok, Err, Option, Some, None, unwrap_or}
use Rattle.identifiers.specs.Answer.{Answer, told, raw_of}
use Rattle.attributes.specs.Affinity.{mpidr_of}
use Rattle.attributes.specs.States.{level_of, state_number}
use Rattle.life.specs.Life.{has_delivery}
use Rattle.interrupt.specs.Records.{state_in, route_in, mask_in, deliverable_in}
use Rattle.bank.specs.Banks.{bit}
use Rattle.slot.specs.declared.slot.Slot.{Slot}
use Rattle.spi.specs.declared.question.Question.{Question}
use Rattle.spi.specs.declared.question.Question.TheVariants.{Intid, Enabled, Pending, Active, State, HasDeliveryState, Priority, Trigger, CpuTargetMask, Deliverable, IsClaimed, HasFixedRoute}
use Rattle.spi.specs.declared.question.Value.{Value}
use Rattle.identifiers.specs.declared.error.Refusal.{Refusal}
use Rattle.attributes.specs.declared.attributes.GicAffinity.{GicAffinity}

-- the mask, or 1 where there is none
abbrev pub mask_or_one : Option ℕ → ℕ
mask_or_one m = unwrap_or m 1

abbrev pub value_of : Question → Slot → Value
value_of Intid s = Value.Intid (raw_of s.interrupt.intid)
value_of Enabled s = Value.Flag s.interrupt.life.enabled
value_of Pending s = Value.Flag s.interrupt.life.pending
value_of Active s = Value.Flag s.interrupt.life.active
value_of State s = Value.State (state_in s.interrupt)
value_of HasDeliveryState s = Value.Flag (has_delivery s.interrupt.life)
value_of Priority s = Value.Priority s.interrupt.priority
value_of Trigger s = Value.Trigger s.interrupt.trigger
value_of Question.Route s = Value.Route (route_in s.interrupt)
value_of CpuTargetMask s = Value.Mask (mask_or_one (mask_in s.interrupt))
value_of Deliverable s = Value.Flag (deliverable_in s.interrupt)
value_of IsClaimed s = Value.Flag s.ownership.explicitly_owned
value_of HasFixedRoute s = Value.Flag s.ownership.fixed_route

-- ---- in the paper's terms

abbrev pub route_values : Option GicAffinity → List ℕ
route_values (Some a) = mpidr_of a ∷ []
route_values None = []

-- a trigger is 1 for edge
abbrev pub told_value : Value → List ℕ
told_value (Value.Intid n) = n ∷ []
told_value (Value.Flag b) = bit b ∷ []
told_value (Value.State t) = state_number t ∷ []
told_value (Value.Priority p) = p.0 ∷ []
told_value (Value.Trigger t) = bit (not (level_of t)) ∷ []
told_value (Value.Route r) = route_values r
told_value (Value.Mask m) = m ∷ []

-- the slot answers; where there is none, every question gets the refusal
abbrev pub question_answer : Question → Result Slot Refusal → Result Value Refusal
question_answer q (Ok s) = Ok (value_of q s)
question_answer q (Err f) = Err f

abbrev pub told_question : Result Value Refusal → Answer
told_question = told told_value
