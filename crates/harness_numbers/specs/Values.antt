-- The values of the host's questions in numbers.
use Rattle.std.specs.Prelude.{ℕ, ◌+◌, ◌^◌, ◌≡◌, refl, not, Result, Ok, Err, Option, Some, None}
use Rattle.identifiers.specs.Answer.{done, told_refusal}
use Rattle.identifiers.specs.declared.error.Refusal.{Refusal}
use Rattle.attributes.specs.declared.attributes.GicAffinity.{GicAffinity}
use Rattle.attributes.specs.Affinity.{mpidr_of}
use Rattle.attributes.specs.States.{level_of, state_number}
use Rattle.interrupt.specs.Records.{route_in}
use Rattle.bank.specs.Banks.{bit}
use Rattle.slot.specs.declared.slot.Slot.{Slot}
use Rattle.spi.specs.declared.question.Question.{Question}
use Rattle.spi.specs.declared.question.Question.TheVariants.{Intid, Enabled, Pending, Active, State, HasDeliveryState, CpuTargetMask, Deliverable, IsClaimed, HasFixedRoute}
use Rattle.spi.specs.declared.question.Value.{Value}
use Rattle.spi.specs.Questions.{value_of, told_value, route_values}
use Rattle.harness_numbers.specs.declared.answer.Answer.{Answer}
use Rattle.harness_numbers.specs.Numbers.{numbers, valued, route_payload, asked}

abbrev pub route_number : Option GicAffinity → ℕ
route_number (Some a) = 2 ^ 40 + mpidr_of a
route_number None = 0

abbrev pub value_number : Value → ℕ
value_number (Value.Intid n) = n
value_number (Value.Flag b) = bit b
value_number (Value.State t) = state_number t
value_number (Value.Priority p) = p.0
value_number (Value.Trigger t) = bit (not (level_of t))
value_number (Value.Route r) = route_number r
value_number (Value.Mask m) = m

abbrev pub seen_question : Result Value Refusal → Answer
seen_question (Ok v) = numbers 0 (value_number v) 0
seen_question (Err f) = valued (told_refusal f)

route_asked : (r : Option GicAffinity) → numbers 0 (route_number r) 0 ≡ numbers 0 (route_payload (route_values r)) 0
route_asked (Some a) = refl
route_asked None = refl

-- the value that a slot gives is told as the numbers of its question have it
pub value_asked : (q : Question) (s : Slot) → numbers 0 (value_number (value_of q s)) 0 ≡ asked q (done (told_value (value_of q s)))
value_asked Intid s = refl
value_asked Enabled s = refl
value_asked Pending s = refl
value_asked Active s = refl
value_asked State s = refl
value_asked HasDeliveryState s = refl
value_asked Question.Priority s = refl
value_asked Question.Trigger s = refl
value_asked Question.Route s = route_asked (route_in s.interrupt)
value_asked CpuTargetMask s = refl
value_asked Deliverable s = refl
value_asked IsClaimed s = refl
value_asked HasFixedRoute s = refl
