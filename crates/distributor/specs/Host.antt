-- What the host's calls on one SPI promise.
use Rattle.std.specs.Prelude.{ℕ, ◌≡◌, cond, Result, Ok, Err, Option}
use Rattle.identifiers.specs.declared.error.Refusal.TheVariants.{InvalidIntId}
use Rattle.place.specs.Table.{in_table}
use Rattle.slot.specs.BankRule.{slot_of}
use Rattle.spi.specs.ChangeAnswers.{told_change}
use Rattle.model.specs.Calls.{Distributor, Call, size, plain, reply, step}
use Rattle.distributor.specs.declared.distributor.DistributorState.{DistributorState}
use Rattle.attributes.specs.declared.attributes.InterruptState.{InterruptState}
use Rattle.distributor.specs.declared.distributor.After.{After}
use Rattle.distributor.specs.Model.{model_of}
use Rattle.identifiers.specs.declared.error.Refusal.{Refusal}
use Rattle.slot.specs.declared.slot.Slot.{Slot}

-- the slot of an SPI of the table, or refusal 1
abbrev pub slot_answer : Distributor → ℕ → Result Slot Refusal
slot_answer d raw = cond (in_table (size d) raw) (Ok (slot_of d.slots raw)) (Err (InvalidIntId raw))

-- the whole next state, and the answer
abbrev pub ResultOf : Call → DistributorState → After (Option InterruptState) → Type 0
ResultOf c d r = (model_of r.state ≡ step c (model_of d)) × (plain (told_change r.answer) ≡ reply c (model_of d))
