-- Trigger modes, and the four states that pending and active make.
use Rattle.std.specs.Prelude.{ℕ, Bool, true, false, cond}
use Rattle.attributes.specs.declared.attributes.TriggerMode.{TriggerMode}
use Rattle.attributes.specs.declared.attributes.TriggerMode.TheVariants.{Edge, Level}
use Rattle.attributes.specs.declared.attributes.InterruptState.{InterruptState}
use Rattle.attributes.specs.declared.attributes.InterruptState.TheVariants.{Inactive, Pending, Active, ActivePending}

abbrev pub level_of : TriggerMode → Bool
level_of Edge = false
level_of Level = true

abbrev pub trigger_of : Bool → TriggerMode
trigger_of edge = cond edge Edge Level

abbrev pub pending_of : InterruptState → Bool
pending_of Inactive = false
pending_of Pending = true
pending_of Active = false
pending_of ActivePending = true

abbrev pub active_of : InterruptState → Bool
active_of Inactive = false
active_of Pending = false
active_of Active = true
active_of ActivePending = true

-- the state of an interrupt that is or is not pending, and is or is not active
abbrev pub state_of : Bool → Bool → InterruptState
state_of false false = Inactive
state_of true false = Pending
state_of false true = Active
state_of true true = ActivePending

-- a state as a number
abbrev pub state_number : InterruptState → ℕ
state_number Inactive = 0
state_number Pending = 1
state_number Active = 2
state_number ActivePending = 3
