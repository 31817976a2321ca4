-- A state is what pending and active make, and no two states have the same number.
use Rattle.std.specs.Prelude.{ℕ, ◌+◌, ◌*◌, ◌≡◌, refl, true, false, cond, eqb}
use Rattle.std.proofs.Common.{sym, ap, ◌∙◌}
use mir.Val.{bool_byte}
use Rattle.attributes.specs.declared.attributes.InterruptState.{InterruptState}
use Rattle.attributes.specs.declared.attributes.InterruptState.TheVariants.{Inactive, Pending, Active, ActivePending}
use Rattle.attributes.specs.States.{pending_of, active_of, state_of, state_number}

state_numbered : ℕ → InterruptState
state_numbered n = cond (eqb n 0) Inactive (cond (eqb n 1) Pending (cond (eqb n 2) Active ActivePending))

state_numbered_number : (t : InterruptState) → state_numbered (state_number t) ≡ t
unfolding state_numbered
state_numbered_number Inactive = refl
state_numbered_number Pending = refl
state_numbered_number Active = refl
state_numbered_number ActivePending = refl

pub state_same : (s t : InterruptState) → state_number s ≡ state_number t → s ≡ t
state_same s t e = sym (state_numbered_number s) ∙ ap state_numbered e ∙ state_numbered_number t

-- ---- the four states

pub made_of : (s : InterruptState) → state_of (pending_of s) (active_of s) ≡ s
made_of Inactive = refl
made_of Pending = refl
made_of Active = refl
made_of ActivePending = refl

-- each is what its name says: 1 for pending and 2 for active
pub named_so : (state_of true false ≡ Pending) × (state_of false true ≡ Active) × (state_of true true ≡ ActivePending) × (state_of false false ≡ Inactive)
named_so = (refl, refl, refl, refl)

pub numbered_so : (s : InterruptState) → state_number s ≡ bool_byte (pending_of s) + 2 * bool_byte (active_of s)
numbered_so Inactive = refl
numbered_so Pending = refl
numbered_so Active = refl
numbered_so ActivePending = refl
