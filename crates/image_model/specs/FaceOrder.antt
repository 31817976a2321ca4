-- Calls one after another, and the calls of the core that they are.
use Rattle.std.specs.Prelude.{ℕ, ◌≡◌, Bool, false, List, [], ◌∷◌, ◌++◌, Option, Some, None}
use Rattle.std.proofs.Math.Option.{some}
use Rattle.std.proofs.Math.ListN.{get_elem?}
use Rattle.theory.specs.Lists.{laid}
use Rattle.controller.specs.declared.controller.ControllerConfig.{ControllerConfig}
use Rattle.changes.specs.declared.change.Change.{Change}
use Rattle.slot.specs.SettingsLaws.{TypedChange}
use Rattle.model.specs.Calls.{Distributor, Call, step, reply}
use Rattle.order.specs.Names.{Name, names}
use Rattle.image.specs.Bytes.{flat}
use Rattle.image_model.specs.declared.told.Told.{Told}
use Rattle.image_model.specs.Told.{told, bad_width}
use Rattle.image_model.specs.Face.{FaceCall, host, seen}
use Rattle.image_model.specs.FaceRefusals.{core_call}

-- a call, and the list that it is lent, of any length and with any bytes in it
pub record Request : Type 0 where
  pub call : FaceCall
  pub list : List ℕ

-- what its caller hears of it: what it tells, and the list as it leaves it
pub record Heard : Type 0 where
  pub told : Told
  pub list : List ℕ

abbrev pub leaves : Request → List ℕ → List ℕ
leaves r image = (seen r.call image r.list).image

abbrev pub hears : Request → List ℕ → Heard
hears r image = record { told = (seen r.call image r.list).told; list = (seen r.call image r.list).list }

-- a host's change hands bytes over, if anything
pub record TypedRequest (r : Request) : Type 0 where
  pub change_typed : (h : Change) (raw : ℕ) → r.call ≡ host h raw → TypedChange h

abbrev pub AllTyped : List Request → Type 0
AllTyped rs = (j : ℕ) (r : Request) → get_elem? rs j ≡ some r → TypedRequest r

-- ---- the same of the core: a call whose width is none is no call of the core, and names nothing

abbrev pub on_call : Option Call → Distributor → Distributor
on_call None d = d
on_call (Some c) d = step c d

abbrev pub heard_on : Option Call → List ℕ → Distributor → Heard
heard_on None list d = record { told = bad_width; list = list }
heard_on (Some c) list d = record { told = told (reply c d).answer; list = laid (flat 4 (reply c d).candidates) list }

abbrev pub named_on : ControllerConfig → ℕ → Option Call → Name → Bool
named_on c n None m = false
named_on c n (Some k) m = names c n k m

abbrev pub core_step : Request → Distributor → Distributor
core_step r d = on_call (core_call r.call r.list) d

abbrev pub core_hears : Request → Distributor → Heard
core_hears r d = heard_on (core_call r.call r.list) r.list d

-- what a request names
abbrev pub request_names : ControllerConfig → ℕ → Request → Name → Bool
request_names c n r m = named_on c n (core_call r.call r.list) m

abbrev pub calls : Option Call → List Call
calls None = []
calls (Some c) = c ∷ []

-- the core's calls that some requests are
abbrev pub core_calls : List Request → List Call
core_calls [] = []
core_calls (r ∷ rs) = calls (core_call r.call r.list) ++ core_calls rs
