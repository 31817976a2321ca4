-- The call of the core that a call on an image is, and what is refused before a record is looked at.
use Rattle.std.specs.Prelude.{ℕ, ◌/◌, ltb, length, Some, None, Option}
use Rattle.std.proofs.Math.Bool.{cond}
use mathlib.Core.List.{List, [], ◌∷◌}
use Rattle.identifiers.specs.Answer.{Answer, done, refused}
use Rattle.place.specs.Table.{in_table}
use Rattle.registers.specs.declared.register.AccessWidth.{AccessWidth}
use Rattle.registers.specs.declared.register.Direction.{Direction}
use Rattle.registers.specs.declared.register.Direction.TheVariants.{Reading, Writing}
use Rattle.registers.specs.FrameLaws.{needs_another}
use Rattle.model.specs.Calls.{Distributor, Call, create, is_switched_on, rollback, change, ask, size}
use Rattle.model.specs.RefusedWhen.{misplaced}
use Rattle.image_model.specs.declared.told.Told.{Told}
use Rattle.image_model.specs.Told.{bad_width}
use Rattle.registers.specs.Registers.{width_of}
use Rattle.image_model.specs.Face.{FaceCall, read, write, host, Seen, refuses, on_records}

abbrev pub with_width : Option AccessWidth → (AccessWidth → Call) → Option Call
with_width (Some w) c = Some (c w)
with_width None c = None

-- with the list that is lent
abbrev pub core_call : FaceCall → List ℕ → Option Call
core_call (read offset w) list = with_width (width_of w) (λ x. Call.read offset x)
core_call (write offset w v) list = with_width (width_of w) (λ x. Call.write offset x v (length list / 4))
core_call (host h raw) list = Some (Call.change h raw)

-- what is seen of it, on a good image
abbrev pub on_core : Option Call → List ℕ → List ℕ → Seen
on_core (Some c) image list = on_records c image list
on_core None image list = refuses bad_width image list

-- an access 3 and then 4, a write 5 before both, a host's call 1 where the table has no such SPI
abbrev pub access_first : Distributor → Direction → ℕ → AccessWidth → Answer
access_first d x o w = cond (misplaced d.config.distributor_size o w) (refused 3 []) (cond (needs_another x o w) (refused 4 []) (done []))

abbrev pub refused_first : Distributor → Call → Answer
refused_first d (create c n) = done []
refused_first d (Call.read o w) = access_first d Reading o w
refused_first d (Call.write o w v places) = cond (ltb places (size d)) (refused 5 []) (access_first d Writing o w)
refused_first d is_switched_on = done []
refused_first d (rollback on) = done []
refused_first d (change h raw) = cond (in_table (size d) raw) (done []) (refused 1 (raw ∷ []))
refused_first d (ask q raw) = cond (in_table (size d) raw) (done []) (refused 1 (raw ∷ []))

-- refusals 6 and 7 carry nothing
abbrev pub refusal : ℕ → Told
refusal r = record { number = r; out = 0 }
