-- The deliverable SPIs below INTID i are listed.
use Rattle.std.proofs.Common.{◌+◌, ◌-◌, ◌≤◌}
use Rattle.theory.specs.Lists.{passing}
use Rattle.model.specs.Calls.{deliverable_at}
use Rattle.image.specs.Meaning.{meant_at, table}
use Rattle.face.specs.Sweeps.{LaidOut}
use Rattle.face.proofs.sweeps.list_deliverable.Given as goal

abbrev pub invariant-loop-i : goal.invariant-loop-i
invariant-loop-i l =
    (32 ≤ l.i) × (l.i ≤ 32 + l.count) × LaidOut (passing (deliverable_at (table (meant_at l.count l.image))) 32 (l.i - 32)) l.initial.list l.list l.listed
