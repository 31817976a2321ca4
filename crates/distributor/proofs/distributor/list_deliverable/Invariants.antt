-- The deliverable SPIs below INTID i are listed.
use Rattle.std.proofs.Common.{◌+◌, ◌-◌, ◌≤◌}
use Rattle.theory.specs.Lists.{passing}
use Rattle.place.specs.Table.{table_size}
use Rattle.model.specs.Calls.{deliverable_at}
use Rattle.distributor.specs.Loops.{LaidOut}
use Rattle.distributor.proofs.distributor.list_deliverable.Given as goal

abbrev pub invariant-loop-i : goal.invariant-loop-i
invariant-loop-i l =
    (32 ≤ l.i) × (l.i ≤ 32 + table_size l.d.spi_count) × LaidOut (passing (deliverable_at l.d.slots) 32 (l.i - 32)) l.initial.list l.list l.count
