-- The records of the INTIDs below i are good.
use Rattle.std.proofs.Common.{true, ◌+◌, ◌≤◌}
use Rattle.face.proofs.Testing.{GoodFrom}
use Rattle.face.proofs.sweeps.all_good.Given as goal

abbrev pub invariant-loop-i : goal.invariant-loop-i
invariant-loop-i l = (32 ≤ l.i) × (l.i ≤ 32 + l.count) × GoodFrom (λ j. true) 32 l.i l.image
