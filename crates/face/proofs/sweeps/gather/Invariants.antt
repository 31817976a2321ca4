-- The records from INTID i up are good, and the value holds their fields.
use Rattle.face.proofs.Gathering.{Gathered}
use Rattle.face.proofs.sweeps.gather.Given as goal

abbrev pub invariant-loop-i : goal.invariant-loop-i
invariant-loop-i l = Gathered l.explicit l.count l.fn.fields.bank l.fn.fields.first l.fn.fields.count l.image l.i l.value
