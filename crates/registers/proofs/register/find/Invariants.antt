-- The rows that were passed over do not count.
use Rattle.std.proofs.Common.{◌≡◌, drop}
use Rattle.registers.specs.Registers.{map, lookup}
use Rattle.registers.proofs.register.find.Given as goal

abbrev pub invariant-loop-row : goal.invariant-loop-row
invariant-loop-row l = lookup l.direction map l.offset l.width ≡ lookup l.direction (drop l.row-index map) l.offset l.width
