-- None of the first j INTIDs is refused, and v holds the fields of the others.
use Rattle.std.proofs.Common.{◌≡◌, ◌/◌, ◌^◌, []}
use Rattle.theory.specs.Lists.{passing}
use Rattle.bank.specs.Banks.{bits_of, refused_over}
use Rattle.bank.proofs.bank.first_beyond.Given as goal

abbrev pub invariant-loop-j : goal.invariant-loop-j
invariant-loop-j l =
    (l.v ≡ l.value / (2 ^ bits_of l.bank) ^ l.j) × (passing (refused_over l.explicit l.n l.bank l.value l.lo) l.lo l.j ≡ [])
