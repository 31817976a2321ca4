-- The named records of the INTIDs below i are good. Fields that do not act are passed over.
use Rattle.std.proofs.Common.{◌≡◌, ◌+◌, ◌-◌, ◌/◌, ◌^◌, ◌≤◌, min, max}
use Rattle.bank.specs.Banks.{bits_of}
use Rattle.face.proofs.Naming.{written}
use Rattle.face.proofs.Testing.{GoodFrom}
use Rattle.face.proofs.sweeps.are_good.Given as goal

abbrev pub invariant-loop-i : goal.invariant-loop-i
invariant-loop-i l =
    (max l.fn.fields.first 32 ≤ l.i) × (l.i ≤ max (max l.fn.fields.first 32) (min (l.fn.fields.first + l.fn.fields.count) (32 + l.count))) × (l.v ≡ l.value / (2 ^ bits_of l.fn.fields.bank) ^ (l.i - l.fn.fields.first))
    × GoodFrom (written l.count l.fn.fields.bank l.value l.fn.fields.first l.fn.fields.count) (max l.fn.fields.first 32) l.i l.image

abbrev pub decreases-loop-i : goal.decreases-loop-i
decreases-loop-i l = l.end - l.i
