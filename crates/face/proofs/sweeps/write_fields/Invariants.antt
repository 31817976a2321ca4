-- The named records of the INTIDs below i are written, and their candidates are listed.
use Rattle.std.proofs.Common.{◌≡◌, ◌+◌, ◌-◌, ◌/◌, ◌^◌, ◌≤◌, min, max, ◌&&◌}
use Rattle.theory.specs.Lists.{passing}
use Rattle.bank.specs.Banks.{bits_of, field}
use Rattle.slot.specs.Slots.{field_written}
use Rattle.slot.specs.BankRule.{candidate}
use Rattle.image.specs.Meaning.{meant_at, table}
use Rattle.face.specs.Sweeps.{Put, LaidOut}
use Rattle.face.proofs.Naming.{written}
use Rattle.face.proofs.Writing.{below}
use Rattle.face.proofs.sweeps.write_fields.Given as goal

abbrev pub invariant-loop-i : goal.invariant-loop-i
invariant-loop-i l =
    (max l.fn.fields.first 32 ≤ l.i) × (l.i ≤ max (max l.fn.fields.first 32) (min (l.fn.fields.first + l.fn.fields.count) (32 + l.count))) × (l.v ≡ l.value / (2 ^ bits_of l.fn.fields.bank) ^ (l.i - l.fn.fields.first))
    × Put (below (written l.count l.fn.fields.bank l.value l.fn.fields.first l.fn.fields.count) (λ k. field_written l.explicit l.fn.fields.bank (field l.fn.fields.bank l.value l.fn.fields.first k)) l.count l.initial.image l.i) (λ k. field_written l.explicit l.fn.fields.bank (field l.fn.fields.bank l.value l.fn.fields.first k)) l.count l.initial.image l.image
    × LaidOut (passing (λ k. l.tells && candidate l.explicit l.count l.fn.fields.bank l.value l.fn.fields.first l.fn.fields.count (table (meant_at l.count l.initial.image)) k) (max l.fn.fields.first 32) (l.i - max l.fn.fields.first 32)) l.initial.list l.list l.listed

abbrev pub decreases-loop-i : goal.decreases-loop-i
decreases-loop-i l = l.end - l.i
