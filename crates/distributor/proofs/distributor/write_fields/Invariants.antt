-- The INTIDs below i are written, and their candidates are listed.
use Rattle.std.proofs.Common.{◌≡◌, ◌+◌, ◌-◌, ◌/◌, ◌^◌, ◌≤◌, min, max}
use Rattle.theory.specs.Lists.{passing}
use Rattle.bank.specs.Banks.{bits_of}
use Rattle.distributor.specs.Loops.{with_slots, LaidOut}
use Rattle.distributor.proofs.Writing.{swept, E, N, test}
use Rattle.distributor.proofs.distributor.write_fields.Given as goal

abbrev pub invariant-loop-i : goal.invariant-loop-i
invariant-loop-i l =
    let d = l.initial.d in
    (max l.fn.fields.first 32 ≤ l.i) × (l.i ≤ max (max l.fn.fields.first 32) (min (l.fn.fields.first + l.fn.fields.count) (32 + N d l.fn.fields.bank l.fn.fields.first l.fn.fields.count l.value l.tells))) × (l.v ≡ l.value / (2 ^ bits_of l.fn.fields.bank) ^ (l.i - l.fn.fields.first))
    × (l.d ≡ with_slots d (swept (E d l.fn.fields.bank l.fn.fields.first l.fn.fields.count l.value l.tells) (N d l.fn.fields.bank l.fn.fields.first l.fn.fields.count l.value l.tells) l.fn.fields.bank l.value l.fn.fields.first d.slots l.i))
    × LaidOut (passing (test d l.fn.fields.bank l.fn.fields.first l.fn.fields.count l.value l.tells) (max l.fn.fields.first 32) (l.i - max l.fn.fields.first 32)) l.initial.list l.list l.count
