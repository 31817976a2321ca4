-- The header stands, and the p records after it are fresh.
use Rattle.std.proofs.Common.{◌≡◌, ◌+◌, ◌*◌, ◌≤◌, length, take}
use Rattle.face.proofs.Creating.{fresh_to}
use Rattle.face.proofs.create.fill.Given as goal

abbrev pub invariant-loop-p : goal.invariant-loop-p
invariant-loop-p l =
    (l.p ≤ l.count) × (length l.image ≡ length l.initial.image) × (take (24 + 8 * l.p) l.image ≡ fresh_to l.initial.image l.p)
