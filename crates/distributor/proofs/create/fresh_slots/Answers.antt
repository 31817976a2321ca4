-- Each place is what the closure makes at it.
use Rattle.std.proofs.Common.{ℕ, ◌+◌, ◌<◌, ◌≡◌, slice_index_or, rules, arith}
use Rattle.place.specs.Table.{capacity}
use Rattle.slot.specs.Slots.{fresh_spi}
use Rattle.slot.specs.declared.slot.Slot.{Slot}
use Rattle.distributor.proofs.Creating.{tabled}
use Rattle.distributor.proofs.create.fresh_slots.Goals as goal

pub returns : goal.returns
returns c =
    let items = c.from_fn.ensures.items in
    let made : (i : ℕ) (d : Slot) → i < capacity → slice_index_or c.from_fn.result i d ≡ fresh_spi (32 + i) = λ i d h. let z = items.at i d h in search rules in
    tabled (λ p. fresh_spi (32 + p)) capacity c.from_fn.result items.long made
