-- What the loops over the table promise, in the terms of the bank rule.
use Rattle.std.specs.Prelude.{ℕ, ◌≡◌, List, length}
use Rattle.theory.specs.Lists.{laid}
use Rattle.slot.specs.declared.slot.Slot.{Slot}
use Rattle.distributor.specs.declared.distributor.DistributorState.{DistributorState}

abbrev pub with_slots : DistributorState → List Slot → DistributorState
with_slots d l = record { config = d.config; enabled = d.enabled; spi_count = d.spi_count; slots = l }

-- the list `new` is the list `old` with the candidates in its first places, and n is their number
abbrev pub LaidOut : List ℕ → List ℕ → List ℕ → ℕ → Type 0
LaidOut candidates old new n = (new ≡ laid candidates old) × (n ≡ length candidates)
