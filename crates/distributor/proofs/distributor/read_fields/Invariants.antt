-- The value holds the fields from INTID i up to the end.
use Rattle.std.proofs.Common.{◌≡◌, ◌+◌, ◌-◌, ◌^◌, ◌≤◌, ◌<◌, min, max}
use Rattle.place.specs.Table.{table_size}
use Rattle.controller.specs.Modes.{explicit}
use Rattle.bank.specs.Banks.{bits_of, packed}
use Rattle.slot.specs.BankRule.{shown_at}
use Rattle.distributor.proofs.distributor.read_fields.Given as goal

abbrev pub invariant-loop-i : goal.invariant-loop-i
invariant-loop-i l =
    (min (max l.fn.fields.first 32) (min (l.fn.fields.first + l.fn.fields.count) (32 + table_size l.d.spi_count)) ≤ l.i) × (l.i ≤ min (l.fn.fields.first + l.fn.fields.count) (32 + table_size l.d.spi_count))
    × (l.value ≡ packed l.fn.fields.bank (shown_at (explicit l.d.config.spi_ownership) (table_size l.d.spi_count) l.fn.fields.bank l.d.slots) l.i (min (l.fn.fields.first + l.fn.fields.count) (32 + table_size l.d.spi_count) - l.i))
    × (l.value < (2 ^ bits_of l.fn.fields.bank) ^ (min (l.fn.fields.first + l.fn.fields.count) (32 + table_size l.d.spi_count) - l.i))
