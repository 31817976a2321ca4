-- What the registers that have no INTID read as.
use Rattle.std.specs.Prelude.{ℕ, ◌+◌, ◌-◌, ◌*◌, ◌/◌, ◌%◌, ◌^◌, max, Bool, cond, List, [], ◌∷◌, eqb}
use mir.Val.{bool_byte}
use Rattle.std.specs.Int.Count.{count_leading_zeros}
use Rattle.controller.specs.declared.controller.ControllerConfig.{ControllerConfig}

-- 0xffd0 to 0xfffc: PIDR4 to PIDR7, PIDR0 to PIDR3, CIDR0 to CIDR3
abbrev pub component_id : List ℕ
component_id = 0x44 ∷ 0x00 ∷ 0x00 ∷ 0x00 ∷ 0x92 ∷ 0xb4 ∷ 0x3b ∷ 0x00 ∷ 0x0d ∷ 0xf0 ∷ 0x05 ∷ 0xb1 ∷ []

abbrev pub iidr_value : ℕ
iidr_value = 0x43b

-- the switch is bit 1 of what is written to CTLR
abbrev pub switch_bit : ℕ → Bool
switch_bit v = eqb (v / 2 % 2) 1

-- CTLR: ARE is on, and bit 1 is the switch. DS reads 0, by the base's rule
abbrev pub ctlr_value : Bool → ℕ
ctlr_value on = 0x10 + 2 * bool_byte on

-- the largest INTID: the last SPI's, or the LPI limit where there is an ITS
abbrev pub largest_int_id : ControllerConfig → ℕ → ℕ
largest_int_id c n = cond c.its c.lpi_limit (31 + n)

-- the bits of an INTID: 32 less the leading zeros of the largest, at least 16
abbrev pub id_bits : ControllerConfig → ℕ → ℕ
id_bits c n = max (32 - count_leading_zeros 32 (largest_int_id c n)) 16

-- TYPER: ITLinesNumber in bits 4..0, LPIS 17, IDbits from 19, A3V 24, RSS 26. No1N (25) reads 0, by the base's rule
abbrev pub typer_value : ControllerConfig → ℕ → ℕ
typer_value c n =
    ((32 + n + 31) / 32 - 1) + bool_byte c.exposes_guest_lpis * 2 ^ 17 + (id_bits c n - 1) * 2 ^ 19
    + bool_byte c.affinity_level_3 * 2 ^ 24 + bool_byte c.range_selector * 2 ^ 26
