-- The bounds of what an access is decoded to.
use Rattle.std.specs.Prelude.{◌+◌, ◌*◌, ◌≤◌, ◌<◌}
use Rattle.bank.specs.Banks.{bits_of}
use Rattle.registers.specs.declared.register.Register.{Register}
use Rattle.registers.specs.declared.register.Register.TheVariants.{Identification, Ctlr, Typer, Iidr, Fields, Reserved}

-- the fields that an access covers fit 64 bits
abbrev pub Bounded : Register → Type 0
Bounded (Identification k) = Unit {0}
Bounded Ctlr = Unit {0}
Bounded Typer = Unit {0}
Bounded Iidr = Unit {0}
Bounded (Fields b lo m) = (lo < 0x10000) × (m ≤ 64) × (bits_of b * m ≤ 64)
Bounded Reserved = Unit {0}

-- they are all of INTIDs under 32, or none is
abbrev pub Whole : Register → Type 0
Whole (Identification k) = Unit {0}
Whole Ctlr = Unit {0}
Whole Typer = Unit {0}
Whole Iidr = Unit {0}
Whole (Fields b lo m) = lo < 32 → lo + m ≤ 32
Whole Reserved = Unit {0}
