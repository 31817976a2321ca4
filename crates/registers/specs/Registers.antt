-- The register map, and what an access reaches by it: refused 4, or a register. Offsets and widths are those of Arm's specification
-- (IHI 0069), as docs/DIFFERENCES.md amends it.
use Rattle.std.specs.Prelude.{ℕ, ◌-◌, ◌*◌, ◌/◌, ◌%◌, Bool, true, ◌&&◌, cond, List, [], ◌∷◌, eqb, Option, Some, None, Result, Ok, Err}
use Rattle.bank.specs.Banks.{bits_of}
use Rattle.identifiers.specs.Answer.{within}
use Rattle.identifiers.specs.declared.error.Refusal.{Refusal}
use Rattle.identifiers.specs.declared.error.Refusal.TheVariants.{InvalidWidth}
use Rattle.registers.specs.declared.register.AccessWidth.{AccessWidth}
use Rattle.registers.specs.declared.register.AccessWidth.TheVariants.{Byte, Word, Dword, Qword}
use Rattle.registers.specs.declared.register.Direction.{Direction}
use Rattle.registers.specs.declared.register.Direction.TheVariants.{Reading, Writing}
use Rattle.bank.specs.declared.bank.Bank.TheVariants.{Set, Clear, Replace}
use Rattle.bank.specs.declared.bank.Flag.TheVariants.{Enabled, Pending, Active}
use Rattle.bank.specs.declared.bank.Field.{Field}
use Rattle.bank.specs.declared.bank.Field.TheVariants.{Group, Priority, Configuration}
use Rattle.registers.specs.declared.register.Kind.{Kind}
use Rattle.registers.specs.declared.register.Kind.TheVariants.{Bank}
use Rattle.registers.specs.declared.register.Row.{Row}
use Rattle.registers.specs.declared.register.Register.{Register}
use Rattle.registers.specs.declared.register.Register.TheVariants.{Identification, Ctlr, Typer, Iidr, Fields, Reserved}

-- an access reaches a register, or is refused
abbrev pub Access : Type 0
Access = Result Register Refusal

abbrev pub bytes_of : AccessWidth → ℕ
bytes_of Byte = 1
bytes_of Word = 2
bytes_of Dword = 4
bytes_of Qword = 8

-- the width of so many bytes, if there is one
abbrev pub width_of : ℕ → Option AccessWidth
width_of n = cond (eqb n 1) (Some Byte) (cond (eqb n 2) (Some Word) (cond (eqb n 4) (Some Dword) (cond (eqb n 8) (Some Qword) None)))

-- the width that an access needs: one, or none, and then every width is taken
abbrev pub dword : Option AccessWidth
dword = Some Dword

abbrev pub qword : Option AccessWidth
qword = Some Qword

abbrev pub any : Option AccessWidth
any = None

abbrev pub takes : Option AccessWidth → AccessWidth → Bool
takes None w = true
takes (Some v) w = eqb (bytes_of v) (bytes_of w)

-- a row of the map: the registers at every `every` bytes from `from` up to below `end`; the width that a read needs and the one that a
-- write needs; and what lies there
abbrev pub row : ℕ → ℕ → ℕ → Option AccessWidth → Option AccessWidth → Kind → Row
row f e k r w c = record { from = f; end = e; every = k; reads = r; writes = w; kind = c }

-- THE MAP. The first row that holds an offset decides; an offset that no row holds is reserved.
abbrev pub map : List Row
map =
    row 0xffd0 0x10000 4 dword dword Kind.Identification
    ∷ row 0x0000 0x0001 1 dword dword Kind.Ctlr
    ∷ row 0x0004 0x0005 1 dword any Kind.Typer
    ∷ row 0x0008 0x0009 1 dword any Kind.Iidr
    ∷ row 0x0080 0x0100 4 dword any (Bank (Replace Group))
    ∷ row 0x0100 0x0180 4 dword dword (Bank (Set Enabled))
    ∷ row 0x0180 0x0200 4 dword dword (Bank (Clear Enabled))
    ∷ row 0x0200 0x0280 4 dword dword (Bank (Set Pending))
    ∷ row 0x0280 0x0300 4 dword dword (Bank (Clear Pending))
    ∷ row 0x0300 0x0380 4 dword dword (Bank (Set Active))
    ∷ row 0x0380 0x0400 4 dword dword (Bank (Clear Active))
    ∷ row 0x0400 0x07fc 1 any any (Bank (Replace Priority))
    ∷ row 0x0c00 0x0d00 4 dword dword (Bank (Replace Configuration))
    ∷ row 0x6000 0x7fe0 1 qword qword (Bank (Replace Field.Route))
    ∷ []

abbrev pub widths_for : Direction → Option AccessWidth → Option AccessWidth → Option AccessWidth
widths_for Reading reads writes = reads
widths_for Writing reads writes = writes

-- at every `every` bytes from `from` up to below `end`
abbrev pub in_row : ℕ → ℕ → ℕ → ℕ → Bool
in_row from end every offset = within from end offset && eqb ((offset - from) % every) 0

abbrev pub holds : Row → ℕ → Bool
holds r offset = in_row r.from r.end r.every offset

-- a bank's fields lie one after another, INTID 0's first: those that the access covers
abbrev pub register_at : Kind → ℕ → AccessWidth → Register
register_at Kind.Identification at w = Identification (at / 4)
register_at Kind.Ctlr at w = Ctlr
register_at Kind.Typer at w = Typer
register_at Kind.Iidr at w = Iidr
register_at (Bank b) at w = Fields b (at * 8 / bits_of b) (bytes_of w * 8 / bits_of b)

-- refusal 4: the row takes another width
abbrev pub row_access : Direction → Row → ℕ → AccessWidth → Access
row_access d r offset w =
    cond (takes (widths_for d r.reads r.writes) w) (Ok (register_at r.kind (offset - r.from) w)) (Err InvalidWidth)

abbrev pub lookup : Direction → List Row → ℕ → AccessWidth → Access
lookup d [] offset w = Ok Reserved
lookup d (r ∷ rs) offset w = cond (holds r offset) (row_access d r offset w) (lookup d rs offset w)
