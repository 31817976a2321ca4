-- Bounds on widths and fields, by cases.
use Prim.Native.Nat.{◌≤◌}
use native.Mathlib.Omega.{arith}
use Rattle.registers.specs.declared.register.AccessWidth.{AccessWidth}
use Rattle.registers.specs.declared.register.AccessWidth.TheVariants.{Byte, Word, Dword, Qword}
use Rattle.registers.specs.Registers.{bytes_of}

pub bytes_range : (w : AccessWidth) → (1 ≤ bytes_of w) × (bytes_of w ≤ 8)
bytes_range Byte = omega arith
bytes_range Word = omega arith
bytes_range Dword = omega arith
bytes_range Qword = omega arith
