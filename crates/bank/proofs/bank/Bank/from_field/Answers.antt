use Rattle.std.proofs.Common.{arith}
use Rattle.bank.specs.Banks.{bits_of}
use Rattle.bank.specs.FieldLaws.{pow-pow}
use Rattle.bank.proofs.Digits.{past_fields}
use Rattle.bank.proofs.bank.Bank.from_field.Goals as goal

pub returns-then-shift-lt64 : goal.returns-then-shift-lt64
returns-then-shift-lt64 c = rw (c.bits.ensures, pow-pow (bits_of c.args.self) c.args.k)

pub returns-else-shift-lt64 : goal.returns-else-shift-lt64
returns-else-shift-lt64 c =
    let a = c.args in past_fields a.self a.value a.k (omega arith) (rw c.bits.ensures at c.if-shift-lt64.false)
