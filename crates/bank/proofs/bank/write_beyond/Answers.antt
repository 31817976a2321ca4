use Rattle.bank.proofs.Refusing.{none_refused}
use Rattle.bank.proofs.bank.write_beyond.Goals as goal

pub returns-then-explicit-lo : goal.returns-then-explicit-lo
returns-then-explicit-lo c =
    let a = c.args in none_refused a.explicit a.n a.bank a.value a.lo a.m c.if-explicit-lo.true
