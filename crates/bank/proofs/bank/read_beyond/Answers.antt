use Rattle.std.proofs.Common.{sym, ◌∙◌}
use Rattle.bank.proofs.Refusing.{reads_free}
use Rattle.bank.proofs.bank.read_beyond.Goals as goal

pub returns-else-read_refuses : goal.returns-else-read_refuses
returns-else-read_refuses c =
    let a = c.args in reads_free a.bank a.explicit a.n a.lo a.m (sym c.read_refuses.ensures ∙ c.if-read_refuses.false)
