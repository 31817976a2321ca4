-- The test of one INTID is the definition's, so the first that is refused is the first of all, and one that is not adds none.
use Rattle.std.proofs.Common.{sym, ◌∙◌, ◌^◌}
use Rattle.bank.specs.Banks.{bits_of, refused_over}
use Rattle.bank.proofs.Refusing.{refuses, none_more, first_found}
use Rattle.bank.proofs.Digits.{used}
use Rattle.bank.proofs.bank.first_beyond.Goals as goal

pub returns-then-write_refuses-is_beyond : goal.returns-then-write_refuses-is_beyond
returns-then-write_refuses-is_beyond c =
    let a = c.args in
    let l = c.loop-j in
    let t = refused_over a.explicit a.n a.bank a.value a.lo in
    let on =
    refuses a.bank a.value a.lo l.j l.v c.low_field.result a.n a.explicit c.write_refuses.result c.is_beyond.result
    l.invariant.0 c.low_field.ensures c.write_refuses.ensures c.is_beyond.ensures in
    sym (first_found t a.lo l.j l.invariant.1 a.m c.loop-j-test.true (sym on ∙ c.if-write_refuses-is_beyond.true))

pub loop-j-preserved : goal.loop-j-preserved
loop-j-preserved c =
    let a = c.args in
    let l = c.loop-j in
    let t = refused_over a.explicit a.n a.bank a.value a.lo in
    let on =
    refuses a.bank a.value a.lo l.j l.v c.low_field.result a.n a.explicit c.write_refuses.result c.is_beyond.result
    l.invariant.0 c.low_field.ensures c.write_refuses.ensures c.is_beyond.ensures in (
      c.above-v.ensures ∙ used (2 ^ bits_of a.bank) a.value l.v l.j l.invariant.0,
      none_more t a.lo l.j l.invariant.1 (sym on ∙ c.if-write_refuses-is_beyond.false),
    )
