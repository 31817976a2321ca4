-- The first row that holds the offset decides, and the rows that were passed over do not count.
use Rattle.std.proofs.Common.{sym, ◌∙◌, add-one}
use Rattle.registers.specs.Registers.{map}
use Rattle.registers.proofs.Rows.{row_decides, row_passed}
use Rattle.registers.proofs.register.find.Goals as goal

pub returns-then-holds : goal.returns-then-holds
returns-then-holds c =
    let a = c.args in
    c.access.ensures
    ∙ sym (c.loop-row.invariant ∙ row_decides a.direction a.offset a.width map _ _ c.loop-row-test.true (sym c.holds.ensures ∙ c.if-holds.true))

pub loop-row-preserved : goal.loop-row-preserved
loop-row-preserved c =
    let a = c.args in
    rw (add-one c.loop-row.row-index)
    (c.loop-row.invariant ∙ row_passed a.direction a.offset a.width map _ _ c.loop-row-test.true (sym c.holds.ensures ∙ c.if-holds.false))
