use Rattle.distributor.proofs.Replying.{turned_on, turned_off}
use Rattle.distributor.proofs.distributor.DistributorState.write_ctlr.Goals as goal

pub returns-then-on : goal.returns-then-on
returns-then-on c =
    let a = c.args in
    turned_on a.self a.value a.list.now c.switch_bit-on.result c.list_deliverable-count.result c.keeping.result c.list_deliverable-count.new.list
    c.switch_bit-on.ensures c.if-on.true c.list_deliverable-count.ensures c.keeping.ensures

pub returns : goal.returns
returns c =
    let a = c.args in
    turned_off a.self a.value a.list.now c.switch_bit-on.result c.keeping-2.result c.switch_bit-on.ensures c.if-on.false c.keeping-2.ensures
