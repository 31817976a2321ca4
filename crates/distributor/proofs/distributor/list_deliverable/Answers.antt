use Rattle.std.proofs.Common.{◌≡◌, ◌+◌, ◌-◌, ◌<◌, sym, ◌∙◌, arith}
use Rattle.place.specs.Table.{table_size}
use Rattle.model.specs.Calls.{deliverable_at}
use Rattle.distributor.proofs.Listing.{list_room, list_more, turns_fit, deliverable-at}
use Rattle.distributor.proofs.distributor.list_deliverable.Goals as goal

pub list_if-count-requires : goal.list_if-count-requires
list_if-count-requires c =
    let a = c.args in
    let l = c.loop-i in
    let n = table_size a.d.spi_count in
    let t = deliverable_at a.d.slots in
    let high : l.i < 32 + n = omega arith in
    let at : c.index-p.result ≡ l.i - 32 = omega arith in
    let on : c.is_deliverable.result ≡ t l.i = c.is_deliverable.ensures ∙ deliverable-at a.d.slots c.index-p.result l.i at in
    λ h. list_room t 32 a.list.now (32 + n) (turns_fit t a.list.now n c.requires) l.i l.list l.count l.invariant.0 high l.invariant.2 (sym on ∙ h)

pub loop-i-preserved : goal.loop-i-preserved
loop-i-preserved c =
    let a = c.args in
    let l = c.loop-i in
    let n = table_size a.d.spi_count in
    let t = deliverable_at a.d.slots in
    let high : l.i < 32 + n = omega arith in
    let at : c.index-p.result ≡ l.i - 32 = omega arith in
    let on : c.is_deliverable.result ≡ t l.i = c.is_deliverable.ensures ∙ deliverable-at a.d.slots c.index-p.result l.i at in (
      omega arith,
      omega arith,
      rw (c.list_if-count.ensures.0, c.list_if-count.ensures.1)
          (list_more t 32 a.list.now (32 + n) (turns_fit t a.list.now n c.requires) l.i l.list l.count _ l.invariant.0 high l.invariant.2 on),
    )
