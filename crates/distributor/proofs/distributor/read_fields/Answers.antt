use Rattle.std.proofs.Common.{◌≡◌, ◌+◌, ◌-◌, ◌<◌, min, ap, ◌∙◌, arith}
use Rattle.place.specs.declared.place.Span.{Span}
use Rattle.place.specs.Table.{table_size}
use Rattle.controller.specs.Modes.{explicit}
use Rattle.bank.proofs.Digits.{below_same}
use Rattle.slot.specs.BankRule.{shown_at}
use Rattle.model.proofs.Reading.{room, packed_more, packed_room, shows, all_read}
use Rattle.distributor.proofs.distributor.read_fields.Goals as goal

pub loop-i-preserved : goal.loop-i-preserved
loop-i-preserved c =
    let a = c.args in
    let l = c.loop-i in
    let E = explicit a.d.config.spi_ownership in
    let n = table_size a.d.spi_count in
    let end = min (a.fields.first + a.fields.count) (32 + n) in
    let t = shown_at E n a.fields.bank a.d.slots in
    let F = ap (λ (s : Span). s.first) c.span-span.ensures in
    let low : 0 < l.i = omega arith in
    let at : c.index-p.result ≡ l.i - 1 - 32 = omega arith in
    let g =
    shows E n a.fields.bank a.d.slots (l.i - 1) c.index-p.result c.showing.result c.is_explicit-explicit.result
    (omega (arith, F)) (omega (arith, F)) at c.is_explicit-explicit.ensures c.showing.ensures.0 in
    let below = packed_room a.fields.bank t l.i end l.value c.showing.result low l.invariant.1 l.invariant.3 c.showing.ensures.1 in
    let fits = room a.fields.bank (end - (l.i - 1)) a.fields.count a.fields.bounded.2 (omega (arith, F)) in
    let whole = c.put_below-value.ensures ∙ below_same a.fields.bank l.value c.showing.result (omega (arith, below, fits)) c.showing.ensures.1 in (
      omega (arith, F),
      omega arith,
      whole ∙ packed_more a.fields.bank t l.i end l.value c.showing.result low l.invariant.1 l.invariant.2 g,
      rw whole below,
    )

pub returns : goal.returns
returns c =
    let a = c.args in
    let l = c.loop-i in
    let F = ap (λ (s : Span). s.first) c.span-span.ensures in
    all_read (explicit a.d.config.spi_ownership) (table_size a.d.spi_count) a.fields.bank a.d.slots a.fields.first a.fields.count l.value l.i c.requires l.invariant.0 l.invariant.1 (omega (arith, F)) l.invariant.2
