-- What a turn needs stands in Gathering, over the span that the code goes through.
use Rattle.std.proofs.Common.{not, ap, arith}
use Rattle.face.proofs.Gathering.{Asked, Spans, span_so, gathered_bad, gathered_more, gathered_all}
use Rattle.face.proofs.sweeps.gather.Goals as goal

pub returns-then-not-is_good : goal.returns-then-not-is_good
returns-then-not-is_good c =
    let a = c.args in
    let l = c.loop-i in
    let asked : Asked a.explicit a.count a.fields.bank a.fields.first a.fields.count a.image.now = record { sized = c.requires.0; fits = a.fields.bounded.2; whole = c.requires.1 } in
    let at : Spans a.explicit a.count a.fields.bank a.fields.first a.fields.count a.image.now c.span-span.result = span_so a.explicit a.count a.fields.bank a.fields.first a.fields.count a.image.now asked c.span-span.result c.span-span.ensures in
    gathered_bad a.explicit a.count a.fields.bank a.fields.first a.fields.count a.image.now asked c.span-span.result at l.i l.value l.invariant c.loop-i-test.true c.nearest-place.result c.nearest-place.ensures c.word_at-word.result c.is_good.result c.word_at-word.ensures c.is_good.ensures (ap not c.if-not-is_good.true)

pub loop-i-preserved : goal.loop-i-preserved
loop-i-preserved c =
    let a = c.args in
    let l = c.loop-i in
    let asked : Asked a.explicit a.count a.fields.bank a.fields.first a.fields.count a.image.now = record { sized = c.requires.0; fits = a.fields.bounded.2; whole = c.requires.1 } in
    let at : Spans a.explicit a.count a.fields.bank a.fields.first a.fields.count a.image.now c.span-span.result = span_so a.explicit a.count a.fields.bank a.fields.first a.fields.count a.image.now asked c.span-span.result c.span-span.ensures in
    gathered_more a.explicit a.count a.fields.bank a.fields.first a.fields.count a.image.now asked c.span-span.result at l.i l.value l.invariant c.loop-i-test.true c.nearest-place.result c.nearest-place.ensures c.word_at-word.result c.is_good.result c.word_at-word.ensures c.is_good.ensures
    (ap not c.if-not-is_good.false) c.slot_at.result c.showing.result c.put_below-value.result c.slot_at.ensures c.showing.ensures.0 c.showing.ensures.1 c.put_below-value.ensures

pub returns : goal.returns
returns c =
    let a = c.args in
    let l = c.loop-i in
    let asked : Asked a.explicit a.count a.fields.bank a.fields.first a.fields.count a.image.now = record { sized = c.requires.0; fits = a.fields.bounded.2; whole = c.requires.1 } in
    let at : Spans a.explicit a.count a.fields.bank a.fields.first a.fields.count a.image.now c.span-span.result = span_so a.explicit a.count a.fields.bank a.fields.first a.fields.count a.image.now asked c.span-span.result c.span-span.ensures in
    gathered_all a.explicit a.count a.fields.bank a.fields.first a.fields.count a.image.now asked c.span-span.result at l.i l.value l.invariant (omega arith)
