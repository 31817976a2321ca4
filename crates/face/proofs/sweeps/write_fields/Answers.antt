-- From INTID i on, the fields that do not act are passed over: they write no record and list nothing. The next one after them writes its
-- record, and lists it or not.
use Rattle.std.proofs.Common.{◌≡◌, ◌+◌, ◌-◌, ◌≤◌, ◌<◌, min, max, ap, ◌∙◌, arith}
use Rattle.place.specs.declared.place.Span.{Span}
use Rattle.theory.specs.ListLaws.{passing-inside}
use Rattle.bank.specs.Banks.{idle_fields}
use Rattle.image.specs.Meaning.{meant_at, table}
use Rattle.face.proofs.Listing.{list_skip, table_fits}
use Rattle.face.proofs.Naming.{written, written-inside, idle_here, not_written, one_more, same_turns}
use Rattle.face.proofs.Turning.{turned}
use Rattle.face.proofs.Writing.{put_skip, put_all, test, tells_inside, unlisted}
use Rattle.face.proofs.sweeps.write_fields.Goals as goal

pub returns-then-end-i : goal.returns-then-end-i
returns-then-end-i c =
    let a = c.args in
    let l = c.loop-i in
    let W = written a.count a.fields.bank a.value a.fields.first a.fields.count in
    let E = ap (λ (s : Span). s.end) c.span-span.ensures in
    let end = min (a.fields.first + a.fields.count) (32 + a.count) in
    let T = test a.explicit a.count a.fields.bank a.value a.fields.first a.fields.count a.image.now a.tells in
    let inside = tells_inside a.explicit a.count a.fields.bank a.value a.fields.first a.fields.count (table (meant_at a.count a.image.now)) a.tells in
    let low : a.fields.first ≤ l.i = omega (arith, l.invariant.0) in
    let over : c.idle-idle.result ≡ idle_fields a.fields.bank l.v = c.idle-idle.ensures in
    let none = not_written a.count a.fields.bank a.value a.fields.first a.fields.count l.i l.v low l.invariant.2 in
    let still = idle_here a.count a.fields.bank a.value a.fields.first a.fields.count l.i l.v low l.invariant.2 in
    let up : l.i ≤ end = omega (arith, c.loop-i-test.true, E, c.requires.0) in
    let reach : end ≤ l.i + idle_fields a.fields.bank l.v = omega (arith, c.if-end-i.true, over, E, c.requires.0) in
    record {
      image =
          put_all W _ a.count a.image.now end l.image
          (put_skip W _ a.count a.image.now l.i l.image l.invariant.3 end up (λ k q r. none k q (omega (arith, r, reach))))
          (λ k t. let r = written-inside a.count a.fields.bank a.value a.fields.first a.fields.count k t in omega (arith, r));
      list =
          rw (passing-inside T 32 (32 + a.count) inside a.fields.first a.fields.count)
          (list_skip T (max a.fields.first 32) a.list.now end (table_fits T (max a.fields.first 32) a.list.now a.count end inside c.requires.1) l.i end l.list l.listed l.invariant.0 up
          (λ k q r. unlisted a.explicit a.count a.fields.bank a.value a.fields.first a.fields.count a.image.now a.tells k (still k q (omega (arith, r, reach)))) l.invariant.4);
    }

pub list_if-listed-requires : goal.list_if-listed-requires
list_if-listed-requires c =
    let a = c.args in
    let l = c.loop-i in
    let E = ap (λ (s : Span). s.end) c.span-span.ensures in
    let high : l.i + c.idle-idle.result < min (a.fields.first + a.fields.count) (32 + a.count) = omega (arith, c.if-end-i.false, c.loop-i-test.true, E, c.requires.0) in
    let at : c.nearest.result ≡ l.i + c.idle-idle.result - 32 = omega (arith, c.nearest.ensures, high, c.requires.0, l.invariant.0) in
    (turned a.explicit a.count a.fields.bank a.fields.first a.fields.count a.value a.tells a.image.now a.list.now c.requires.0 a.fields.bounded.1 c.requires.1 c.requires.2
    l.i l.v l.listed l.image l.list l.invariant.0 l.invariant.2 l.invariant.3 l.invariant.4
    c.idle-idle.result c.from_field-v-in-loop-i.result c.low_field.result c.nearest.result c.write_field-on.result c.idle-idle.ensures high at
    c.from_field-v-in-loop-i.ensures c.low_field.ensures c.write_field-on.ensures.1).room

pub loop-i-preserved : goal.loop-i-preserved
loop-i-preserved c =
    let a = c.args in
    let l = c.loop-i in
    let E = ap (λ (s : Span). s.end) c.span-span.ensures in
    let high : l.i + c.idle-idle.result < min (a.fields.first + a.fields.count) (32 + a.count) = omega (arith, c.if-end-i.false, c.loop-i-test.true, E, c.requires.0) in
    let at : c.nearest.result ≡ l.i + c.idle-idle.result - 32 = omega (arith, c.nearest.ensures, high, c.requires.0, l.invariant.0) in
    let next =
    turned a.explicit a.count a.fields.bank a.fields.first a.fields.count a.value a.tells a.image.now a.list.now c.requires.0 a.fields.bounded.1 c.requires.1 c.requires.2
    l.i l.v l.listed l.image l.list l.invariant.0 l.invariant.2 l.invariant.3 l.invariant.4
    c.idle-idle.result c.from_field-v-in-loop-i.result c.low_field.result c.nearest.result c.write_field-on.result c.idle-idle.ensures high at
    c.from_field-v-in-loop-i.ensures c.low_field.ensures c.write_field-on.ensures.1 in (
      omega (arith, l.invariant.0),
      one_more (l.i + c.idle-idle.result) (max a.fields.first 32) (min (a.fields.first + a.fields.count) (32 + a.count)) high,
      c.above-v.ensures ∙ next.left,
      rw c.write_field-on.ensures.0 next.stored,
      rw (c.list_if-listed.ensures.0, c.list_if-listed.ensures.1) next.told,
    )

pub returns-clause-list : goal.returns-clause-list
returns-clause-list c =
    let a = c.args in
    let l = c.loop-i in
    let E = ap (λ (s : Span). s.end) c.span-span.ensures in
    let end = min (a.fields.first + a.fields.count) (32 + a.count) in
    let T = test a.explicit a.count a.fields.bank a.value a.fields.first a.fields.count a.image.now a.tells in
    let inside = tells_inside a.explicit a.count a.fields.bank a.value a.fields.first a.fields.count (table (meant_at a.count a.image.now)) a.tells in
    let done : end ≤ l.i = omega (arith, E, c.requires.0) in
    let z = same_turns (max a.fields.first 32) end l.i l.invariant.0 l.invariant.1 done in
    rw (passing-inside T 32 (32 + a.count) inside a.fields.first a.fields.count, z) l.invariant.4
