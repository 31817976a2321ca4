-- A turn writes the next INTID's slot and lists it, or not; after the last turn all is written.
use Rattle.std.proofs.Common.{◌≡◌, ◌+◌, ◌-◌, ◌^◌, ◌≤◌, ◌<◌, min, max, refl, sym, ap, ◌∙◌, arith}
use Rattle.place.specs.declared.place.Span.{Span}
use Rattle.bank.specs.Banks.{bits_of}
use Rattle.bank.proofs.Digits.{used}
use Rattle.distributor.specs.Loops.{with_slots}
use Rattle.distributor.proofs.Listing.{list_room, list_more, table_fits}
use Rattle.distributor.proofs.Writing.{none_yet, all_written, one_more, E, N, test, test_in, all_listed, state_more, on_more}
use Rattle.distributor.proofs.distributor.write_fields.Goals as goal

pub loop-i-init : goal.loop-i-init
loop-i-init c =
    let a = c.args in
    let F = ap (λ (s : Span). s.first) c.span-span.ensures in
    let z : c.span-span.result.first - max a.fields.first 32 ≡ 0 = omega (arith, F) in (
      omega (arith, F),
      omega (arith, F),
      c.from_field-v.ensures,
      rw F (ap (with_slots a.d) (sym (none_yet (E a.d a.fields.bank a.fields.first a.fields.count a.value a.tells) (N a.d a.fields.bank a.fields.first a.fields.count a.value a.tells) a.fields.bank a.value a.fields.first a.d.slots))),
      rw z (refl, refl),
    )

pub list_if-count-requires : goal.list_if-count-requires
list_if-count-requires c =
    let a = c.args in
    let l = c.loop-i in
    let n = N a.d a.fields.bank a.fields.first a.fields.count a.value a.tells in
    let t = test a.d a.fields.bank a.fields.first a.fields.count a.value a.tells in
    let B = ap (λ (s : Span). s.end) c.span-span.ensures in
    let high : l.i < min (a.fields.first + a.fields.count) (32 + n) = omega (arith, B, c.loop-i-test.true) in
    let at : c.index-p.result ≡ l.i - 32 = omega (arith, c.index-p.ensures, c.nearest.ensures, high) in
    let on =
    on_more a.d a.fields.bank a.fields.first a.fields.count a.value a.tells l.i c.index-p.result c.low_field.result l.v c.is_explicit-explicit.result c.write_field-w.result.slot c.write_field-w.result.listed l.d
    l.invariant.0 high at c.is_explicit-explicit.ensures l.invariant.3 l.invariant.2 c.low_field.ensures c.write_field-w.ensures.0 c.write_field-w.ensures.1 in
    λ h. list_room t (max a.fields.first 32) a.list.now (min (a.fields.first + a.fields.count) (32 + n)) (table_fits t (max a.fields.first 32) a.list.now n (min (a.fields.first + a.fields.count) (32 + n)) (test_in a.d a.fields.bank a.fields.first a.fields.count a.value a.tells) c.requires) l.i l.list l.count l.invariant.0 high l.invariant.4 (sym on ∙ h)

pub loop-i-preserved : goal.loop-i-preserved
loop-i-preserved c =
    let a = c.args in
    let l = c.loop-i in
    let n = N a.d a.fields.bank a.fields.first a.fields.count a.value a.tells in
    let t = test a.d a.fields.bank a.fields.first a.fields.count a.value a.tells in
    let B = ap (λ (s : Span). s.end) c.span-span.ensures in
    let high : l.i < min (a.fields.first + a.fields.count) (32 + n) = omega (arith, B, c.loop-i-test.true) in
    let at : c.index-p.result ≡ l.i - 32 = omega (arith, c.index-p.ensures, c.nearest.ensures, high) in
    let on =
    on_more a.d a.fields.bank a.fields.first a.fields.count a.value a.tells l.i c.index-p.result c.low_field.result l.v c.is_explicit-explicit.result c.write_field-w.result.slot c.write_field-w.result.listed l.d
    l.invariant.0 high at c.is_explicit-explicit.ensures l.invariant.3 l.invariant.2 c.low_field.ensures c.write_field-w.ensures.0 c.write_field-w.ensures.1 in
    let k : l.i + 1 - a.fields.first ≡ l.i - a.fields.first + 1 = omega (arith, l.invariant.0) in (
      omega (arith, l.invariant.0),
      one_more l.i (max a.fields.first 32) (min (a.fields.first + a.fields.count) (32 + n)) high,
      rw k (c.above-v.ensures ∙ used (2 ^ bits_of a.fields.bank) a.value l.v (l.i - a.fields.first) l.invariant.2),
      state_more a.d a.fields.bank a.fields.first a.fields.count a.value a.tells l.i c.index-p.result c.low_field.result l.v c.is_explicit-explicit.result c.write_field-w.result.slot c.write_field-w.result.listed l.d
          l.invariant.0 high at c.is_explicit-explicit.ensures l.invariant.3 l.invariant.2 c.low_field.ensures c.write_field-w.ensures.0 c.write_field-w.ensures.1,
      rw (c.list_if-count.ensures.0, c.list_if-count.ensures.1)
          (list_more t (max a.fields.first 32) a.list.now (min (a.fields.first + a.fields.count) (32 + n)) (table_fits t (max a.fields.first 32) a.list.now n (min (a.fields.first + a.fields.count) (32 + n)) (test_in a.d a.fields.bank a.fields.first a.fields.count a.value a.tells) c.requires) l.i l.list l.count _ l.invariant.0 high l.invariant.4 on),
    )

pub returns : goal.returns
returns c =
    let a = c.args in
    let l = c.loop-i in
    let n = N a.d a.fields.bank a.fields.first a.fields.count a.value a.tells in
    let B = ap (λ (s : Span). s.end) c.span-span.ensures in
    let done : min (a.fields.first + a.fields.count) (32 + n) ≤ l.i = omega (arith, B) in
    let z : min (a.fields.first + a.fields.count) (32 + n) - max a.fields.first 32 ≡ l.i - max a.fields.first 32 = omega (arith, done, l.invariant.0, l.invariant.1) in (
      l.invariant.3 ∙ ap (with_slots a.d) (all_written (E a.d a.fields.bank a.fields.first a.fields.count a.value a.tells) n a.fields.bank a.value a.fields.first a.d.slots a.fields.count l.i l.invariant.0 l.invariant.1 done),
      rw (all_listed a.d a.fields.bank a.fields.first a.fields.count a.value a.tells, z) l.invariant.4,
    )
