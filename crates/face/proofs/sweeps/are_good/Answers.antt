-- From INTID i on, the fields that do not act are passed over; the next one after them is named, and its record is tested.
use Rattle.std.proofs.Common.{ℕ, ◌≡◌, ◌+◌, ◌-◌, ◌^◌, ◌≤◌, ◌<◌, min, max, not, sym, ap, ◌∙◌, arith}
use Rattle.place.specs.declared.place.Span.{Span}
use Rattle.bank.specs.Banks.{bits_of}
use Rattle.bank.proofs.Digits.{used}
use Rattle.image.specs.Kept.{good_word}
use Rattle.image.specs.Meaning.{record_at}
use Rattle.face.proofs.Naming.{written, written-inside, left_at, not_written, written_next, one_more}
use Rattle.image_model.specs.GoodLaws.{good_all, good_not}
use Rattle.face.proofs.Testing.{good_more, good-skip, found_good, found_bad}
use Rattle.face.proofs.sweeps.are_good.Goals as goal

pub returns-then-end-i : goal.returns-then-end-i
returns-then-end-i c =
    let a = c.args in
    let l = c.loop-i in
    let W = written a.count a.fields.bank a.value a.fields.first a.fields.count in
    let E = ap (λ (s : Span). s.end) c.span-span.ensures in
    let none = not_written a.count a.fields.bank a.value a.fields.first a.fields.count l.i l.v (omega (arith, l.invariant.0)) l.invariant.2 in
    let all =
    good-skip W (max a.fields.first 32) l.i a.image.now l.invariant.3 (min (a.fields.first + a.fields.count) (32 + a.count))
    (λ j p q. none j p (omega (arith, c.if-end-i.true, c.idle-idle.ensures, E, c.requires, q))) in
    sym (good_all W a.count a.image.now (λ i p q t. let r = written-inside a.count a.fields.bank a.value a.fields.first a.fields.count i t in all.good i (omega (arith, r)) (omega (arith, r)) t))

pub returns-then-not-is_good : goal.returns-then-not-is_good
returns-then-not-is_good c =
    let a = c.args in
    let l = c.loop-i in
    let E = ap (λ (s : Span). s.end) c.span-span.ensures in
    let j = l.i + c.idle-idle.result in
    let high : j < min (a.fields.first + a.fields.count) (32 + a.count) = omega (arith, c.if-end-i.false, c.loop-i-test.true, E, c.requires) in
    let at : c.nearest.result ≡ j - 32 = omega (arith, c.nearest.ensures, high, c.requires, l.invariant.0) in
    let W = written a.count a.fields.bank a.value a.fields.first a.fields.count in
    let bad = found_bad c.is_good.result (good_word (record_at a.image.now (j - 32))) (c.is_good.ensures ∙ (rw (c.word_at.ensures, at))) (ap not c.if-not-is_good.true) in
    let named =
    written_next a.count a.fields.bank a.value a.fields.first a.fields.count l.i l.v (omega (arith, l.invariant.0)) l.invariant.2 j (ap (λ (z : ℕ). l.i + z) c.idle-idle.ensures)
    (omega (arith, c.idle-idle.ensures, high, a.fields.bounded.1, l.invariant.0)) (omega (arith, high)) (omega (arith, l.invariant.0)) (omega (arith, high)) in
    sym (good_not W a.count a.image.now j (omega (arith, l.invariant.0)) (omega (arith, high)) named bad)

pub loop-i-preserved : goal.loop-i-preserved
loop-i-preserved c =
    let a = c.args in
    let l = c.loop-i in
    let E = ap (λ (s : Span). s.end) c.span-span.ensures in
    let j = l.i + c.idle-idle.result in
    let high : j < min (a.fields.first + a.fields.count) (32 + a.count) = omega (arith, c.if-end-i.false, c.loop-i-test.true, E, c.requires) in
    let at : c.nearest.result ≡ j - 32 = omega (arith, c.nearest.ensures, high, c.requires, l.invariant.0) in
    let W = written a.count a.fields.bank a.value a.fields.first a.fields.count in
    let ok = found_good c.is_good.result (good_word (record_at a.image.now c.nearest.result)) (c.is_good.ensures ∙ (rw c.word_at.ensures)) (ap not c.if-not-is_good.false) in
    let low : a.fields.first ≤ l.i = omega (arith, l.invariant.0) in
    let past =
    good-skip W (max a.fields.first 32) l.i a.image.now l.invariant.3 j
    (λ k p q. not_written a.count a.fields.bank a.value a.fields.first a.fields.count l.i l.v low l.invariant.2 k p (omega (arith, q, c.idle-idle.ensures))) in
    let v = c.from_field.ensures ∙ left_at a.count a.fields.bank a.value a.fields.first a.fields.count l.i l.v low l.invariant.2 c.idle-idle.result in
    let k : j + 1 - a.fields.first ≡ j - a.fields.first + 1 = omega (arith, low) in (
      omega (arith, l.invariant.0),
      one_more j (max a.fields.first 32) (min (a.fields.first + a.fields.count) (32 + a.count)) high,
      rw k (c.above-v.ensures ∙ used (2 ^ bits_of a.fields.bank) a.value c.from_field.result (j - a.fields.first) v),
      good_more W (max a.fields.first 32) j a.image.now past c.nearest.result at (λ t. ok),
    )

pub returns : goal.returns
returns c =
    let a = c.args in
    let l = c.loop-i in
    let E = ap (λ (s : Span). s.end) c.span-span.ensures in
    sym (good_all (written a.count a.fields.bank a.value a.fields.first a.fields.count) a.count a.image.now
    (λ i p q t. let r = written-inside a.count a.fields.bank a.value a.fields.first a.fields.count i t in l.invariant.3.good i (omega (arith, r)) (omega (arith, r, E, c.requires)) t))
