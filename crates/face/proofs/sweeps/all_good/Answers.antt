use Rattle.std.proofs.Common.{◌≡◌, ◌-◌, true, not, refl, sym, ap, ◌∙◌, arith}
use Rattle.image.specs.Kept.{good_word}
use Rattle.image.specs.Meaning.{record_at}
use Rattle.image_model.specs.GoodLaws.{good_all, good_not}
use Rattle.face.proofs.Testing.{found_bad}
use Rattle.face.proofs.sweeps.all_good.Goals as goal

pub returns-then-not-is_good : goal.returns-then-not-is_good
returns-then-not-is_good c =
    let a = c.args in
    let l = c.loop-i in
    let at : c.nearest.result ≡ l.i - 32 = omega arith in
    let bad = found_bad c.is_good.result (good_word (record_at a.image.now (l.i - 32))) (c.is_good.ensures ∙ (rw (c.word_at.ensures, at))) (ap not c.if-not-is_good.true) in
    sym (good_not (λ i. true) a.count a.image.now l.i l.invariant.0 (omega arith) refl bad)

pub returns : goal.returns
returns c =
    let l = c.loop-i in
    let a = c.args in
    sym (good_all (λ i. true) a.count a.image.now (λ i p q t. l.invariant.2.good i p (omega arith) t))
