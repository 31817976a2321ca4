-- The slot that a record means is the table's at that place, so it is listed where the table's is deliverable.
use Rattle.std.proofs.Common.{ℕ, ◌≡◌, ◌+◌, ◌-◌, ◌<◌, true, get_or, refl, sym, ap, ◌∙◌, arith}
use Rattle.theory.specs.ListLaws.{passing_most}
use Rattle.interrupt.specs.Records.{deliverable_in}
use Rattle.slot.specs.declared.slot.Slot.{Slot}
use Rattle.model.specs.Calls.{deliverable_at}
use Rattle.slot.specs.NoSlot.{no_slot}
use Rattle.image.specs.Kept.{good_word}
use Rattle.image.specs.Meaning.{record_at, meant_at, table}
use Rattle.face.proofs.Listing.{list_room, list_more, turns_fit}
use Rattle.face.proofs.Storing.{slot_read}
use Rattle.image_model.specs.GoodLaws.{good-at}
use Rattle.face.proofs.sweeps.list_deliverable.Goals as goal

pub list_if-listed-requires : goal.list_if-listed-requires
list_if-listed-requires c =
    let a = c.args in
    let l = c.loop-i in
    let p = c.nearest-place.result in
    let T = table (meant_at a.count a.image.now) in
    let t = deliverable_at T in
    let high : l.i < 32 + a.count = omega arith in
    let at : p ≡ l.i - 32 = omega (arith, high) in
    let good : good_word (record_at a.image.now p) ≡ true = rw at (good-at (λ i. true) a.count a.image.now c.requires.2 l.i l.invariant.0 high refl) in
    let S = slot_read a.count a.image.now l.i p c.word_at.result c.slot_at-s.result c.requires.0.most l.invariant.0 high at c.word_at.ensures c.slot_at-s.ensures good in
    let on : c.is_deliverable.result ≡ t l.i = c.is_deliverable.ensures ∙ ap (λ (x : Slot). deliverable_in x.interrupt) S ∙ ap (λ (q : ℕ). deliverable_in (get_or T q no_slot).interrupt) at in
    let most = passing_most t 32 (l.i - 32) in (
      (λ h. list_room t 32 a.list.now (32 + a.count) (turns_fit t a.list.now a.count c.requires.1) l.i l.list l.listed l.invariant.0 high l.invariant.2 (sym on ∙ h)),
      omega (arith, l.invariant.2.1, most, high, c.requires.0),
    )

pub loop-i-preserved : goal.loop-i-preserved
loop-i-preserved c =
    let a = c.args in
    let l = c.loop-i in
    let p = c.nearest-place.result in
    let T = table (meant_at a.count a.image.now) in
    let t = deliverable_at T in
    let high : l.i < 32 + a.count = omega arith in
    let at : p ≡ l.i - 32 = omega (arith, high) in
    let good : good_word (record_at a.image.now p) ≡ true = rw at (good-at (λ i. true) a.count a.image.now c.requires.2 l.i l.invariant.0 high refl) in
    let S = slot_read a.count a.image.now l.i p c.word_at.result c.slot_at-s.result c.requires.0.most l.invariant.0 high at c.word_at.ensures c.slot_at-s.ensures good in
    let on : c.is_deliverable.result ≡ t l.i = c.is_deliverable.ensures ∙ ap (λ (x : Slot). deliverable_in x.interrupt) S ∙ ap (λ (q : ℕ). deliverable_in (get_or T q no_slot).interrupt) at in (
      omega arith,
      omega (arith, high),
      rw (c.list_if-listed.ensures.0, c.list_if-listed.ensures.1)
          (list_more t 32 a.list.now (32 + a.count) (turns_fit t a.list.now a.count c.requires.1) l.i l.list l.listed _ l.invariant.0 high l.invariant.2 on),
    )
