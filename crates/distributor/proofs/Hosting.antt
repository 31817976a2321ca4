-- A change of one SPI is a map of the table.
use Rattle.std.specs.Prelude.{Ok, Err, Option}
use Prim.Native.Nat.{ℕ, ◌+◌, ◌-◌}
use mathlib.Core.Path.{◌≡◌, refl, sym, ap, ◌∙◌}
use mathlib.Core.Logic.{◌≢◌, by_cases}
use mathlib.Core.Bool.{Bool, true, false, ◌&&◌, cond}
use mathlib.Core.List.{List, [], ◌∷◌}
use native.Mathlib.Omega.{arith}
use native.Mathlib.Decide.{ℕ_discrete}
use borrow.Author.Tests.{eq-eqb, ne_eqb}
use lib.Dec.{eqb}
use lib.ListN.{get_or, set}
use Rattle.theory.specs.Lists.{map_at}
use Rattle.theory.specs.MapAtLaws.{map_at_edit, map_at_still}
use Rattle.identifiers.specs.Answer.{refused}
use Rattle.identifiers.specs.declared.error.Refusal.TheVariants.{InvalidIntId}
use Rattle.place.specs.Table.{in_table}
use Rattle.place.specs.TableLaws.{in_range}
use Rattle.slot.specs.declared.slot.Slot.{Slot}
use Rattle.slot.specs.Slots.{changed}
use Rattle.slot.specs.NoSlot.{no_slot}
use Rattle.slot.specs.BankRule.{slot_of}
use Rattle.changes.specs.declared.change.Change.{Change}
use Rattle.spi.specs.declared.question.Question.{Question}
use Rattle.spi.specs.ChangeAnswers.{change_answer, told_change}
use Rattle.spi.specs.Questions.{value_of, told_value, question_answer, told_question}
use Rattle.model.specs.Calls.{change, ask, size, plain, changed_at, reply, step}
use Rattle.distributor.specs.declared.distributor.DistributorState.{DistributorState}
use Rattle.distributor.specs.declared.distributor.After.{After}
use Rattle.distributor.specs.Model.{model_of}
use Rattle.distributor.specs.Loops.{with_slots}
use Rattle.distributor.specs.Host.{slot_answer, ResultOf}
use Rattle.attributes.specs.declared.attributes.InterruptState.{InterruptState}

module _ (d : DistributorState) (raw : ℕ) where
  abbrev N : ℕ
  N = size (model_of d)

  module _ (h : Change) where
    there : (p : ℕ) (s : Slot) → in_table N raw ≡ true → p ≡ raw - 32 → changed h s ≡ changed_at d.config N h raw (32 + p) s
    there p s t e =
        let r = in_range N raw t in
        let z : 32 + p ≡ raw = omega arith in
        let q : eqb raw raw ≡ true = eq-eqb raw raw refl in
        rw (z, t, q)

    elsewhere : (i : ℕ) (s : Slot) → 32 + i ≢ raw → s ≡ changed_at d.config N h raw (32 + i) s
    elsewhere i s o = let q : eqb (32 + i) raw ≡ false = ne_eqb (32 + i) raw o in go (in_table N (32 + i)) q
      where
        go : (b : Bool) → eqb (32 + i) raw ≡ false → s ≡ cond (b && eqb (32 + i) raw) (changed h s) s
        go true q = rw q
        go false q = refl

    nowhere : (i : ℕ) (s : Slot) → in_table N raw ≡ false → changed_at d.config N h raw (32 + i) s ≡ s
    nowhere i s t = by_cases (ℕ_discrete (32 + i) raw) (λ e. rw (e, t)) (λ o. sym (elsewhere i s o))

    -- the slot at the SPI's place is changed
    pub changed_in : (p : ℕ) (new : Slot) (r : After (Option InterruptState)) → in_table N raw ≡ true → p ≡ raw - 32
        → new ≡ changed h (get_or d.slots p no_slot) → r.state ≡ with_slots d (set d.slots p new)
        → told_change r.answer ≡ change_answer h (get_or d.slots p no_slot) → ResultOf (change h raw) d r
    unfolding step reply
    changed_in p new r t e n s a =
        let m : map_at (λ q x. x) d.slots ≡ d.slots = map_at_still (λ q x. x) d.slots (λ q x. refl) in
        let r32 = in_range N raw t in
        let whole : set d.slots p new ≡ map_at (λ q. changed_at d.config N h raw (32 + q)) d.slots =
        ap (set d.slots p) n
        ∙ ap (λ (l : List Slot). set l p (changed h (get_or l p no_slot))) (sym m)
        ∙ map_at_edit (λ q x. x) (λ q. changed_at d.config N h raw (32 + q)) (changed h) no_slot p d.slots (λ x. there p x t e) (λ i x o. elsewhere i x (λ w. o (omega arith))) in (
          ap model_of (s ∙ ap (with_slots d) whole),
          ap plain (a ∙ (rw (t, e))),
        )

    -- an SPI that the table has not
    pub changed_out : (r : After (Option InterruptState)) → in_table N raw ≡ false → r.state ≡ d → told_change r.answer ≡ refused 1 (raw ∷ []) → ResultOf (change h raw) d r
    unfolding step reply
    changed_out r t s a = (
      ap model_of (s ∙ ap (with_slots d) (sym (map_at_still (λ q. changed_at d.config N h raw (32 + q)) d.slots (λ i x. nowhere i x t)))),
      ap plain (a ∙ (rw t)),
    )

  -- what a question is told is its reply
  pub asked_so : (q : Question) → plain (told_question (question_answer q (slot_answer (model_of d) raw))) ≡ reply (ask q raw) (model_of d)
  unfolding reply
  asked_so q = go (in_table N raw)
    where
      go : (t : Bool) → plain (told_question (question_answer q (cond t (Ok (slot_of d.slots raw)) (Err (InvalidIntId raw))))) ≡ plain (cond t (Rattle.identifiers.specs.Answer.done (told_value (value_of q (slot_of d.slots raw)))) (refused 1 (raw ∷ [])))
      go true = refl
      go false = refl
