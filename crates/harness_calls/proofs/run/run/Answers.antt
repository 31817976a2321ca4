-- The family says which call it is, and each arm does that call.
use Rattle.std.proofs.Common.{ℕ, Bool, ap, subst, ◌∙◌}
use Rattle.model.specs.Calls.{rollback, change, ask}
use Rattle.harness_numbers.specs.declared.call.Family.TheVariants.{Creation, Read, Switch, Rollback, Change, Asking}
use Rattle.harness_calls.specs.Ran.{Performed}
use Rattle.harness_calls.proofs.Performing.{of, meant, created_performed, read_performed, switch_performed, rollback_performed, changed_performed, asked_performed}
use Rattle.harness_calls.proofs.run.run.Goals as goal

pub returns-in-Creation : goal.returns-in-Creation
returns-in-Creation c =
    let a = c.args in
    meant a.call a.d a.room.now _ c.create.result Creation _ c.family_of.ensures c.in-Creation.is
    (created_performed a.d a.room.now _ _ c.create.result c.create.ensures.0 c.create.ensures.1)

pub returns-in-Read : goal.returns-in-Read
returns-in-Read c =
    let a = c.args in
    meant a.call a.d a.room.now _ c.kept-in-Read.result Read _ c.family_of.ensures c.in-Read.is
    (read_performed a.d a.room.now _ _ c.kept-in-Read.result c.read.result c.kept-in-Read.ensures c.read.ensures)

pub returns-in-Switch : goal.returns-in-Switch
returns-in-Switch c =
    let a = c.args in
    let k = c.kept-in-Switch in
    meant a.call a.d a.room.now _ k.result Switch _ c.family_of.ensures c.in-Switch.is
    (switch_performed a.d a.room.now k.result c.is_switched_on.result (k.ensures ∙ ap (of a.d) c.done.ensures) c.is_switched_on.ensures)

pub returns-in-Rollback : goal.returns-in-Rollback
returns-in-Rollback c =
    let a = c.args in
    let k = c.kept-in-Rollback in
    let e = c.set_enabled_for_rollback in
    meant a.call a.d a.room.now _ k.result Rollback _ c.family_of.ensures c.in-Rollback.is
    (subst (λ (on : Bool). Performed (rollback on) a.d a.room.now k.result a.room.now) c.odd.ensures
    (rollback_performed a.d a.room.now _ k.result e.result (k.ensures ∙ ap (of e.result) c.done-in-Rollback.ensures) e.ensures))

pub returns-in-Change : goal.returns-in-Change
returns-in-Change c =
    let a = c.args in
    let what = c.in-Change.what in
    let r = c.change_spi.result in
    meant a.call a.d a.room.now _ r (Change what) _ c.family_of.ensures c.in-Change.is
    (subst (λ (n : ℕ). Performed (change what n) a.d a.room.now r a.room.now) c.low_word.ensures
    (changed_performed a.d a.room.now _ _ r c.change_spi.ensures.0 c.change_spi.ensures.1))

pub returns-in-Asking : goal.returns-in-Asking
returns-in-Asking c =
    let a = c.args in
    let question = c.in-Asking.question in
    let k = c.kept-in-Asking in
    meant a.call a.d a.room.now _ k.result (Asking question) _ c.family_of.ensures c.in-Asking.is
    (subst (λ (n : ℕ). Performed (ask question n) a.d a.room.now k.result a.room.now) c.low_word-in-Asking.ensures
    (asked_performed a.d a.room.now _ _ k.result c.ask_spi.result k.ensures c.ask_spi.ensures))
