-- What a question is told is its reply.
use Rattle.std.proofs.Common.{rules, ◌≡◌, ap, ◌∙◌, Result, Ok}
use Rattle.identifiers.specs.declared.error.Refusal.{Refusal}
use Rattle.spi.specs.declared.question.Value.{Value}
use Rattle.spi.specs.Questions.{question_answer, told_question}
use Rattle.model.specs.Calls.{plain}
use Rattle.distributor.specs.Model.{model_of}
use Rattle.distributor.specs.Host.{slot_answer}
use Rattle.distributor.proofs.Hosting.{asked_so}
use Rattle.distributor.proofs.distributor.DistributorState.ask.Goals as goal

pub returns-clause-told : goal.returns-clause-told
returns-clause-told c =
    let a = c.args in
    let whole : ◌≡◌ {A = Result Value Refusal} (Ok c.value_of.result) (question_answer a.question (slot_answer (model_of a.self) a.spi.0)) = search rules in
    ap (λ (r : Result Value Refusal). plain (told_question r)) whole ∙ asked_so a.self a.spi.0 a.question

pub returns-in_err-slot-clause-told : goal.returns-in_err-slot-clause-told
returns-in_err-slot-clause-told c =
    let a = c.args in
    let whole : ◌≡◌ {A = Result Value Refusal} c.from_residual.result (question_answer a.question (slot_answer (model_of a.self) a.spi.0)) = search rules in
    ap (λ (r : Result Value Refusal). plain (told_question r)) whole ∙ asked_so a.self a.spi.0 a.question
