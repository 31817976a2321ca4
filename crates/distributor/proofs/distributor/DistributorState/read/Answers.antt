-- The access is decoded, and its register read.
use Rattle.std.proofs.Common.{rules, ℕ, ◌≡◌, sym, ap, ◌∙◌, Result, Err}
use Rattle.identifiers.specs.declared.error.Refusal.{Refusal}
use Rattle.decoding.proofs.Bounding.{decode_bounded, decode_whole}
use Rattle.registers.specs.declared.register.Direction.TheVariants.{Reading}
use Rattle.answers.specs.Answers.{told_read}
use Rattle.model.specs.Calls.{plain, read_reply, reply}
use Rattle.distributor.specs.Model.{model_of}
use Rattle.distributor.proofs.distributor.DistributorState.read.Goals as goal

pub read_register-requires : goal.read_register-requires
read_register-requires c =
    let a = c.args in
    let e = sym c.in_ok-register.ensures in
    (decode_bounded Reading a.self.config.distributor_size a.offset a.width _ e, decode_whole a.self.config.distributor_size a.offset a.width _ e)

pub returns : goal.returns
unfolding reply
returns c = c.read_register.ensures ∙ ap (read_reply (model_of c.args.self)) c.in_ok-register.ensures

pub returns-in_err-register : goal.returns-in_err-register
unfolding reply
returns-in_err-register c =
    let same : ◌≡◌ {A = Result ℕ Refusal} c.from_residual.result (Err c.in_err-register.field-0.0) = search rules in
    ap (λ (r : Result ℕ Refusal). plain (told_read r)) same ∙ ap (read_reply (model_of c.args.self)) c.in_err-register.ensures
