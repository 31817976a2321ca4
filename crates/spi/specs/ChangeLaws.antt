-- No two answers of the host's changes are told alike.
use Rattle.std.specs.Prelude.{◌≡◌, refl, Result, Ok, Err, Option, Some, None}
use Rattle.std.proofs.Common.{ap}
use Rattle.attributes.specs.States.{state_number}
use Rattle.attributes.specs.StateLaws.{state_same}
use Rattle.identifiers.proofs.AnswerLaws.{told_once}
use Rattle.spi.specs.ChangeAnswers.{told_given, told_change}
use Rattle.identifiers.specs.declared.error.Refusal.{Refusal}
use Rattle.attributes.specs.declared.attributes.InterruptState.{InterruptState}

given_same : (g h : Option InterruptState) → told_given g ≡ told_given h → g ≡ h
given_same None None e = refl
given_same None (Some t) e = cc
given_same (Some s) None e = cc
given_same (Some s) (Some t) e = let p : state_number s ≡ state_number t = cc in ap Some (state_same s t p)

pub told_change_lem : (a b : Result (Option InterruptState) Refusal) → told_change a ≡ told_change b → a ≡ b
told_change_lem = told_once told_given given_same
