-- No two answers of a read, or of a write, are told alike; and what is told of an access of a bank.
use Rattle.std.specs.Prelude.{ℕ, ◌≡◌, refl, List, Result, Option, Some, None}
use Rattle.identifiers.specs.declared.error.Refusal.{Refusal}
use Rattle.identifiers.specs.Answer.{done, unless, told}
use Rattle.identifiers.proofs.AnswerLaws.{told_once}
use Rattle.bank.specs.Banks.{told_beyond}
use Rattle.answers.specs.Answers.{told_read, told_write, answered}

pub told_read_lem : (a b : Result ℕ Refusal) → told_read a ≡ told_read b → a ≡ b
told_read_lem = told_once _ (λ x y e. cc)

pub told_write_lem : (a b : Result ℕ Refusal) → told_write a ≡ told_write b → a ≡ b
told_write_lem = told_once _ (λ x y e. cc)

-- whatever the access hands out: its values, or refusal 1 beyond the table
pub told_answered : {A : Type 0} (values : A → List ℕ) (beyond : Option ℕ) (x : A) → told values (answered beyond x) ≡ unless (told_beyond beyond) (done (values x))
told_answered values None x = refl
told_answered values (Some i) x = refl
