-- A creation is the Distributor's own, of the settings and the number that the call means.
use Rattle.std.proofs.Common.{ap, ◌∙◌}
use Rattle.place.specs.Table.{create_answer}
use Rattle.distributor.specs.Model.{model_of}
use Rattle.harness_numbers.specs.Numbers.{valued}
use Rattle.harness_calls.proofs.create.create.Goals as goal

pub returns : goal.returns
returns c = (
  ap model_of c.seen.ensures.0 ∙ c.new.ensures.state ∙ (rw (c.config.ensures, c.low_word.ensures)),
  c.seen.ensures.1 ∙ ap valued (c.new.ensures.answer ∙ ap create_answer c.low_word.ensures),
)
