-- No SPI is asked for, so none is created.
use Rattle.std.proofs.Common.{◌∙◌}
use Rattle.harness_calls.proofs.create.nothing.Goals as goal

pub returns : goal.returns
returns c = c.new.ensures.state ∙ (rw c.config.ensures)
