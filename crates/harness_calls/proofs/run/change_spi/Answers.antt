-- A number that is no SPI's is in no table, and the definition refuses it too.
use Rattle.std.proofs.Common.{ap, ◌∙◌}
use Rattle.harness_calls.proofs.Performing.{of, unchanged_spi}
use Rattle.harness_calls.proofs.run.change_spi.Goals as goal

pub returns-in-Err : goal.returns-in-Err
returns-in-Err c =
    let a = c.args in
    unchanged_spi a.d a.raw a.what c.in-Err.refusal c.kept.result c.in-Err.ensures (c.kept.ensures ∙ ap (of a.d) c.refused.ensures)
