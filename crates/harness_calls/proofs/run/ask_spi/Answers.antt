-- A number that is no SPI's is in no table, and the definition refuses it too.
use Rattle.harness_calls.proofs.Performing.{unasked_spi}
use Rattle.harness_calls.proofs.run.ask_spi.Goals as goal

pub returns-in-Err : goal.returns-in-Err
returns-in-Err c = unasked_spi c.args.d c.args.raw c.args.question c.in-Err.refusal c.in-Err.ensures c.refused.ensures
