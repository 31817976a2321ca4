-- The Distributor that a state of the code is, field by field, and what the code answers of the switch.
use Rattle.std.specs.Prelude.{Bool, [], ◌∷◌}
use Rattle.identifiers.specs.Answer.{done}
use Rattle.bank.specs.Banks.{bit}
use Rattle.model.specs.Calls.{Distributor, Reply, plain}
use Rattle.distributor.specs.declared.distributor.DistributorState.{DistributorState}

abbrev pub model_of : DistributorState → Distributor
model_of d = record { config = d.config; switch = d.enabled; count = d.spi_count; slots = d.slots }

abbrev pub switch_reply : Bool → Reply
switch_reply on = plain (done (bit on ∷ []))
