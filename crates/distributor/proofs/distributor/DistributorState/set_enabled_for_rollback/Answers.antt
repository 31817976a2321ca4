use Rattle.std.proofs.Common.{List, refl, sym, ap}
use Rattle.theory.specs.MapAtLaws.{map_at_still}
use Rattle.slot.specs.declared.slot.Slot.{Slot}
use Rattle.model.specs.Calls.{step}
use Rattle.distributor.proofs.distributor.DistributorState.set_enabled_for_rollback.Goals as goal

pub returns : goal.returns
unfolding step
returns c = ap (λ (l : List Slot). record { config = c.args.self.config; switch = c.args.enabled; count = c.args.self.spi_count; slots = l }) (sym (map_at_still (λ p s. s) c.args.self.slots (λ p s. refl)))
