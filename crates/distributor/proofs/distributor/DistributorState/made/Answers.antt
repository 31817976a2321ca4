use Rattle.distributor.proofs.distributor.DistributorState.made.Goals as goal

pub returns : goal.returns
returns c = rw c.fresh_slots.ensures
