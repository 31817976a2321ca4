use Rattle.distributor.proofs.distributor.DistributorState.new.Goals as goal

pub returns-clause-state : goal.returns-clause-state
returns-clause-state c = rw (c.made.ensures, c.created_count.ensures)
