-- An ignored write leaves every slot alone.
use Rattle.distributor.proofs.Replying.{ignored_at}
use Rattle.distributor.proofs.distributor.DistributorState.write_register.Goals as goal

pub returns-in-Identification : goal.returns-in-Identification
returns-in-Identification c =
    let a = c.args in ignored_at a.self a.value a.list.now c.keeping.result a.register c.in-Identification.is c.keeping.ensures
