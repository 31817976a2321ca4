-- The changes of the host: which of them do nothing, and what the others make of an SPI's record, claim and fixed mark.
use Rattle.std.specs.Prelude.{Bool, true, not}
use Rattle.attributes.specs.declared.attributes.TriggerMode.{TriggerMode}
use Rattle.interrupt.specs.declared.interrupt.InterruptRecord.{InterruptRecord}
use Rattle.interrupt.specs.Records.{mask_to, synchronized_with}
use Rattle.operation.specs.declared.operation.Operation.TheVariants.{SetRoute, ClearRoute, SetTrigger}
use Rattle.operation.specs.Operation.{applied}
use Rattle.ownership.specs.declared.ownership.Ownership.{Ownership}
use Rattle.ownership.specs.Owned.{unclaimed, claimed_by_software, claimed_physically}
use Rattle.changes.specs.declared.change.Change.{Change}
use Rattle.changes.specs.declared.change.Change.TheVariants.{Claim, ClaimTo, Release, SetCpuTargetMask, SynchronizeInflight, Operate}

-- a claim of a claimed SPI changes nothing, nor does a target mask where the route is fixed
abbrev pub happens : Change → Ownership → Bool
happens Claim o = not o.explicitly_owned
happens (ClaimTo a) o = not o.explicitly_owned
happens Release o = true
happens (SetCpuTargetMask m) o = not o.fixed_route
happens (SynchronizeInflight t) o = true
happens (Operate x) o = true

-- a claim is by software, or physical; release drops claim and mark
abbrev pub ownership_after : Change → Ownership → Ownership
ownership_after Claim o = claimed_by_software
ownership_after (ClaimTo a) o = claimed_physically
ownership_after Release o = unclaimed
ownership_after (SetCpuTargetMask m) o = o
ownership_after (SynchronizeInflight t) o = o
ownership_after (Operate x) o = o

-- by software a claim leaves the record, physically it sets the route; release drops the route and makes the SPI level-sensitive, and
-- the rest of the record stays
abbrev pub record_after : Change → InterruptRecord → InterruptRecord
record_after Claim r = r
record_after (ClaimTo a) r = applied (SetRoute a) r
record_after Release r = applied (SetTrigger TriggerMode.Level) (applied ClearRoute r)
record_after (SetCpuTargetMask m) r = mask_to m r
record_after (SynchronizeInflight t) r = synchronized_with t r
record_after (Operate x) r = applied x r
