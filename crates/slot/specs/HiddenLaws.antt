-- What a written field leaves of what no bank shows.
use Rattle.std.specs.Prelude.{◌≡◌, Bool, not, ◌&&◌, is_some}
use Rattle.life.specs.Life.{redelivery, line}
use Rattle.interrupt.specs.declared.interrupt.InterruptRecord.{InterruptRecord}

-- what was and what is: in flight, the line and the INTID stay; the mark and the target mask stay unless they are dropped
pub record Hidden (unmarks unmasks : Bool) (was is : InterruptRecord) : Type 0 where
  pub inflight : is.life.inflight ≡ was.life.inflight
  pub level : line is.life ≡ line was.life
  pub intid : is.intid ≡ was.intid
  pub mark : redelivery is.life ≡ (redelivery was.life && not unmarks)
  pub masked : is_some is.cpu_target_mask ≡ (is_some was.cpu_target_mask && not unmasks)
