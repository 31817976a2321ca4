-- What each named operation makes of a record.
use Rattle.std.specs.Prelude.{false}
use Rattle.interrupt.specs.declared.interrupt.InterruptRecord.{InterruptRecord}
use Rattle.operation.specs.declared.operation.Operation.{Operation}
use Rattle.operation.specs.declared.operation.Operation.TheVariants.{SetEnabled, SetPending, SetActive, SetState, ClearDeliveryState, MarkInflight, CancelInflight, FinishInflight, DeactivateInflight, SetPriority, SetTrigger, SetRoute, ClearRoute, SetLevel, Pulse, Complete}
use Rattle.attributes.specs.States.{pending_of, active_of}
use Rattle.life.specs.Life.{enabled_to, pending_to, active_to, state_to, cleared, taken, cancelled, deactivated, completed}
use Rattle.interrupt.specs.Records.{with_life, is_level, priority_to, trigger_to, route_to, unrouted, line_to, line_pulsed}

abbrev pub applied : Operation → InterruptRecord → InterruptRecord
applied (SetEnabled on) r = with_life (enabled_to on r.life) r
applied (SetPending on) r = with_life (pending_to on r.life) r
applied (SetActive on) r = with_life (active_to on r.life) r
applied (SetState s) r = with_life (state_to (pending_of s) (active_of s) r.life) r
applied ClearDeliveryState r = with_life (cleared r.life) r
applied MarkInflight r = with_life (taken r.life) r
applied CancelInflight r = with_life (cancelled r.life) r
applied FinishInflight r = with_life (deactivated (is_level r) false r.life) r
applied (DeactivateInflight p) r = with_life (deactivated (is_level r) p r.life) r
applied (SetPriority p) r = priority_to p r
applied (SetTrigger t) r = trigger_to t r
applied (SetRoute a) r = route_to a r
applied ClearRoute r = unrouted r
applied (SetLevel high) r = line_to high r
applied Pulse r = line_pulsed r
applied Complete r = with_life (completed (is_level r) r.life) r
