-- One interrupt's record: what each operation makes of it.
use Rattle.std.specs.Prelude.{ℕ, Bool, Option, Some, None}
use Rattle.identifiers.specs.declared.types.IntId.{IntId}
use Rattle.attributes.specs.declared.attributes.GicAffinity.{GicAffinity}
use Rattle.attributes.specs.declared.attributes.Priority.{Priority}
use Rattle.attributes.specs.declared.attributes.TriggerMode.{TriggerMode}
use Rattle.attributes.specs.declared.attributes.InterruptState.{InterruptState}
use Rattle.life.specs.declared.life.Life.{Life}
use Rattle.interrupt.specs.declared.interrupt.InterruptRecord.{InterruptRecord}
use Rattle.attributes.specs.States.{level_of, pending_of, active_of, state_of}
use Rattle.identifiers.specs.Answer.{sgi}
use Rattle.life.specs.Life.{born, level_to, pulsed, synchronized, deliverable}

-- a new interrupt: enabled where it is an SGI, its priority 0x80, with no route and no target mask; nothing has happened to it
unfoldable pub fresh : IntId → TriggerMode → InterruptRecord
fresh i t = record { intid = i; life = born (sgi i); priority = record { 0 = 0x80 }; trigger = t; route = None; cpu_target_mask = None }

-- ---- its life

-- the record with its flags at other values
unfoldable pub with_life : Life → InterruptRecord → InterruptRecord
with_life l r = record { intid = r.intid; life = l; priority = r.priority; trigger = r.trigger; route = r.route; cpu_target_mask = r.cpu_target_mask }

abbrev pub is_level : InterruptRecord → Bool
is_level r = level_of r.trigger

unfoldable pub state_in : InterruptRecord → InterruptState
state_in r = state_of r.life.pending r.life.active

unfoldable pub deliverable_in : InterruptRecord → Bool
deliverable_in r = deliverable r.life

-- the two line calls
unfoldable pub line_to : Bool → InterruptRecord → InterruptRecord
line_to high r = with_life (level_to (is_level r) high r.life) r

unfoldable pub line_pulsed : InterruptRecord → InterruptRecord
line_pulsed r = with_life (pulsed r.life) r

-- a synchronisation with the state that the list register has
unfoldable pub synchronized_with : InterruptState → InterruptRecord → InterruptRecord
synchronized_with s r = with_life (synchronized (pending_of s) (active_of s) r.life) r

-- ---- its settings

-- the record with its settings at these values: priority, trigger, route, target mask
abbrev pub settings : Priority → TriggerMode → Option GicAffinity → Option ℕ → InterruptRecord → InterruptRecord
settings p t route mask r = record { intid = r.intid; life = r.life; priority = p; trigger = t; route = route; cpu_target_mask = mask }

unfoldable pub priority_to : Priority → InterruptRecord → InterruptRecord
priority_to p r = settings p r.trigger r.route r.cpu_target_mask r

unfoldable pub trigger_to : TriggerMode → InterruptRecord → InterruptRecord
trigger_to t r = settings r.priority t r.route r.cpu_target_mask r

-- an interrupt has a route, or a target mask, or neither: setting one drops the other
unfoldable pub route_to : GicAffinity → InterruptRecord → InterruptRecord
route_to a r = settings r.priority r.trigger (Some a) None r

unfoldable pub unrouted : InterruptRecord → InterruptRecord
unrouted r = settings r.priority r.trigger None r.cpu_target_mask r

unfoldable pub mask_to : ℕ → InterruptRecord → InterruptRecord
mask_to m r = settings r.priority r.trigger None (Some m) r

unfoldable pub route_in : InterruptRecord → Option GicAffinity
route_in r = r.route

unfoldable pub mask_in : InterruptRecord → Option ℕ
mask_in r = r.cpu_target_mask

-- ---- a record made from its parts

-- a record that was kept elsewhere
unfoldable pub restored : IntId → Life → Priority → TriggerMode → Option GicAffinity → Option ℕ → InterruptRecord
restored i l p t route mask = record { intid = i; life = l; priority = p; trigger = t; route = route; cpu_target_mask = mask }
