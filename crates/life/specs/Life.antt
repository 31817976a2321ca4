-- The life of an interrupt: its six flags, and what each operation makes of them.
use Rattle.std.specs.Prelude.{Bool, true, false, not, ◌&&◌, ◌||◌, cond}
use Rattle.life.specs.declared.life.Life.{Life}

-- enabled, pending, active, in flight, redelivery mark, line
abbrev pub flags : Bool → Bool → Bool → Bool → Bool → Bool → Life
flags e p a i d l = record { enabled = e; pending = p; active = a; inflight = i; redelivery_pending = d; line_asserted = l }

abbrev pub redelivery : Life → Bool
redelivery f = f.redelivery_pending

abbrev pub line : Life → Bool
line f = f.line_asserted

-- one flag at another value
abbrev pub enabled_as : Bool → Life → Life
enabled_as b f = flags b f.pending f.active f.inflight (redelivery f) (line f)

abbrev pub pending_as : Bool → Life → Life
pending_as b f = flags f.enabled b f.active f.inflight (redelivery f) (line f)

abbrev pub active_as : Bool → Life → Life
active_as b f = flags f.enabled f.pending b f.inflight (redelivery f) (line f)

abbrev pub inflight_as : Bool → Life → Life
inflight_as b f = flags f.enabled f.pending f.active b (redelivery f) (line f)

abbrev pub redelivery_as : Bool → Life → Life
redelivery_as b f = flags f.enabled f.pending f.active f.inflight b (line f)

abbrev pub line_as : Bool → Life → Life
line_as b f = flags f.enabled f.pending f.active f.inflight (redelivery f) b

-- nothing has happened to a new interrupt
abbrev pub born : Bool → Life
born enabled = flags enabled false false false false false

-- enabling makes a high line pending
abbrev pub enabled_to : Bool → Life → Life
enabled_to on f = pending_as (f.pending || (on && line f)) (enabled_as on f)

-- clearing drops the redelivery mark
abbrev pub pending_to : Bool → Life → Life
pending_to on f = redelivery_as (on && redelivery f) (pending_as on f)

abbrev pub active_to : Bool → Life → Life
active_to on f = active_as on f

abbrev pub state_to : Bool → Bool → Life → Life
state_to pending active f = active_as active (pending_as pending f)

-- something is still to be delivered or finished
abbrev pub has_delivery : Life → Bool
has_delivery f = f.pending || f.active || f.inflight || redelivery f

abbrev pub cleared : Life → Life
cleared f = flags f.enabled false false false false false

abbrev pub taken : Life → Life
taken f = inflight_as true f

-- what the list register says, and pending besides where the interrupt is to be delivered again
abbrev pub merged : Bool → Bool → Life → Life
merged pending active f = state_to (pending || redelivery f) active f

-- the redelivery mark is dropped only where the merged state is active and pending
abbrev pub synchronized : Bool → Bool → Life → Life
synchronized pending active f = let m = merged pending active f in redelivery_as (redelivery f && not (m.pending && m.active)) m

-- no longer in flight and with no redelivery mark; pending, or not
abbrev pub out_of_flight : Bool → Life → Life
out_of_flight p f = flags f.enabled p f.active false false (line f)

abbrev pub cancelled : Life → Life
cancelled f = out_of_flight (f.pending || redelivery f) f

-- `carried`: the list register was still pending as it was given up; a level line that is still high pends again
abbrev pub deactivated : Bool → Bool → Life → Life
deactivated level carried f = active_as false (out_of_flight (carried || redelivery f || (level && line f)) f)

-- a line that rises while the interrupt is in flight and active asks for one more delivery; one that was high does not
abbrev pub raised : Life → Life
raised f = line_as true (redelivery_as (redelivery f || (f.inflight && f.active && not (line f))) (pending_as true f))

-- a level line that is low takes back what it asked for, unless the interrupt is active
abbrev pub lowered : Bool → Life → Life
lowered level f = let stays = f.active || not level in flags f.enabled (f.pending && stays) f.active f.inflight (redelivery f && stays) false

abbrev pub level_to : Bool → Bool → Life → Life
level_to level high f = cond high (raised f) (lowered level f)

-- a pulse while in flight is kept as one more delivery, active or not
abbrev pub pulsed : Life → Life
pulsed f = redelivery_as (redelivery f || f.inflight) (pending_as true f)

-- no longer active; a level line that is still high pends again
abbrev pub completed : Bool → Life → Life
completed level f = active_as false (pending_as (f.pending || (level && line f)) f)

abbrev pub deliverable : Life → Bool
deliverable f = f.enabled && f.pending
