-- What a crate above may know of a record: two tables of what each operation makes of it, and what is read back.
use Rattle.std.specs.Prelude.{ℕ, ◌≡◌, refl, Bool, true, false, not, ◌&&◌, ◌||◌, Option, Some, None, Ok}
use Rattle.std.proofs.Math.Path.{subst⁻¹}
use Rattle.std.proofs.Math.Bool.{or-true}
use Rattle.identifiers.specs.declared.types.IntId.{IntId}
use Rattle.attributes.specs.declared.attributes.GicAffinity.{GicAffinity}
use Rattle.attributes.specs.declared.attributes.Priority.{Priority}
use Rattle.attributes.specs.declared.attributes.TriggerMode.{TriggerMode}
use Rattle.attributes.specs.declared.attributes.InterruptState.{InterruptState}
use Rattle.life.specs.declared.life.Life.{Life}
use Rattle.interrupt.specs.declared.interrupt.InterruptRecord.{InterruptRecord}
use Rattle.operation.specs.declared.operation.Operation.{Operation}
use Rattle.operation.specs.declared.operation.Operation.TheVariants.{SetEnabled, SetPending, SetActive, SetState, ClearDeliveryState, MarkInflight, CancelInflight, FinishInflight, DeactivateInflight, SetPriority, SetTrigger, SetRoute, ClearRoute, SetLevel, Pulse, Complete}
use Rattle.attributes.specs.States.{pending_of, active_of, state_of}
use Rattle.life.specs.Life.{flags, redelivery, line}
use Rattle.interrupt.specs.Records.{fresh, with_life, is_level, state_in, line_to, line_pulsed, synchronized_with, priority_to, trigger_to, route_to, unrouted, mask_to}
use Rattle.operation.specs.Operation.{applied}

-- priority, trigger, route and target mask
abbrev pub Settings : Type 0
Settings = Priority × TriggerMode × Option GicAffinity × Option ℕ

abbrev pub settings_of : InterruptRecord → Settings
settings_of r = (r.priority, r.trigger, r.route, r.cpu_target_mask)

-- whether a line that goes low lets pending and the mark stand: the interrupt is active, or not level-sensitive
abbrev pub stands : Bool → Life → Bool
stands level f = f.active || not level

-- the flags after each operation, of an interrupt that is level-sensitive or not: enabled, pending, active, in flight, redelivery
-- mark, line
abbrev pub flags_after : Operation → Bool → Life → Life
flags_after (SetEnabled on) level f = flags on (f.pending || (on && line f)) f.active f.inflight (redelivery f) (line f)
flags_after (SetPending on) level f = flags f.enabled on f.active f.inflight (on && redelivery f) (line f)
flags_after (SetActive on) level f = flags f.enabled f.pending on f.inflight (redelivery f) (line f)
flags_after (SetState s) level f = flags f.enabled (pending_of s) (active_of s) f.inflight (redelivery f) (line f)
flags_after ClearDeliveryState level f = flags f.enabled false false false false false
flags_after MarkInflight level f = flags f.enabled f.pending f.active true (redelivery f) (line f)
flags_after CancelInflight level f = flags f.enabled (f.pending || redelivery f) f.active false false (line f)
flags_after FinishInflight level f = flags f.enabled (redelivery f || (level && line f)) false false false (line f)
flags_after (DeactivateInflight p) level f = flags f.enabled (p || redelivery f || (level && line f)) false false false (line f)
flags_after (SetLevel true) level f = flags f.enabled true f.active f.inflight (redelivery f || (f.inflight && f.active && not (line f))) true
flags_after (SetLevel false) level f = flags f.enabled (f.pending && stands level f) f.active f.inflight (redelivery f && stands level f) false
flags_after Pulse level f = flags f.enabled true f.active f.inflight (redelivery f || f.inflight) (line f)
flags_after Complete level f = flags f.enabled (f.pending || (level && line f)) false f.inflight (redelivery f) (line f)
flags_after (SetPriority p) level f = f
flags_after (SetTrigger t) level f = f
flags_after (SetRoute a) level f = f
flags_after ClearRoute level f = f

-- the settings after each operation: a route or a target mask, never both
abbrev pub settings_after : Operation → InterruptRecord → Settings
settings_after (SetEnabled on) r = settings_of r
settings_after (SetPending on) r = settings_of r
settings_after (SetActive on) r = settings_of r
settings_after (SetState s) r = settings_of r
settings_after ClearDeliveryState r = settings_of r
settings_after MarkInflight r = settings_of r
settings_after CancelInflight r = settings_of r
settings_after FinishInflight r = settings_of r
settings_after (DeactivateInflight p) r = settings_of r
settings_after (SetLevel true) r = settings_of r
settings_after (SetLevel false) r = settings_of r
settings_after Pulse r = settings_of r
settings_after Complete r = settings_of r
settings_after (SetPriority p) r = (p, r.trigger, r.route, r.cpu_target_mask)
settings_after (SetTrigger t) r = (r.priority, t, r.route, r.cpu_target_mask)
settings_after (SetRoute a) r = (r.priority, r.trigger, Some a, None)
settings_after ClearRoute r = (r.priority, r.trigger, None, r.cpu_target_mask)

-- a mark that is dropped where the merged state is active and pending is dropped where it is active: the mark makes it pending
mark : (p d a : Bool) → (d && not ((p || d) && a)) ≡ (d && not a)
mark p true a = simp or-true
mark p false a = refl

pub flags-after : (o : Operation) (r : InterruptRecord) → (applied o r).life ≡ flags_after o (is_level r) r.life
unfolding with_life line_to line_pulsed priority_to trigger_to route_to unrouted
flags-after (SetEnabled on) r = refl
flags-after (SetPending on) r = refl
flags-after (SetActive on) r = refl
flags-after (SetState s) r = refl
flags-after ClearDeliveryState r = refl
flags-after MarkInflight r = refl
flags-after CancelInflight r = refl
flags-after FinishInflight r = refl
flags-after (DeactivateInflight p) r = refl
flags-after (SetLevel true) r = refl
flags-after (SetLevel false) r = refl
flags-after Pulse r = refl
flags-after Complete r = refl
flags-after (SetPriority p) r = refl
flags-after (SetTrigger t) r = refl
flags-after (SetRoute a) r = refl
flags-after ClearRoute r = refl

pub settings-after : (o : Operation) (r : InterruptRecord) → settings_of (applied o r) ≡ settings_after o r
unfolding with_life line_to line_pulsed priority_to trigger_to route_to unrouted
settings-after (SetEnabled on) r = refl
settings-after (SetPending on) r = refl
settings-after (SetActive on) r = refl
settings-after (SetState s) r = refl
settings-after ClearDeliveryState r = refl
settings-after MarkInflight r = refl
settings-after CancelInflight r = refl
settings-after FinishInflight r = refl
settings-after (DeactivateInflight p) r = refl
settings-after (SetLevel true) r = refl
settings-after (SetLevel false) r = refl
settings-after Pulse r = refl
settings-after Complete r = refl
settings-after (SetPriority p) r = refl
settings-after (SetTrigger t) r = refl
settings-after (SetRoute a) r = refl
settings-after ClearRoute r = refl

pub intid_kept : (o : Operation) (r : InterruptRecord) → (applied o r).intid ≡ r.intid
unfolding with_life line_to line_pulsed priority_to trigger_to route_to unrouted
intid_kept (SetEnabled on) r = refl
intid_kept (SetPending on) r = refl
intid_kept (SetActive on) r = refl
intid_kept (SetState s) r = refl
intid_kept ClearDeliveryState r = refl
intid_kept MarkInflight r = refl
intid_kept CancelInflight r = refl
intid_kept FinishInflight r = refl
intid_kept (DeactivateInflight p) r = refl
intid_kept (SetLevel true) r = refl
intid_kept (SetLevel false) r = refl
intid_kept Pulse r = refl
intid_kept Complete r = refl
intid_kept (SetPriority p) r = refl
intid_kept (SetTrigger t) r = refl
intid_kept (SetRoute a) r = refl
intid_kept ClearRoute r = refl

-- what holds of the settings holds after every operation, if it does after the four that set one. `Known` is what is known of the operation
pub settings_hold : (P : Settings → Type 0) (Known : Operation → Type 0) (r : InterruptRecord) → P (settings_of r)
    → ((p : Priority) → Known (SetPriority p) → P (settings_after (SetPriority p) r))
    → ((t : TriggerMode) → Known (SetTrigger t) → P (settings_after (SetTrigger t) r))
    → ((a : GicAffinity) → Known (SetRoute a) → P (settings_after (SetRoute a) r))
    → (Known ClearRoute → P (settings_after ClearRoute r))
    → (o : Operation) → Known o → P (settings_of (applied o r))
settings_hold P Known r h priority trigger route unroute o ok = subst⁻¹ P (settings-after o r) (go o ok)
  where
    go : (x : Operation) → Known x → P (settings_after x r)
    go (SetEnabled on) k = h
    go (SetPending on) k = h
    go (SetActive on) k = h
    go (SetState s) k = h
    go ClearDeliveryState k = h
    go MarkInflight k = h
    go CancelInflight k = h
    go FinishInflight k = h
    go (DeactivateInflight p) k = h
    go (SetLevel true) k = h
    go (SetLevel false) k = h
    go Pulse k = h
    go Complete k = h
    go (SetPriority p) k = priority p k
    go (SetTrigger t) k = trigger t k
    go (SetRoute a) k = route a k
    go ClearRoute k = unroute k

-- a record is its INTID, its flags and its settings
pub record_path : (r s : InterruptRecord) → r.intid ≡ s.intid → r.life ≡ s.life → settings_of r ≡ settings_of s → r ≡ s
record_path r s i f g =
    λ k. record { intid = i k; life = f k; priority = (g k).0; trigger = (g k).1; route = (g k).2; cpu_target_mask = (g k).3 }

-- ---- a new record

pub fresh-settings : (i : IntId) (t : TriggerMode) → settings_of (fresh i t) ≡ (record { 0 = 0x80 }, t, None, None)
unfolding fresh
fresh-settings i t = refl

-- ---- a synchronisation, and a target mask

pub synchronized-flags : (s : InterruptState) (r : InterruptRecord)
    → (synchronized_with s r).life ≡ let f = r.life in flags f.enabled (pending_of s || redelivery f) (active_of s) f.inflight (redelivery f && not (active_of s)) (line f)
unfolding with_life synchronized_with
synchronized-flags s r = rw (mark (pending_of s) (redelivery r.life) (active_of s))

pub synchronized-settings : (s : InterruptState) (r : InterruptRecord) → settings_of (synchronized_with s r) ≡ settings_of r
unfolding with_life synchronized_with
synchronized-settings s r = refl

-- the state that a synchronisation answers is the list register's, and pending besides where there is a redelivery mark
pub merged_is : (s : InterruptState) (r : InterruptRecord) → state_in (synchronized_with s r) ≡ state_of (pending_of s || redelivery r.life) (active_of s)
unfolding state_in with_life synchronized_with
merged_is s r = refl

pub mask_flags : (m : ℕ) (r : InterruptRecord) → (mask_to m r).life ≡ r.life
unfolding mask_to
mask_flags m r = refl

pub mask_settings : (m : ℕ) (r : InterruptRecord) → settings_of (mask_to m r) ≡ (r.priority, r.trigger, None, Some m)
unfolding mask_to
mask_settings m r = refl

-- neither changes the INTID
pub synchronized_intid : (s : InterruptState) (r : InterruptRecord) → (synchronized_with s r).intid ≡ r.intid
unfolding with_life synchronized_with
synchronized_intid s r = refl

pub mask_intid : (m : ℕ) (r : InterruptRecord) → (mask_to m r).intid ≡ r.intid
unfolding mask_to
mask_intid m r = refl
