-- The paper's sentences on claims, releases and target masks: what each does, and what it leaves alone.
use Rattle.std.specs.Prelude.{ℕ, ◌≡◌, Bool, true, false, ◌||◌, Option, Some, None}
use Rattle.std.proofs.Math.Path.{refl}
use Rattle.identifiers.specs.declared.types.IntId.{IntId}
use Rattle.attributes.specs.declared.attributes.GicAffinity.{GicAffinity}
use Rattle.attributes.specs.declared.attributes.Priority.{Priority}
use Rattle.attributes.specs.declared.attributes.TriggerMode.{TriggerMode}
use Rattle.attributes.specs.declared.attributes.InterruptState.{InterruptState}
use Rattle.attributes.specs.States.{pending_of, active_of, state_of}
use Rattle.life.specs.declared.life.Life.{Life}
use Rattle.life.specs.Life.{redelivery}
use Rattle.interrupt.specs.declared.interrupt.InterruptRecord.{InterruptRecord}
use Rattle.interrupt.specs.Records.{is_level, state_in, route_to, unrouted, trigger_to, mask_to, route_in, mask_in}
use Rattle.operation.specs.declared.operation.Operation.{Operation}
use Rattle.operation.specs.Laws.{flags_after, settings_of, settings_after, flags-after, settings-after, intid_kept, merged_is, synchronized-settings, synchronized_intid}
use Rattle.ownership.specs.declared.ownership.Ownership.{Ownership}
use Rattle.changes.specs.declared.change.Change.TheVariants.{Claim, ClaimTo, Release, SetCpuTargetMask, SynchronizeInflight, Operate}
use Rattle.changes.specs.Changes.{happens, ownership_after, record_after}

-- claimed or not, and with or without the fixed mark
abbrev held : Bool → Bool → Ownership
held claim mark = record { explicitly_owned = claim; fixed_route = mark }

-- the INTID, the six flags and the priority: no claim, no release and no target mask changes them
abbrev core : InterruptRecord → IntId × Life × Priority
core r = (r.intid, r.life, r.priority)

-- the trigger, the route and the target mask
abbrev wiring : InterruptRecord → TriggerMode × Option GicAffinity × Option ℕ
wiring r = (r.trigger, route_in r, mask_in r)

module _ (o : Ownership) (r : InterruptRecord) where
  -- release is done to every SPI, unclaimed ones too: no claim, no mark, no route, level. The target mask stays
  pub release_all : (happens Release o ≡ true) × (ownership_after Release o ≡ held false false)
  release_all = (refl, refl)

  pub release_keeps : (core (record_after Release r) ≡ core r) × (wiring (record_after Release r) ≡ (TriggerMode.Level, None, mask_in r))
  unfolding unrouted trigger_to route_in mask_in
  release_keeps = (refl, refl)

  -- a claim by software leaves the whole record, the route too
  pub software_claim : (ownership_after Claim o ≡ held true false) × (record_after Claim r ≡ r)
  software_claim = (refl, refl)

  -- a physical claim sets route and mark, and drops the target mask
  pub physical_claim : (a : GicAffinity) → let s = record_after (ClaimTo a) r in (ownership_after (ClaimTo a) o ≡ held true true) × (core s ≡ core r) × (wiring s ≡ (r.trigger, Some a, None))
  unfolding route_to route_in mask_in
  physical_claim a = (refl, refl, refl)

  -- a target mask drops the route, and touches neither claim nor mark
  pub mask_set_lem : (m : ℕ) → let s = record_after (SetCpuTargetMask m) r in (ownership_after (SetCpuTargetMask m) o ≡ o) × (core s ≡ core r) × (wiring s ≡ (r.trigger, None, Some m))
  unfolding mask_to route_in mask_in
  mask_set_lem m = (refl, refl, refl)

  -- an operation is always done, touches neither claim nor mark, and leaves the flags and settings that the tables of Laws have
  pub operates : (x : Operation) → let s = record_after (Operate x) r in
      (happens (Operate x) o ≡ true) ×
      (ownership_after (Operate x) o ≡ o) ×
      (s.intid ≡ r.intid) ×
      (s.life ≡ flags_after x (is_level r) r.life) ×
      (settings_of s ≡ settings_after x r)
  operates x = (refl, refl, intid_kept x r, flags-after x r, settings-after x r)

  -- the same of a synchronisation: it leaves the merged state, and every setting
  pub synchronizes : (t : InterruptState) → let s = record_after (SynchronizeInflight t) r in
      (happens (SynchronizeInflight t) o ≡ true) ×
      (ownership_after (SynchronizeInflight t) o ≡ o) ×
      (s.intid ≡ r.intid) ×
      (state_in s ≡ state_of (pending_of t || redelivery r.life) (active_of t)) ×
      (settings_of s ≡ settings_of r)
  synchronizes t = (refl, refl, synchronized_intid t r, merged_is t r, synchronized-settings t r)

-- a claim of either kind is done exactly when the SPI is unclaimed
pub claim_once : (a : GicAffinity) (mark : Bool) →
    (happens Claim (held true mark) ≡ false) ×
    (happens (ClaimTo a) (held true mark) ≡ false) ×
    (happens Claim (held false mark) ≡ true) ×
    (happens (ClaimTo a) (held false mark) ≡ true)
claim_once a mark = (refl, refl, refl, refl)

-- a target mask is set exactly when the route is not fixed
pub mask_unless_fixed : (m : ℕ) (claim : Bool) → (happens (SetCpuTargetMask m) (held claim true) ≡ false) × (happens (SetCpuTargetMask m) (held claim false) ≡ true)
mask_unless_fixed m claim = (refl, refl)
