-- What holds of an SPI's settings: if it stays where one of them is set, it stays after every written field and every change of the
-- host.
use Rattle.std.specs.Prelude.{ℕ, ◌%◌, ◌<◌, ◌≡◌, refl, Bool, true, false, cond}
use Rattle.std.proofs.Common.{sym, ap, arith}
use Rattle.std.proofs.Math.Path.{subst⁻¹}
use Rattle.attributes.specs.Affinity.{from_mpidr}
use Rattle.attributes.specs.AffinityLaws.{Bytes, from_mpidr_bytes}
use Rattle.attributes.specs.declared.attributes.GicAffinity.{GicAffinity}
use Rattle.attributes.specs.declared.attributes.Priority.{Priority}
use Rattle.attributes.specs.declared.attributes.TriggerMode.{TriggerMode}
use Rattle.interrupt.specs.declared.interrupt.InterruptRecord.{InterruptRecord}
use Rattle.operation.specs.declared.operation.Operation.{Operation}
use Rattle.operation.specs.declared.operation.Operation.TheVariants.{SetEnabled, SetPending, SetActive, SetPriority, SetTrigger, SetRoute, ClearRoute, Complete}
use Rattle.operation.specs.Operation.{applied}
use Rattle.operation.specs.Laws.{Settings, settings_of, settings-after, settings_hold, synchronized-settings, mask_settings}
use Rattle.bank.specs.declared.bank.Flag.{Flag}
use Rattle.bank.specs.declared.bank.Flag.TheVariants.{Enabled, Pending, Active}
use Rattle.bank.specs.declared.bank.Field.{Field}
use Rattle.bank.specs.declared.bank.Bank.{Bank}
use Rattle.bank.specs.declared.bank.Bank.TheVariants.{Set, Clear, Replace}
use Rattle.bank.specs.Banks.{trigger_in, lists}
use Rattle.changes.specs.declared.change.Change.{Change}
use Rattle.changes.specs.declared.change.Change.TheVariants.{Claim, ClaimTo, Release, SetCpuTargetMask, SynchronizeInflight, Operate}
use Rattle.changes.specs.Changes.{happens, record_after, ownership_after}
use Rattle.slot.specs.declared.slot.Slot.{Slot}
use Rattle.slot.specs.Effects.{FieldEffect, flag_to, effect_of, touches, untouched}
use Rattle.slot.specs.Slots.{after_effect, effected, field_written, changed}
use Rattle.slot.specs.SettingsLaws.{TypedChange, Stays}

module _ (P : Settings → Type 0) (stays : Stays P) where
  module _ (r : InterruptRecord) (ok : P (settings_of r)) where
    operated : (o : Operation) → ((p : Priority) → o ≡ SetPriority p → p.0 < 256) → ((a : GicAffinity) → o ≡ SetRoute a → Bytes a) → P (settings_of (applied o r))
    operated o priority route =
        settings_hold P (λ x. x ≡ o) r ok
        (λ p e. stays.priority p (settings_of r) (priority p (sym e)) ok)
        (λ t e. stays.trigger t (settings_of r) ok)
        (λ a e. stays.route a (settings_of r) (route a (sym e)) ok)
        (λ e. stays.unroute (settings_of r) ok)
        o refl

    flagged : (f : Flag) (on : Bool) → P (settings_of (applied (flag_to f on) r))
    flagged Enabled on = subst⁻¹ P (settings-after (SetEnabled on) r) ok
    flagged Pending on = subst⁻¹ P (settings-after (SetPending on) r) ok
    flagged Active true = subst⁻¹ P (settings-after (SetActive true) r) ok
    flagged Active false = subst⁻¹ P (settings-after Complete r) ok

    -- a written field: a priority is cut to a byte, and a route made of bytes
    done : (fixed : Bool) (b : Bank) (v : ℕ) → P (settings_of (after_effect (effect_of fixed b v) r))
    done fixed (Set f) v = flagged f true
    done fixed (Clear f) v = flagged f false
    done fixed (Replace Field.Group) v = ok
    done fixed (Replace Field.Priority) v =
        subst⁻¹ P (settings-after (SetPriority (record { 0 = v % 256 })) r) (stays.priority (record { 0 = v % 256 }) (settings_of r) (omega arith) ok)
    done fixed (Replace Field.Configuration) v = subst⁻¹ P (settings-after (SetTrigger (trigger_in v)) r) (stays.trigger (trigger_in v) (settings_of r) ok)
    done true (Replace Field.Route) v = ok
    done false (Replace Field.Route) v = subst⁻¹ P (settings-after (SetRoute (from_mpidr v)) r) (stays.route (from_mpidr v) (settings_of r) (from_mpidr_bytes v) ok)

    released : P (settings_of (record_after Release r))
    released =
        let gone : P (settings_of (applied ClearRoute r)) = subst⁻¹ P (settings-after ClearRoute r) (stays.unroute (settings_of r) ok) in
        subst⁻¹ P (settings-after (SetTrigger TriggerMode.Level) (applied ClearRoute r)) (stays.trigger TriggerMode.Level (settings_of (applied ClearRoute r)) gone)

    happened : (h : Change) → TypedChange h → P (settings_of (record_after h r))
    happened Claim t = ok
    happened (ClaimTo a) t = subst⁻¹ P (settings-after (SetRoute a) r) (stays.route a (settings_of r) (t.claim a refl) ok)
    happened Release t = released
    happened (SetCpuTargetMask m) t = subst⁻¹ P (mask_settings m r) (stays.mask m (settings_of r) (t.mask m refl) ok)
    happened (SynchronizeInflight x) t = subst⁻¹ P (synchronized-settings x r) ok
    happened (Operate o) t =
        operated o (λ p e. t.priority p (ap (λ (x : Operation). Operate x) e)) (λ a e. t.route a (ap (λ (x : Operation). Operate x) e))

  module _ (s : Slot) (ok : P (settings_of s.interrupt)) where
    pub field_keeps : (e : Bool) (b : Bank) (v : ℕ) → P (settings_of (field_written e b v s).interrupt)
    field_keeps e b v = go (touches e s.ownership b v)
      where
        does : FieldEffect
        does = record { effect = effect_of s.ownership.fixed_route b v; lists = lists b }

        go : (x : Bool) → P (settings_of (effected (cond x does untouched).effect s).interrupt)
        go true = done s.interrupt ok s.ownership.fixed_route b v
        go false = ok

    pub change_keeps : (h : Change) → TypedChange h → P (settings_of (changed h s).interrupt)
    change_keeps h t = go (happens h s.ownership)
      where
        go : (x : Bool) → P (settings_of (cond x (record { interrupt = record_after h s.interrupt; ownership = ownership_after h s.ownership }) s).interrupt)
        go true = happened s.interrupt ok h t
        go false = ok
