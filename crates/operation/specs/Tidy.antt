-- An interrupt has a route, or a target mask, or neither, from its creation on. And a record is what it reads as: two records that mean
-- the same are equal.
use Rattle.std.specs.Prelude.{ℕ, ◌≡◌, refl, false, ◌&&◌, is_some}
use Rattle.std.proofs.Math.Bool.{and-false}
use Rattle.std.proofs.Math.Path.{subst⁻¹}
use Rattle.identifiers.specs.declared.types.IntId.{IntId}
use Rattle.attributes.specs.declared.attributes.TriggerMode.{TriggerMode}
use Rattle.attributes.specs.declared.attributes.InterruptState.{InterruptState}
use Rattle.interrupt.specs.declared.interrupt.InterruptRecord.{InterruptRecord}
use Rattle.operation.specs.declared.operation.Operation.{Operation}
use Rattle.interrupt.specs.Records.{fresh, synchronized_with, mask_to, route_in, mask_in}
use Rattle.operation.specs.Operation.{applied}
use Rattle.operation.specs.Laws.{Settings, settings_of, settings_hold, fresh-settings, synchronized-settings, mask_settings, record_path}

abbrev pub Tidy : Settings → Type 0
Tidy s = (is_some s.2 && is_some s.3) ≡ false

pub tidy_fresh : (i : IntId) (t : TriggerMode) → Tidy (settings_of (fresh i t))
tidy_fresh i t = subst⁻¹ Tidy (fresh-settings i t) refl

pub tidy_kept : (o : Operation) (r : InterruptRecord) → Tidy (settings_of r) → Tidy (settings_of (applied o r))
tidy_kept o r h = settings_hold Tidy (λ x. Unit {0}) r h (λ p k. h) (λ t k. h) (λ a k. refl) (λ k. refl) o tt

pub tidy_synchronized : (s : InterruptState) (r : InterruptRecord) → Tidy (settings_of r) → Tidy (settings_of (synchronized_with s r))
tidy_synchronized s r h = subst⁻¹ Tidy (synchronized-settings s r) h

pub tidy_mask : (m : ℕ) (r : InterruptRecord) → Tidy (settings_of (mask_to m r))
tidy_mask m r = subst⁻¹ Tidy (mask_settings m r) refl

pub same_meaning :
    (r s : InterruptRecord) →
    r.intid ≡ s.intid →
    r.life ≡ s.life →
    r.priority ≡ s.priority →
    r.trigger ≡ s.trigger →
    route_in r ≡ route_in s →
    mask_in r ≡ mask_in s →
    r ≡ s
unfolding route_in mask_in
same_meaning r s i f p g a m = record_path r s i f (λ k. (p k, g k, a k, m k))
