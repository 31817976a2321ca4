-- The paper's sentences on the life of a record, as rows of the six flags before and after: enabled, pending, active, in flight,
-- redelivery mark, line. A flag that a row repeats stays.
use Rattle.std.specs.Prelude.{◌≡◌, refl, Bool, true, false}
use Rattle.std.proofs.Math.Bool.{or-false, or-true, and-false, and-true}
use Rattle.life.specs.Life.{flags, born, enabled_to, pending_to, active_to, state_to, has_delivery, cleared, taken, synchronized, cancelled, deactivated, level_to, pulsed, completed, deliverable}

module _ (e p a i d l : Bool) where
  -- ---- what is asked

  -- deliverable exactly when enabled and pending
  pub deliverable_when : (deliverable (flags true p a i d l) ≡ p) × (deliverable (flags false p a i d l) ≡ false)
  deliverable_when = (refl, refl)

  -- delivery state exactly when pending, active, in flight or to be delivered again; a high line alone is none
  pub delivery_when :
      (has_delivery (flags e true a i d l) ≡ true) ×
      (has_delivery (flags e false true i d l) ≡ true) ×
      (has_delivery (flags e false false true d l) ≡ true) ×
      (has_delivery (flags e false false false d l) ≡ d)
  delivery_when = (refl, refl, refl, refl)

  -- ---- the device's line

  -- a line that goes high pends. It marks redelivery exactly when it was low and the interrupt is in flight and active
  pub line-raised : (level : Bool) →
      (level_to level true (flags e p true true d false) ≡ flags e true true true true true) ×
      (level_to level true (flags e p a false d false) ≡ flags e true a false d true) ×
      (level_to level true (flags e p false true d false) ≡ flags e true false true d true) ×
      (level_to level true (flags e p a i d true) ≡ flags e true a i d true)
  line-raised level = (simp or-true, simp or-false, simp or-false, simp and-false (simp (or-false d)))

  -- a line that goes low takes pending and the mark back exactly when level-sensitive and not active
  pub line-lowered :
      (level_to true false (flags e p false i d l) ≡ flags e false false i false false) ×
      (level_to true false (flags e p true i d l) ≡ flags e p true i d false) ×
      (level_to false false (flags e p a i d l) ≡ flags e p a i d false)
  line-lowered = (simp and-false, simp and-true, simp or-true (simp (and-true p, and-true d)))

  -- a pulse pends, and marks redelivery exactly when in flight
  pub pulse_marks :
      (pulsed (flags e p a true d l) ≡ flags e true a true true l) ×
      (pulsed (flags e p a false d l) ≡ flags e true a false d l)
  pulse_marks = (simp or-true, simp or-false)

  -- ---- enabled, pending, active

  -- enabling under a high line pends
  pub enabling :
      (enabled_to true (flags e p a i d true) ≡ flags true true a i d true) ×
      (enabled_to true (flags e p a i d false) ≡ flags true p a i d false) ×
      (enabled_to false (flags e p a i d l) ≡ flags false p a i d l)
  enabling = (simp or-true, simp or-false, simp or-false)

  -- clearing pending drops the mark, setting it does not
  pub pending_set :
      (pending_to true (flags e p a i d l) ≡ flags e true a i d l) ×
      (pending_to false (flags e p a i d l) ≡ flags e false a i false l)
  pending_set = (refl, refl)

  -- completing under a high level line pends again, else pending stays
  pub completing :
      (completed true (flags e p a i d true) ≡ flags e true false i d true) ×
      (completed true (flags e p a i d false) ≡ flags e p false i d false) ×
      (completed false (flags e p a i d l) ≡ flags e p false i d l)
  completing = (simp or-true, simp or-false, simp or-false)

  -- `set_active` sets active alone, and `set_state` pending and active alone
  pub state_set : (s t : Bool) →
      (active_to t (flags e p a i d l) ≡ flags e p t i d l) ×
      (state_to s t (flags e p a i d l) ≡ flags e s t i d l)
  state_set s t = (refl, refl)

  -- ---- a delivery

  -- a new interrupt has nothing but enabled, one whose delivery state is cleared keeps nothing else, and one that is taken is in
  -- flight besides
  pub begun :
      (born e ≡ flags e false false false false false) ×
      (cleared (flags e p a i d l) ≡ flags e false false false false false) ×
      (taken (flags e p a i d l) ≡ flags e p a true d l)
  begun = (refl, refl, refl)

  -- a synchronisation drops the mark only where the merged state is active and pending: the mark makes it pending
  pub synchronizing : (s : Bool) →
      (synchronized s true (flags e p a i true l) ≡ flags e true true i false l) ×
      (synchronized s false (flags e p a i true l) ≡ flags e true false i true l) ×
      ((t : Bool) → synchronized s t (flags e p a i false l) ≡ flags e s t i false l)
  synchronizing s = (simp or-true, simp or-true, λ t. simp or-false)

  -- a cancelled delivery pends again where it was to be delivered again
  pub cancelling :
      (cancelled (flags e p a i true l) ≡ flags e true a false false l) ×
      (cancelled (flags e p a i false l) ≡ flags e p a false false l)
  cancelling = (simp or-true, simp or-false)

  -- a delivery that ends is neither active nor in flight, and has no mark. It pends again exactly when the list register was still
  -- pending, when it was to be delivered again, or under a high level line
  pub finishing : (level carried : Bool) →
      (deactivated level true (flags e p a i d l) ≡ flags e true false false false l) ×
      (deactivated level carried (flags e p a i true l) ≡ flags e true false false false l) ×
      (deactivated true carried (flags e p a i d true) ≡ flags e true false false false true) ×
      (deactivated true false (flags e p a i false false) ≡ flags e false false false false false) ×
      (deactivated false false (flags e p a i false l) ≡ flags e false false false false l)
  finishing level carried = (refl, simp or-true, simp or-true, refl, refl)
