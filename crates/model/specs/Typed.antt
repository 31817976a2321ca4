-- What the code's types say of a state: there are 988 slots, and a priority and the levels of an affinity are bytes. It holds of a
-- Distributor just created, and every call keeps it.
use Rattle.std.specs.Prelude.{ℕ, zero, suc, ◌+◌, ◌-◌, ◌<◌, ◌≡◌, refl, List, [], ◌∷◌, length, get_or, IfSome}
use Rattle.std.proofs.Common.{subst, ◌∙◌, arith}
use Rattle.std.proofs.Math.Path.{subst⁻¹}
use Rattle.std.proofs.Math.Option.{some}
use Rattle.std.proofs.Math.ListN.{get_elem?}
use Rattle.theory.specs.Lists.{tabulate}
use Rattle.theory.specs.ListLaws.{length-tabulate}
use Rattle.theory.specs.MapAtLaws.{relates_map_at, length-map_at}
use Rattle.theory.specs.Runs.{run}
use Rattle.identifiers.specs.declared.types.IntId.{IntId}
use Rattle.attributes.specs.Affinity.{affinity}
use Rattle.attributes.specs.AffinityLaws.{Bytes}
use Rattle.attributes.specs.declared.attributes.TriggerMode.{TriggerMode}
use Rattle.operation.specs.declared.operation.Operation.TheVariants.{SetPriority, SetRoute}
use Rattle.operation.specs.Laws.{Settings, settings_of, fresh-settings}
use Rattle.place.specs.Table.{capacity}
use Rattle.controller.specs.declared.controller.ControllerConfig.{ControllerConfig}
use Rattle.slot.specs.declared.slot.Slot.{Slot}
use Rattle.slot.specs.Slots.{fresh_spi}
use Rattle.slot.specs.NoSlot.{no_slot}
use Rattle.slot.specs.BankRule.{slot_of}
use Rattle.slot.specs.SettingsLaws.{TypedChange, Stays}
use Rattle.slot.proofs.SettingsLaws.{field_keeps, change_keeps}
use Rattle.changes.specs.declared.change.Change.{Change}
use Rattle.changes.specs.declared.change.Change.TheVariants.{ClaimTo, SetCpuTargetMask, Operate}
use Rattle.model.specs.Calls.{Distributor, Call, change, size, created, slot_after, step}
use Rattle.model.specs.SlotLaws.{call_keeps}

-- ---- what is typed

pub record TypedSlot (s : Slot) : Type 0 where
  pub priority : s.interrupt.priority.0 < 256
  pub route : IfSome s.interrupt.route Bytes

pub record Typed (d : Distributor) : Type 0 where
  pub room : length d.slots ≡ capacity
  pub bytes : (i : ℕ) → TypedSlot (slot_of d.slots i)

-- a change hands bytes over, if anything
pub record TypedCall (k : Call) : Type 0 where
  pub change_typed : (h : Change) (raw : ℕ) → k ≡ change h raw → TypedChange h

-- ---- settings

abbrev IsTyped : Settings → Type 0
IsTyped s = (s.0.0 < 256) × IfSome s.2 Bytes

typed_stays : Stays IsTyped
typed_stays =
    record {
      priority = λ p s h ok. (h, ok.1);
      trigger = λ t s ok. ok;
      route = λ a s h ok. (ok.0, h);
      unroute = λ s ok. (ok.0, tt);
      mask = λ m s h ok. (ok.0, tt);
    }

-- ---- slots

slot_typed : (s : Slot) → IsTyped (settings_of s.interrupt) → TypedSlot s
slot_typed s h = record { priority = h.0; route = h.1 }

call_typed : (c : ControllerConfig) (n : ℕ) (k : Call) (i : ℕ) (s : Slot) → TypedCall k → TypedSlot s → TypedSlot (slot_after c n k i s)
call_typed c n k i s call ok =
    call_keeps TypedSlot c n i s ok
    (λ e x b v. slot_typed _ (field_keeps IsTyped typed_stays s (ok.priority, ok.route) x b v))
    k
    (λ e h raw z. slot_typed _ (change_keeps IsTyped typed_stays s (ok.priority, ok.route) h (call.change_typed h raw z)))

fresh_typed : (raw : ℕ) → TypedSlot (fresh_spi raw)
fresh_typed raw = slot_typed _ (subst⁻¹ IsTyped (fresh-settings (IntId.Spi (record { 0 = raw })) TriggerMode.Level) (omega arith, tt))

none_typed : TypedSlot no_slot
none_typed = record { priority = omega arith; route = tt }

-- ---- states

pub typed_created : (c : ControllerConfig) (n : ℕ) → Typed (created c n)
typed_created c n = record { room = length-tabulate (λ p. fresh_spi (32 + p)) 0 capacity; bytes = λ i. go 0 capacity (i - 32) }
  where
    go : (k m p : ℕ) → TypedSlot (get_or (tabulate (λ q. fresh_spi (32 + q)) k m) p no_slot)
    go k zero p = none_typed
    go k (suc m) zero = fresh_typed (32 + k)
    go k (suc m) (suc p) = go (suc k) m p

pub typed_kept : (k : Call) (d : Distributor) → TypedCall k → Typed d → Typed (step k d)
unfolding step
typed_kept k d call ok =
    record {
      room = length-map_at after d.slots ∙ ok.room;
      bytes = λ i. relates_map_at (λ was is. TypedSlot is) after (i - 32) d.slots no_slot none_typed (call_typed d.config (size d) k (32 + (i - 32)) (slot_of d.slots i) call (ok.bytes i));
    }
  where
    after : ℕ → Slot → Slot
    after p = slot_after d.config (size d) k (32 + p)

-- so after any calls of the code, whose own types say `TypedCall`
pub typed_run : (calls : List Call) (d : Distributor) → ((j : ℕ) (k : Call) → get_elem? calls j ≡ some k → TypedCall k) → Typed d → Typed (run step calls d)
typed_run [] d all ok = ok
typed_run (k ∷ ks) d all ok = typed_run ks (step k d) (λ j l e. all (suc j) l e) (typed_kept k d (all 0 k refl) ok)

-- and they say no more: every byte will do
pub bytes_typed : (v raw : ℕ) → v < 256
    → TypedCall (change (Operate (SetPriority (record { 0 = v }))) raw)
    × TypedCall (change (Operate (SetRoute (affinity v v v v))) raw)
    × TypedCall (change (ClaimTo (affinity v v v v)) raw)
    × TypedCall (change (SetCpuTargetMask v) raw)
bytes_typed v raw h = (
  call _ (record { priority = λ p e. let z : v ≡ p.0 = cc in rw (← z) h; route = λ a e. other cc; claim = λ a e. other cc; mask = λ m e. other cc }),
  call _ (record { priority = λ p e. other cc; route = λ a e. let z : affinity v v v v ≡ a = cc in subst Bytes z four; claim = λ a e. other cc; mask = λ m e. other cc }),
  call _ (record { priority = λ p e. other cc; route = λ a e. other cc; claim = λ a e. let z : affinity v v v v ≡ a = cc in subst Bytes z four; mask = λ m e. other cc }),
  call _ (record { priority = λ p e. other cc; route = λ a e. other cc; claim = λ a e. other cc; mask = λ m e. let z : v ≡ m = cc in rw (← z) h }),
)
  where
    four : Bytes (affinity v v v v)
    four = record { byte3 = h; byte2 = h; byte1 = h; byte0 = h }

    other : {A : Type 0} → ◌≡◌ {A = ℕ} 0 1 → A
    other z = absurd (omega arith)

    call : (x : Change) → TypedChange x → TypedCall (change x raw)
    call x t = record { change_typed = λ y r e. let z : x ≡ y = cc in subst TypedChange z t }
