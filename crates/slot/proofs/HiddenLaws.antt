-- What a written field does to what no bank shows.
use Rattle.std.specs.Prelude.{ℕ, ◌%◌, ◌≡◌, refl, Bool, true, false, not, ◌&&◌, cond, is_some}
use Rattle.std.proofs.Common.{sym, ap, ◌∙◌, true≢false}
use Rattle.std.proofs.Math.Bool.{and-true, and-false}
use Rattle.attributes.specs.Affinity.{from_mpidr}
use Rattle.life.specs.declared.life.Life.{Life}
use Rattle.life.specs.Life.{redelivery, line}
use Rattle.interrupt.specs.declared.interrupt.InterruptRecord.{InterruptRecord}
use Rattle.interrupt.specs.Records.{is_level}
use Rattle.operation.specs.declared.operation.Operation.{Operation}
use Rattle.operation.specs.declared.operation.Operation.TheVariants.{SetEnabled, SetPending, SetActive, SetPriority, SetTrigger, SetRoute, Complete}
use Rattle.operation.specs.Operation.{applied}
use Rattle.operation.specs.Laws.{Settings, flags_after, flags-after, settings_after, settings-after, intid_kept}
use Rattle.bank.specs.declared.bank.Flag.TheVariants.{Enabled, Pending, Active}
use Rattle.bank.specs.declared.bank.Field.TheVariants.{Group, Priority, Configuration, Route}
use Rattle.bank.specs.declared.bank.Bank.{Bank}
use Rattle.bank.specs.declared.bank.Bank.TheVariants.{Set, Clear, Replace}
use Rattle.bank.specs.Banks.{trigger_in, acts, lists}
use Rattle.ownership.specs.Owned.{owned}
use Rattle.slot.specs.declared.slot.Slot.{Slot}
use Rattle.slot.specs.Effects.{FieldEffect, effect_of, untouched}
use Rattle.slot.specs.Slots.{after_effect, effected, field_written}
use Rattle.slot.specs.Guest.{drops_mark, drops_mask}
use Rattle.slot.specs.HiddenLaws.{Hidden}

same : (r : InterruptRecord) → Hidden false false r r
same r = record { inflight = refl; level = refl; intid = refl; mark = sym (and-true _); masked = sym (and-true _) }

-- an operation, by its rows in the two tables
operated : (o : Operation) (mark mask : Bool) (r : InterruptRecord)
    → (flags_after o (is_level r) r.life).inflight ≡ r.life.inflight
    → line (flags_after o (is_level r) r.life) ≡ line r.life
    → redelivery (flags_after o (is_level r) r.life) ≡ (redelivery r.life && not mark)
    → is_some (settings_after o r).3 ≡ (is_some r.cpu_target_mask && not mask)
    → Hidden mark mask r (applied o r)
operated o mark mask r f l d m =
    let e = flags-after o r in
    record {
      inflight = ap (λ (x : Life). x.inflight) e ∙ f;
      level = ap line e ∙ l;
      intid = intid_kept o r;
      mark = ap redelivery e ∙ d;
      masked = ap (λ (x : Settings). is_some x.3) (settings-after o r) ∙ m;
    }

-- one that leaves all four
leaves : (o : Operation) (r : InterruptRecord)
    → (flags_after o (is_level r) r.life).inflight ≡ r.life.inflight
    → line (flags_after o (is_level r) r.life) ≡ line r.life
    → redelivery (flags_after o (is_level r) r.life) ≡ redelivery r.life
    → is_some (settings_after o r).3 ≡ is_some r.cpu_target_mask
    → Hidden false false r (applied o r)
leaves o r f l d m = operated o false false r f l (d ∙ sym (and-true _)) (m ∙ sym (and-true _))

-- a field that acts: of a flag bank a 1
row : (fixed : Bool) (a : Bank) (v : ℕ) (r : InterruptRecord) → acts a v ≡ true → Hidden (drops_mark a v) (drops_mask fixed a) r (after_effect (effect_of fixed a v) r)
row fixed (Set Enabled) v r e = leaves (SetEnabled true) r refl refl refl refl
row fixed (Set Pending) v r e = leaves (SetPending true) r refl refl refl refl
row fixed (Set Active) v r e = leaves (SetActive true) r refl refl refl refl
row fixed (Clear Enabled) v r e = leaves (SetEnabled false) r refl refl refl refl
row fixed (Clear Pending) v r e = rw e (operated (SetPending false) true false r refl refl (sym (and-false (redelivery r.life))) (sym (and-true _)))
row fixed (Clear Active) v r e = leaves Complete r refl refl refl refl
row fixed (Replace Group) v r e = same r
row fixed (Replace Priority) v r e = leaves (SetPriority (record { 0 = v % 256 })) r refl refl refl refl
row fixed (Replace Configuration) v r e = leaves (SetTrigger (trigger_in v)) r refl refl refl refl
row true (Replace Route) v r e = same r
row false (Replace Route) v r e = operated (SetRoute (from_mpidr v)) false true r refl refl (sym (and-true _)) (sym (and-false (is_some r.cpu_target_mask)))

-- a field that does not act drops nothing
idle : (fixed : Bool) (a : Bank) (v : ℕ) → acts a v ≡ false → (drops_mark a v ≡ false) × (drops_mask fixed a ≡ false)
idle fixed (Set f) v e = (refl, refl)
idle fixed (Clear Enabled) v e = (refl, refl)
idle fixed (Clear Pending) v e = (e, refl)
idle fixed (Clear Active) v e = (refl, refl)
idle fixed (Replace Group) v e = (refl, refl)
idle fixed (Replace Priority) v e = (refl, refl)
idle fixed (Replace Configuration) v e = (refl, refl)
idle fixed (Replace Route) v e = absurd (true≢false e)

-- of every slot, and every field of every bank
pub hidden_then : (e : Bool) (a : Bank) (v : ℕ) (s : Slot) → let own = owned e s.ownership in
    Hidden (own && drops_mark a v) (own && drops_mask s.ownership.fixed_route a) s.interrupt (field_written e a v s).interrupt
hidden_then e a v s = go (acts a v) (owned e s.ownership) refl
  where
    does : FieldEffect
    does = record { effect = effect_of s.ownership.fixed_route a v; lists = lists a }

    go : (x o : Bool) → acts a v ≡ x
        → Hidden (o && drops_mark a v) (o && drops_mask s.ownership.fixed_route a) s.interrupt (effected (cond (x && o) does untouched).effect s).interrupt
    go true true p = row s.ownership.fixed_route a v s.interrupt p
    go true false p = same s.interrupt
    go false true p = let (mark, mask) = idle s.ownership.fixed_route a v p in rw (mark, mask) (same s.interrupt)
    go false false p = same s.interrupt
