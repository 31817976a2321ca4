-- What a written field does to a record, as each bank shows it: `shows_then`, row by row. The laws of slots rest on it.
use Rattle.std.specs.Prelude.{ℕ, zero, suc, ◌-◌, ◌^◌, ◌≤◌, ◌<◌, max, ◌≡◌, refl, Bool, true, false, ◌&&◌, ◌||◌, cond, eqb}
use Rattle.std.proofs.Common.{sym, ap, ◌∙◌, arith, ne_eqb}
use Rattle.std.proofs.Math.Bool.{and-true, and-false}
use Rattle.theory.specs.Bools.{bit_fits}
use Rattle.attributes.specs.Affinity.{mpidr_of}
use Rattle.attributes.specs.AffinityLaws.{mpidr_from_mpidr}
use Rattle.attributes.specs.declared.attributes.GicAffinity.{GicAffinity}
use Rattle.attributes.specs.declared.attributes.Priority as attributes
use Rattle.attributes.specs.declared.attributes.TriggerMode.{TriggerMode}
use Rattle.life.specs.Life.{line}
use Rattle.life.specs.declared.life.Life.{Life}
use Rattle.interrupt.specs.declared.interrupt.InterruptRecord.{InterruptRecord}
use Rattle.interrupt.specs.Records.{is_level}
use Rattle.operation.specs.declared.operation.Operation.{Operation}
use Rattle.operation.specs.declared.operation.Operation.TheVariants.{SetPriority, SetTrigger, SetRoute}
use Rattle.operation.specs.Operation.{applied}
use Rattle.operation.specs.Laws.{Settings, settings_of, flags_after, settings_after, flags-after, settings-after, intid_kept, record_path}
use Rattle.bank.specs.declared.bank.Flag.{Flag}
use Rattle.bank.specs.declared.bank.Flag.TheVariants.{Enabled, Pending, Active}
use Rattle.bank.specs.declared.bank.Field.{Field}
use Rattle.bank.specs.declared.bank.Field.TheVariants.{Group, Priority, Configuration, Route}
use Rattle.bank.specs.declared.bank.Bank.{Bank}
use Rattle.bank.specs.declared.bank.Bank.TheVariants.{Set, Clear, Replace}
use Rattle.bank.specs.Banks.{bit, edge_field, bits_of, shown, acts, lists}
use Rattle.bank.specs.RowLaws.{ISPENDR, upper_bit, route_shown}
use Rattle.slot.specs.Effects.{Effect, leave, flag_to, effect_of, untouched}
use Rattle.slot.specs.Slots.{after_effect}
use Rattle.slot.specs.Guest.{flag_number, field_number, alike, itself_then, shows_then, can_list}

abbrev pub made : Life → Settings → InterruptRecord → InterruptRecord
made l g r = record { intid = r.intid; life = l; priority = g.0; trigger = g.1; route = g.2; cpu_target_mask = g.3 }

-- what a bank shows after an operation is what the operation's rows say
pub shown-after : (b : Bank) (o : Operation) (r : InterruptRecord) → shown b (applied o r) ≡ shown b (made (flags_after o (is_level r) r.life) (settings_after o r) r)
shown-after b o r = ap (shown b) (record_path _ _ (intid_kept o r) (flags-after o r) (settings-after o r))

-- flags show in no field
field-kept : (x : Field) (l : Life) (r : InterruptRecord) → shown (Replace x) (made l (settings_of r) r) ≡ shown (Replace x) r
field-kept Group l r = refl
field-kept Priority l r = refl
field-kept Configuration l r = refl
field-kept Route l r = route_shown (made l (settings_of r) r) ∙ sym (route_shown r)

field_unset : (f : Flag) (on : Bool) (x : Field) (r : InterruptRecord) → shown (Replace x) (applied (flag_to f on) r) ≡ shown (Replace x) r
field_unset Enabled on x r = shown-after (Replace x) (flag_to Enabled on) r ∙ field-kept x _ r
field_unset Pending on x r = shown-after (Replace x) (flag_to Pending on) r ∙ field-kept x _ r
field_unset Active true x r = shown-after (Replace x) (flag_to Active true) r ∙ field-kept x _ r
field_unset Active false x r = shown-after (Replace x) (flag_to Active false) r ∙ field-kept x _ r

bit_or : (p c : Bool) → bit (p || c) ≡ cond c 1 (bit p)
bit_or true true = refl
bit_or true false = refl
bit_or false true = refl
bit_or false false = refl

abbrev flag_bank : Bool → Flag → Bank
flag_bank on f = cond on (Set f) (Clear f)

-- a flag that is set shows 1 whatever it showed, one that is cleared 0
row_same : (on p : Bool) → bit on ≡ cond on (max (bit p) 1) (bit p - 1)
row_same true p = omega (arith, bit_fits p)
row_same false p = omega (arith, bit_fits p)

-- a 1 in a flag bank, as the flag g shows it
flag_row : (on : Bool) (f g : Flag) (fixed : Bool) (r : InterruptRecord)
    → shown (Set g) (applied (flag_to f on) r) ≡ shows_then (line r.life) (is_level r) fixed (flag_bank on f) 1 (Set g) (shown (Set g) r)
flag_row true Enabled Enabled fixed r = shown-after (Set Enabled) (flag_to Enabled true) r ∙ row_same true r.life.enabled
flag_row true Enabled Pending fixed r = shown-after (Set Pending) (flag_to Enabled true) r ∙ bit_or r.life.pending (true && line r.life)
flag_row true Enabled Active fixed r = shown-after (Set Active) (flag_to Enabled true) r
flag_row true Pending Enabled fixed r = shown-after (Set Enabled) (flag_to Pending true) r
flag_row true Pending Pending fixed r = shown-after (Set Pending) (flag_to Pending true) r ∙ row_same true r.life.pending
flag_row true Pending Active fixed r = shown-after (Set Active) (flag_to Pending true) r
flag_row true Active Enabled fixed r = shown-after (Set Enabled) (flag_to Active true) r
flag_row true Active Pending fixed r = shown-after (Set Pending) (flag_to Active true) r
flag_row true Active Active fixed r = shown-after (Set Active) (flag_to Active true) r ∙ row_same true r.life.active
flag_row false Enabled Enabled fixed r = shown-after (Set Enabled) (flag_to Enabled false) r ∙ row_same false r.life.enabled
flag_row false Enabled Pending fixed r = shown-after (Set Pending) (flag_to Enabled false) r ∙ bit_or r.life.pending (false && line r.life)
flag_row false Enabled Active fixed r = shown-after (Set Active) (flag_to Enabled false) r
flag_row false Pending Enabled fixed r = shown-after (Set Enabled) (flag_to Pending false) r
flag_row false Pending Pending fixed r = shown-after (Set Pending) (flag_to Pending false) r ∙ row_same false r.life.pending
flag_row false Pending Active fixed r = shown-after (Set Active) (flag_to Pending false) r
flag_row false Active Enabled fixed r = shown-after (Set Enabled) (flag_to Active false) r
flag_row false Active Pending fixed r = shown-after (Set Pending) (flag_to Active false) r ∙ bit_or r.life.pending (is_level r && line r.life)
flag_row false Active Active fixed r = shown-after (Set Active) (flag_to Active false) r ∙ row_same false r.life.active

-- a 0 in a flag bank
none_row : (x : Bool) {n old : ℕ} → n ≡ old → old ≡ cond x n old
none_row true e = sym e
none_row false e = refl

-- no bank is about a flag and a field
flag_small : (f : Flag) → flag_number f < 3
flag_small Enabled = omega arith
flag_small Pending = omega arith
flag_small Active = omega arith

field_large : (x : Field) → 3 ≤ field_number x
field_large Group = omega arith
field_large Priority = omega arith
field_large Configuration = omega arith
field_large Route = omega arith

flag_apart : (f : Flag) (x : Field) → eqb (flag_number f) (field_number x) ≡ false
flag_apart f x = ne_eqb (flag_number f) (field_number x) (λ e. omega (arith, flag_small f, field_large x))

field_apart : (x : Field) (f : Flag) → eqb (field_number x) (flag_number f) ≡ false
field_apart x f = ne_eqb (field_number x) (flag_number f) (λ e. omega (arith, flag_small f, field_large x))

field_still : (on : Bool) (f : Flag) (x : Field) (fixed : Bool) (r : InterruptRecord)
    → shown (Replace x) (applied (flag_to f on) r) ≡ shows_then (line r.life) (is_level r) fixed (flag_bank on f) 1 (Replace x) (shown (Replace x) r)
field_still true f x fixed r = rw (flag_apart f x, flag_apart Pending x) (field_unset f true x r)
field_still false f x fixed r = rw (flag_apart f x, flag_apart Pending x) (field_unset f false x r)

-- settings show in no flag
flag_kept : (g : Flag) (t : Settings) (r : InterruptRecord) → shown (Set g) (made r.life t r) ≡ shown (Set g) r
flag_kept Enabled t r = refl
flag_kept Pending t r = refl
flag_kept Active t r = refl

-- what is set shows in its own bank, and the other banks show what they showed
priority_set : (p : attributes.Priority) (b : Bank) (r : InterruptRecord) → shown b (applied (SetPriority p) r) ≡ cond (alike (Replace Priority) b) p.0 (shown b r)
priority_set p (Set g) r = rw (field_apart Priority g) (shown-after (Set g) (SetPriority p) r ∙ flag_kept g _ r)
priority_set p (Clear g) r = rw (field_apart Priority g) (shown-after (Set g) (SetPriority p) r ∙ flag_kept g _ r)
priority_set p (Replace Group) r = shown-after (Replace Group) (SetPriority p) r
priority_set p (Replace Priority) r = shown-after (Replace Priority) (SetPriority p) r
priority_set p (Replace Configuration) r = shown-after (Replace Configuration) (SetPriority p) r
priority_set p (Replace Route) r = shown-after (Replace Route) (SetPriority p) r ∙ route_shown (made r.life (settings_after (SetPriority p) r) r) ∙ sym (route_shown r)

trigger_set : (t : TriggerMode) (b : Bank) (r : InterruptRecord) → shown b (applied (SetTrigger t) r) ≡ cond (alike (Replace Configuration) b) (edge_field t) (shown b r)
trigger_set t (Set g) r = rw (field_apart Configuration g) (shown-after (Set g) (SetTrigger t) r ∙ flag_kept g _ r)
trigger_set t (Clear g) r = rw (field_apart Configuration g) (shown-after (Set g) (SetTrigger t) r ∙ flag_kept g _ r)
trigger_set t (Replace Group) r = shown-after (Replace Group) (SetTrigger t) r
trigger_set t (Replace Priority) r = shown-after (Replace Priority) (SetTrigger t) r
trigger_set t (Replace Configuration) r = shown-after (Replace Configuration) (SetTrigger t) r
trigger_set t (Replace Route) r = shown-after (Replace Route) (SetTrigger t) r ∙ route_shown (made r.life (settings_after (SetTrigger t) r) r) ∙ sym (route_shown r)

route_set_lem : (a : GicAffinity) (b : Bank) (r : InterruptRecord) → shown b (applied (SetRoute a) r) ≡ cond (alike (Replace Route) b) (mpidr_of a) (shown b r)
route_set_lem a (Set g) r = rw (field_apart Route g) (shown-after (Set g) (SetRoute a) r ∙ flag_kept g _ r)
route_set_lem a (Clear g) r = rw (field_apart Route g) (shown-after (Set g) (SetRoute a) r ∙ flag_kept g _ r)
route_set_lem a (Replace Group) r = shown-after (Replace Group) (SetRoute a) r
route_set_lem a (Replace Priority) r = shown-after (Replace Priority) (SetRoute a) r
route_set_lem a (Replace Configuration) r = shown-after (Replace Configuration) (SetRoute a) r
route_set_lem a (Replace Route) r = shown-after (Replace Route) (SetRoute a) r ∙ route_shown (made r.life (settings_after (SetRoute a) r) r)

-- a field
module _ (v : ℕ) (b : Bank) (r : InterruptRecord) where
  -- what bank b shows after a write to the bank of x
  abbrev written_shows : Bool → Field → ℕ
  written_shows fixed x = shown b (after_effect (cond (acts (Replace x) v) (effect_of fixed (Replace x) v) leave) r)

  -- the written bank shows w, and no write to a field makes pending
  own_row : (fixed : Bool) (x : Field) {w : ℕ} → written_shows fixed x ≡ cond (alike (Replace x) b) w (shown b r) → w ≡ itself_then fixed (Replace x) v (shown b r)
      → written_shows fixed x ≡ shows_then (line r.life) (is_level r) fixed (Replace x) v b (shown b r)
  own_row fixed x d e = d ∙ (rw (e, and-false (eqb v 1 && alike ISPENDR b)))

  field_row : (fixed : Bool) (x : Field) → v < 2 ^ bits_of (Replace x) → written_shows fixed x ≡ shows_then (line r.life) (is_level r) fixed (Replace x) v b (shown b r)
  field_row fixed Group h = own_row fixed Group (none_row (alike (Replace Group) b) refl) refl
  field_row fixed Priority h = own_row fixed Priority (priority_set _ b r) (omega arith)
  field_row fixed Configuration h = own_row fixed Configuration (trigger_set _ b r) (upper_bit v h)
  field_row true Route h = own_row true Route (none_row (alike (Replace Route) b) refl) refl
  field_row false Route h = own_row false Route (route_set_lem _ b r) (mpidr_from_mpidr v)

-- a written field of an owned SPI, as a bank shows it
pub record_row : (fixed : Bool) (a : Bank) (v : ℕ) (b : Bank) (r : InterruptRecord) → v < 2 ^ bits_of a
    → shown b (after_effect (cond (acts a v) (effect_of fixed a v) leave) r) ≡ shows_then (line r.life) (is_level r) fixed a v b (shown b r)
record_row fixed (Set f) zero b r h = none_row (alike (Set f) b) (omega arith)
record_row fixed (Set f) (suc zero) (Set g) r h = flag_row true f g fixed r
record_row fixed (Set f) (suc zero) (Clear g) r h = flag_row true f g fixed r
record_row fixed (Set f) (suc zero) (Replace x) r h = field_still true f x fixed r
record_row fixed (Set f) (suc (suc v)) b r h = absurd (omega arith)
record_row fixed (Clear f) zero b r h = none_row (alike (Clear f) b) (omega arith)
record_row fixed (Clear f) (suc zero) (Set g) r h = flag_row false f g fixed r
record_row fixed (Clear f) (suc zero) (Clear g) r h = flag_row false f g fixed r
record_row fixed (Clear f) (suc zero) (Replace x) r h = field_still false f x fixed r
record_row fixed (Clear f) (suc (suc v)) b r h = absurd (omega arith)
record_row fixed (Replace x) v b r h = field_row v b r fixed x h

-- what a field does is its row if it acts, and nothing otherwise
pub effect_chosen : (c : Bool) (e : Effect) (l : Bool) → (cond c (record { effect = e; lists = l }) untouched).effect ≡ cond c e leave
effect_chosen true e l = refl
effect_chosen false e l = refl

pub lists_chosen : (c : Bool) (e : Effect) (l : Bool) → (cond c (record { effect = e; lists = l }) untouched).lists ≡ (c && l)
lists_chosen true e l = refl
lists_chosen false e l = refl

pub can_list_lem : (a : Bank) (v : ℕ) → (acts a v && lists a) ≡ can_list a v
can_list_lem (Set Enabled) v = and-true (eqb v 1)
can_list_lem (Set Pending) v = and-true (eqb v 1)
can_list_lem (Set Active) v = and-false (eqb v 1)
can_list_lem (Clear Enabled) v = and-false (eqb v 1)
can_list_lem (Clear Pending) v = and-false (eqb v 1)
can_list_lem (Clear Active) v = and-true (eqb v 1)
can_list_lem (Replace Group) v = refl
can_list_lem (Replace Priority) v = refl
can_list_lem (Replace Configuration) v = refl
can_list_lem (Replace Route) v = refl
