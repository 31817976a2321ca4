-- The banks of registers. A bank is what it shows of a record, which written fields act, whether a write lists candidates, and what
-- is refused beyond the table. Arm pairs them: two banks show one flag, and a write to the one sets it, to the other clears it.
--
--     ISENABLER  Set Enabled     ICENABLER  Clear Enabled     IGROUPR     Replace Group
--     ISPENDR    Set Pending     ICPENDR    Clear Pending     IPRIORITYR  Replace Priority
--     ISACTIVER  Set Active      ICACTIVER  Clear Active      ICFGR       Replace Configuration
--                                                             IROUTER     Replace Route
use Rattle.std.specs.Prelude.{ℕ, zero, suc, ◌-◌, ◌*◌, ◌+◌, ◌/◌, ◌%◌, ◌^◌, Bool, true, false, not, ◌&&◌, cond, List, [], ◌∷◌, leb, eqb, Option, Some, None}
use mir.Val.{bool_byte}
use Rattle.std.specs.Int.Count.{count_trailing_zeros}
use Rattle.place.specs.Table.{beyond_table}
use Rattle.attributes.specs.Affinity.{mpidr_of}
use Rattle.interrupt.specs.Records.{route_in}
use Rattle.attributes.specs.declared.attributes.TriggerMode.{TriggerMode}
use Rattle.interrupt.specs.declared.interrupt.InterruptRecord.{InterruptRecord}
use Rattle.bank.specs.declared.bank.Flag.{Flag}
use Rattle.bank.specs.declared.bank.Flag.TheVariants.{Enabled, Pending, Active}
use Rattle.bank.specs.declared.bank.Field.{Field}
use Rattle.bank.specs.declared.bank.Field.TheVariants.{Group, Priority, Configuration}
use Rattle.bank.specs.declared.bank.FieldRule.{FieldRule}
use Rattle.bank.specs.declared.bank.Bank.{Bank}
use Rattle.bank.specs.declared.bank.Bank.TheVariants.{Set, Clear, Replace}
use Rattle.attributes.specs.declared.attributes.GicAffinity.{GicAffinity}

-- ---- a row for each field and each flag

abbrev pub rule : ℕ → Bool → Bool → Bool → Bool → FieldRule
rule k w l r i = record { bits = k; takes_writes = w; lists = l; refuses_reads = r; ignores_beyond = i }

-- the bits for each INTID; whether writes are taken; whether they list; and, beyond the table, by the base's rule, whether reads are
-- refused and writes ignored. IGROUPR ignores writes, by the base's rule
abbrev pub rule_of : Field → FieldRule
rule_of Group = rule 1 false false false false
rule_of Priority = rule 8 true false true false
rule_of Configuration = rule 2 true false true false
rule_of Field.Route = rule 64 true true false true

-- whether setting a flag lists, and whether clearing it does. An SPI that is no longer active may be delivered again
abbrev pub set_lists : Flag → Bool
set_lists Enabled = true
set_lists Pending = true
set_lists Active = false

abbrev pub clear_lists : Flag → Bool
clear_lists Enabled = false
clear_lists Pending = false
clear_lists Active = true

-- ---- what an owned SPI shows

abbrev pub bit : Bool → ℕ
bit b = bool_byte b

abbrev pub route_bits : Option GicAffinity → ℕ
route_bits (Some a) = mpidr_of a
route_bits None = 0

-- ICFGR: 2 for edge, 0 for level; of a written field the upper bit of the two says edge
abbrev pub edge_field : TriggerMode → ℕ
edge_field TriggerMode.Edge = 2
edge_field TriggerMode.Level = 0

abbrev pub trigger_in : ℕ → TriggerMode
trigger_in v = cond (leb 2 v) TriggerMode.Edge TriggerMode.Level

abbrev pub flag_in : Flag → InterruptRecord → Bool
flag_in Enabled r = r.life.enabled
flag_in Pending r = r.life.pending
flag_in Active r = r.life.active

-- IGROUPR shows that the SPI is owned, by the base's rule
abbrev pub field_in : Field → InterruptRecord → ℕ
field_in Group r = 1
field_in Priority r = r.priority.0
field_in Configuration r = edge_field r.trigger
field_in Field.Route r = route_bits (route_in r)

-- ---- the banks

abbrev pub bits_of : Bank → ℕ
bits_of (Set f) = 1
bits_of (Clear f) = 1
bits_of (Replace x) = (rule_of x).bits

abbrev pub shown : Bank → InterruptRecord → ℕ
shown (Set f) r = bit (flag_in f r)
shown (Clear f) r = bit (flag_in f r)
shown (Replace x) r = field_in x r

-- which written fields act: of a flag a 1, of the others every one
abbrev pub acts : Bank → ℕ → Bool
acts (Set f) v = eqb v 1
acts (Clear f) v = eqb v 1
acts (Replace x) v = (rule_of x).takes_writes

-- whether a write lists the SPIs that it touched and that are deliverable then
abbrev pub lists : Bank → Bool
lists (Set f) = set_lists f
lists (Clear f) = clear_lists f
lists (Replace x) = (rule_of x).lists

-- whether a read is refused beyond the table: a flag there shows 0
abbrev pub read_refuses : Bank → Bool
read_refuses (Set f) = false
read_refuses (Clear f) = false
read_refuses (Replace x) = (rule_of x).refuses_reads

-- and whether a written field is: one that acts, unless the bank ignores what it has no SPI for
abbrev pub ignores_beyond : Bank → Bool
ignores_beyond (Set f) = false
ignores_beyond (Clear f) = false
ignores_beyond (Replace x) = (rule_of x).ignores_beyond

abbrev pub write_refuses : Bank → ℕ → Bool
write_refuses b v = not (ignores_beyond b) && acts b v

-- ---- fields: those of the INTIDs from lo on, the lowest INTID in the lowest bits

-- the field for INTID i in a value whose lowest field is INTID lo's
abbrev pub field : Bank → ℕ → ℕ → ℕ → ℕ
field b v lo i = v / (2 ^ bits_of b) ^ (i - lo) % 2 ^ bits_of b

-- how many of a value's lowest fields are passed over, since they do not act: of flags, the zeros below the lowest 1
abbrev pub idle_fields : Bank → ℕ → ℕ
idle_fields (Set f) v = count_trailing_zeros 64 v
idle_fields (Clear f) v = count_trailing_zeros 64 v
idle_fields (Replace x) v = cond (rule_of x).takes_writes 0 64

-- an INTID over which a write of the value v is refused
abbrev pub refused_over : Bool → ℕ → Bank → ℕ → ℕ → ℕ → Bool
refused_over explicit n b v lo i = write_refuses b (field b v lo i) && beyond_table explicit n i

-- m fields packed into one number
abbrev pub packed : Bank → (ℕ → ℕ) → ℕ → ℕ → ℕ
packed b t lo zero = 0
packed b t lo (suc m) = packed b t (suc lo) m * 2 ^ bits_of b + t lo

-- the first of a list, if it has one
abbrev pub first_of : List ℕ → List ℕ
first_of [] = []
first_of (i ∷ is) = i ∷ []

abbrev pub told_beyond : Option ℕ → List ℕ
told_beyond None = []
told_beyond (Some i) = i ∷ []

-- whether a write lists candidates: not where it is refused
abbrev pub lists_unless : Option ℕ → Bool
lists_unless None = true
lists_unless (Some i) = false
