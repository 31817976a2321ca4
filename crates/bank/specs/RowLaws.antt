-- The rows of the banks in the guest's words: each law says what Arm's manual, or the base's rule, says of a bank by its name. A row
-- that is wrong in the definitions and in the code alike breaks one of them.
use Rattle.std.specs.Prelude.{ℕ, zero, suc, ◌*◌, ◌/◌, ◌<◌, ◌≡◌, refl, Bool, true, false, ◌&&◌, cond, eqb, Some, None, Option, unwrap_or, option_map}
use mathlib.Core.List.{List, [], ◌∷◌, map, Memᴰ}
use Rattle.std.proofs.Common.{arith}
use Rattle.attributes.specs.Affinity.{mpidr_of}
use Rattle.attributes.specs.declared.attributes.Priority as attributes
use Rattle.attributes.specs.declared.attributes.TriggerMode.{TriggerMode}
use Rattle.life.specs.Life.{enabled_to, active_to}
use Rattle.interrupt.specs.Records.{with_life, line_pulsed, deliverable_in, priority_to, trigger_to, route_in}
use Rattle.interrupt.specs.declared.interrupt.InterruptRecord.{InterruptRecord}
use Rattle.bank.specs.declared.bank.Flag.{Flag}
use Rattle.bank.specs.declared.bank.Flag.TheVariants.{Enabled, Pending, Active}
use Rattle.bank.specs.declared.bank.Field.{Field}
use Rattle.bank.specs.declared.bank.Field.TheVariants.{Group, Priority, Configuration}
use Rattle.bank.specs.declared.bank.Bank.{Bank}
use Rattle.bank.specs.declared.bank.Bank.TheVariants.{Set, Clear, Replace}
use Rattle.bank.specs.Banks.{bit, route_bits, edge_field, trigger_in, bits_of, shown, acts, lists, read_refuses, write_refuses}
use Rattle.attributes.specs.declared.attributes.GicAffinity.{GicAffinity}

-- ---- the ten banks

abbrev pub IGROUPR : Bank
IGROUPR = Replace Group

abbrev pub ISENABLER : Bank
ISENABLER = Set Enabled

abbrev pub ICENABLER : Bank
ICENABLER = Clear Enabled

abbrev pub ISPENDR : Bank
ISPENDR = Set Pending

abbrev pub ICPENDR : Bank
ICPENDR = Clear Pending

abbrev pub ISACTIVER : Bank
ISACTIVER = Set Active

abbrev pub ICACTIVER : Bank
ICACTIVER = Clear Active

abbrev pub IPRIORITYR : Bank
IPRIORITYR = Replace Priority

abbrev pub ICFGR : Bank
ICFGR = Replace Configuration

abbrev pub IROUTER : Bank
IROUTER = Replace Field.Route

-- in the order of Arm's map
abbrev pub banks : List Bank
banks = IGROUPR ∷ ISENABLER ∷ ICENABLER ∷ ISPENDR ∷ ICPENDR ∷ ISACTIVER ∷ ICACTIVER ∷ IPRIORITYR ∷ ICFGR ∷ IROUTER ∷ []

-- there are no others
pub no_others : (b : Bank) → Memᴰ b banks
no_others (Replace Group) = Memᴰ.head refl
no_others (Set Enabled) = search (Memᴰ.head, Memᴰ.tail) depth 12
no_others (Clear Enabled) = search (Memᴰ.head, Memᴰ.tail) depth 12
no_others (Set Pending) = search (Memᴰ.head, Memᴰ.tail) depth 12
no_others (Clear Pending) = search (Memᴰ.head, Memᴰ.tail) depth 12
no_others (Set Active) = search (Memᴰ.head, Memᴰ.tail) depth 12
no_others (Clear Active) = search (Memᴰ.head, Memᴰ.tail) depth 12
no_others (Replace Priority) = search (Memᴰ.head, Memᴰ.tail) depth 12
no_others (Replace Configuration) = search (Memᴰ.head, Memᴰ.tail) depth 12
no_others (Replace Field.Route) = search (Memᴰ.head, Memᴰ.tail) depth 12

abbrev pub among : (Bank → Bool) → List Bank → List Bank
among t [] = []
among t (b ∷ bs) = cond (t b) (b ∷ among t bs) (among t bs)

-- those of the ten that pass a test
abbrev pub those : (Bank → Bool) → List Bank
those t = among t banks

-- ---- what holds of a bank whoever's the interrupt is

-- the bits for each INTID
pub field-bits : map bits_of banks ≡ 1 ∷ 1 ∷ 1 ∷ 1 ∷ 1 ∷ 1 ∷ 1 ∷ 8 ∷ 2 ∷ 64 ∷ []
field-bits = refl

-- which banks list what they touched
pub listing-banks : those lists ≡ ISENABLER ∷ ISPENDR ∷ ICACTIVER ∷ IROUTER ∷ []
listing-banks = refl

-- a 0 in a flag bank does nothing, a 1 acts; of the other banks IGROUPR takes no write and the rest every one
pub acting_0 : those (λ b. acts b 0) ≡ IPRIORITYR ∷ ICFGR ∷ IROUTER ∷ []
acting_0 = refl

pub acting_1 : those (λ b. acts b 1) ≡ ISENABLER ∷ ICENABLER ∷ ISPENDR ∷ ICPENDR ∷ ISACTIVER ∷ ICACTIVER ∷ IPRIORITYR ∷ ICFGR ∷ IROUTER ∷ []
acting_1 = refl

pub acting_any : (x : Field) (v w : ℕ) → acts (Replace x) v ≡ acts (Replace x) w
acting_any x v w = refl

-- beyond the table: reads are refused by two banks, and a field that acts by all but IROUTER
pub refusing_reads : those read_refuses ≡ IPRIORITYR ∷ ICFGR ∷ []
refusing_reads = refl

pub refusing_0 : those (λ b. write_refuses b 0) ≡ IPRIORITYR ∷ ICFGR ∷ []
refusing_0 = refl

pub refusing_1 : those (λ b. write_refuses b 1) ≡ ISENABLER ∷ ICENABLER ∷ ISPENDR ∷ ICPENDR ∷ ISACTIVER ∷ ICACTIVER ∷ IPRIORITYR ∷ ICFGR ∷ []
refusing_1 = refl

-- ---- what a bank shows

-- the two banks of a flag show the same
pub pair_shown : (f : Flag) (r : InterruptRecord) → shown (Set f) r ≡ shown (Clear f) r
pair_shown f r = refl

pub group_shown : (r : InterruptRecord) → shown IGROUPR r ≡ 1
group_shown r = refl

pub enabled_shown : (on : Bool) (r : InterruptRecord) → shown ISENABLER (with_life (enabled_to on r.life) r) ≡ bit on
unfolding with_life
enabled_shown on r = refl

pub pulsed-shown : (r : InterruptRecord) → shown ISPENDR (line_pulsed r) ≡ 1
unfolding with_life line_pulsed
pulsed-shown r = refl

pub active_shown : (on : Bool) (r : InterruptRecord) → shown ISACTIVER (with_life (active_to on r.life) r) ≡ bit on
unfolding with_life
active_shown on r = refl

-- an interrupt is deliverable exactly when ISENABLER and ISPENDR show 1
pub deliverable-shown : (r : InterruptRecord) → deliverable_in r ≡ (eqb (shown ISENABLER r) 1 && eqb (shown ISPENDR r) 1)
unfolding deliverable_in
deliverable-shown r = go r.life.enabled r.life.pending
  where
    go : (e p : Bool) → (e && p) ≡ (eqb (bit e) 1 && eqb (bit p) 1)
    go true true = refl
    go true false = refl
    go false p = refl

pub priority_shown : (p : attributes.Priority) (r : InterruptRecord) → shown IPRIORITYR (priority_to p r) ≡ p.0
unfolding priority_to
priority_shown p r = refl

-- ICFGR shows 2 for an edge, and of a written field its upper bit alone
pub edge_shown : (r : InterruptRecord) → shown ICFGR (trigger_to TriggerMode.Edge r) ≡ 2
unfolding trigger_to
edge_shown r = refl

pub upper_bit : (v : ℕ) → v < 4 → edge_field (trigger_in v) ≡ 2 * (v / 2)
upper_bit zero h = refl
upper_bit (suc zero) h = refl
upper_bit (suc (suc zero)) h = refl
upper_bit (suc (suc (suc zero))) h = refl
upper_bit (suc (suc (suc (suc v)))) h = absurd (omega arith)

-- IROUTER shows the route's affinity, or 0 where there is none
pub route_shown : (r : InterruptRecord) → shown IROUTER r ≡ unwrap_or (option_map mpidr_of r.route) 0
unfolding route_in
route_shown r = go r.route
  where
    go : (o : Option GicAffinity) → route_bits o ≡ unwrap_or (option_map mpidr_of o) 0
    go (Some a) = refl
    go None = refl
