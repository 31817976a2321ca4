-- What the guest reads of an SPI after a write, in the words of Arm's manual and of the base. It speaks of banks alone and of no
-- operation.
use Rattle.std.specs.Prelude.{ℕ, ◌+◌, ◌-◌, ◌*◌, ◌/◌, ◌%◌, ◌^◌, max, Bool, true, false, not, ◌&&◌, cond, eqb}
use Rattle.bank.specs.declared.bank.Flag.{Flag}
use Rattle.bank.specs.declared.bank.Flag.TheVariants.{Enabled, Pending, Active}
use Rattle.bank.specs.declared.bank.Field.{Field}
use Rattle.bank.specs.declared.bank.Field.TheVariants.{Group, Priority, Configuration, Route}
use Rattle.bank.specs.declared.bank.Bank.{Bank}
use Rattle.bank.specs.declared.bank.Bank.TheVariants.{Set, Clear, Replace}
use Rattle.bank.specs.RowLaws.{ISENABLER, ISPENDR}
use Rattle.slot.specs.declared.slot.Slot.{Slot}
use Rattle.slot.specs.Slots.{showing}

-- what a bank is about: GICD_IS..R<n> and GICD_IC..R<n> are about one flag, the other banks each about a field of its own
abbrev pub flag_number : Flag → ℕ
flag_number Enabled = 0
flag_number Pending = 1
flag_number Active = 2

abbrev pub field_number : Field → ℕ
field_number Group = 3
field_number Priority = 4
field_number Configuration = 5
field_number Route = 6

abbrev pub about : Bank → ℕ
about (Set f) = flag_number f
about (Clear f) = flag_number f
about (Replace x) = field_number x

abbrev pub alike : Bank → Bank → Bool
alike a b = eqb (about a) (about b)

-- what a bank shows after v was written to it, where it showed `old`: GICD_IS..R<n> adds the bits that are 1, GICD_IC..R<n> takes them
-- away; GICD_IGROUPR<n> ignores writes; GICD_ICFGR<n> keeps the upper bit of two; GICD_IROUTER<n> keeps bits 39..32 and 23..0, and a
-- fixed route stays
abbrev pub itself_then : (fixed : Bool) → Bank → ℕ → ℕ → ℕ
itself_then fixed (Set f) v old = max old v
itself_then fixed (Clear f) v old = old - v
itself_then fixed (Replace Group) v old = old
itself_then fixed (Replace Priority) v old = v
itself_then fixed (Replace Configuration) v old = 2 * (v / 2)
itself_then fixed (Replace Route) v old = cond fixed old (v / 2 ^ 32 % 256 * 2 ^ 32 + v % 2 ^ 24)

-- the two writes that make an SPI pending besides, by the base's rule: a 1 to GICD_ISENABLER<n> under a high line, and a 1 to
-- GICD_ICACTIVER<n> under a high line of a level-sensitive SPI
abbrev pub pends_under : (line level : Bool) → Bank → Bool
pends_under line level (Set Enabled) = line
pends_under line level (Set Pending) = false
pends_under line level (Set Active) = false
pends_under line level (Clear Enabled) = false
pends_under line level (Clear Pending) = false
pends_under line level (Clear Active) = level && line
pends_under line level (Replace x) = false

-- what bank b shows after v was written to bank a, where it showed `old`: apart from those two, a write shows only in the banks that are
-- about the same
abbrev pub shows_then : (line level fixed : Bool) → (a : Bank) → (v : ℕ) → (b : Bank) → (old : ℕ) → ℕ
shows_then line level fixed a v b old =
    cond (alike a b) (itself_then fixed a v old) (cond (eqb v 1 && alike ISPENDR b && pends_under line level a) 1 old)

-- what no bank shows: whether the SPI is in flight, its redelivery mark, its line, and its target mask. One write drops the mark, a 1 to
-- GICD_ICPENDR<n>; and one the target mask, to GICD_IROUTER<n> where the route is not fixed. No write sets either
abbrev pub drops_mark : Bank → ℕ → Bool
drops_mark (Set f) v = false
drops_mark (Clear Enabled) v = false
drops_mark (Clear Pending) v = eqb v 1
drops_mark (Clear Active) v = false
drops_mark (Replace x) v = false

abbrev pub drops_mask : (fixed : Bool) → Bank → Bool
drops_mask fixed (Set f) = false
drops_mask fixed (Clear f) = false
drops_mask fixed (Replace Group) = false
drops_mask fixed (Replace Priority) = false
drops_mask fixed (Replace Configuration) = false
drops_mask fixed (Replace Route) = not fixed

-- the writes that can list: a 1 to GICD_ISENABLER<n>, GICD_ISPENDR<n> or GICD_ICACTIVER<n>, and every write to GICD_IROUTER<n>
abbrev pub can_list : Bank → ℕ → Bool
can_list (Set Enabled) v = eqb v 1
can_list (Set Pending) v = eqb v 1
can_list (Set Active) v = false
can_list (Clear Enabled) v = false
can_list (Clear Pending) v = false
can_list (Clear Active) v = eqb v 1
can_list (Replace Group) v = false
can_list (Replace Priority) v = false
can_list (Replace Configuration) v = false
can_list (Replace Route) v = true

-- the guest reads that the SPI is enabled and pending
abbrev pub reads_deliverable : Bool → Slot → Bool
reads_deliverable explicit s = eqb (showing explicit ISENABLER s) 1 && eqb (showing explicit ISPENDR s) 1
