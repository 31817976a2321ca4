-- One SPI: its record, its claim and its fixed mark; what a bank shows of it, and what a written field and a change of the host make
-- of it.
use Rattle.std.specs.Prelude.{ℕ, Bool, ◌&&◌, cond}
use Rattle.identifiers.specs.declared.types.IntId.{IntId}
use Rattle.attributes.specs.declared.attributes.TriggerMode.{TriggerMode}
use Rattle.interrupt.specs.declared.interrupt.InterruptRecord.{InterruptRecord}
use Rattle.interrupt.specs.Records.{fresh, deliverable_in}
use Rattle.operation.specs.Operation.{applied}
use Rattle.bank.specs.declared.bank.Bank.{Bank}
use Rattle.bank.specs.Banks.{shown}
use Rattle.ownership.specs.Owned.{unclaimed, visible}
use Rattle.slot.specs.Effects.{Effect, leave, apply, written}
use Rattle.changes.specs.declared.change.Change.{Change}
use Rattle.changes.specs.Changes.{happens, ownership_after, record_after}
use Rattle.slot.specs.declared.slot.Slot.{Slot}

-- a new SPI is level-sensitive and unclaimed
abbrev pub fresh_spi : ℕ → Slot
fresh_spi raw = record { interrupt = fresh (IntId.Spi (record { 0 = raw })) TriggerMode.Level; ownership = unclaimed }

-- ---- the guest

-- what an SPI shows: nothing where it is not owned
abbrev pub showing : Bool → Bank → Slot → ℕ
showing explicit b s = visible explicit s.ownership (shown b s.interrupt)

abbrev pub after_effect : Effect → InterruptRecord → InterruptRecord
after_effect leave r = r
after_effect (apply o) r = applied o r

abbrev pub effected : Effect → Slot → Slot
effected e s = record { interrupt = after_effect e s.interrupt; ownership = s.ownership }

-- what a field leaves of an SPI
abbrev pub field_written : Bool → Bank → ℕ → Slot → Slot
field_written explicit b v s = effected (written explicit s.ownership b v).effect s

-- listed is what the field touched, in a bank that lists, and what is deliverable then
abbrev pub field_listed : Bool → Bank → ℕ → Slot → Bool
field_listed explicit b v s = (written explicit s.ownership b v).lists && deliverable_in (field_written explicit b v s).interrupt

-- ---- the host

abbrev pub changed : Change → Slot → Slot
changed h s = cond (happens h s.ownership) (record { interrupt = record_after h s.interrupt; ownership = ownership_after h s.ownership }) s
