-- What the language reads past the end of an array of slots: every flag off and every number 0. No rule looks there.
use Rattle.std.specs.Prelude.{false, None}
use Rattle.identifiers.specs.declared.types.IntId.{IntId}
use Rattle.attributes.specs.declared.attributes.TriggerMode.{TriggerMode}
use Rattle.life.specs.Life.{flags}
use Rattle.ownership.specs.Owned.{unclaimed}
use Rattle.slot.specs.declared.slot.Slot.{Slot}

abbrev pub no_slot : Slot
no_slot = record { interrupt = record { intid = IntId.Sgi (record { 0 = 0 }); life = flags false false false false false false; priority = record { 0 = 0 }; trigger = TriggerMode.Edge; route = None; cpu_target_mask = None }; ownership = unclaimed }
