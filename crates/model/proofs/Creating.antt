-- A new Distributor has a new SPI for each INTID of its table.
use Rattle.std.specs.Prelude.{ℕ, ◌+◌, ◌-◌, ◌≡◌, true, [], ◌∷◌}
use Rattle.std.proofs.Common.{ap, ◌∙◌, arith}
use Rattle.theory.specs.ListLaws.{get_or-tabulate}
use Rattle.identifiers.specs.Answer.{done, raw_of}
use Rattle.interrupt.specs.Records.{fresh}
use Rattle.place.specs.Table.{capacity, table_size, in_table}
use Rattle.place.specs.TableLaws.{in_range}
use Rattle.controller.specs.declared.controller.ControllerConfig.{ControllerConfig}
use Rattle.slot.specs.Slots.{fresh_spi}
use Rattle.slot.specs.BankRule.{slot_of}
use Rattle.slot.specs.NoSlot.{no_slot}
use Rattle.slot.specs.declared.slot.Slot.{Slot}
use Rattle.spi.specs.declared.question.Question.TheVariants.{Intid}
use Rattle.model.specs.Calls.{ask, created, reply}

module _ (c : ControllerConfig) (n : ℕ) where
  module _ (i : ℕ) (here : in_table (table_size n) i ≡ true) where
    pub created_slot : slot_of (created c n).slots i ≡ fresh_spi i
    created_slot =
        let (low, high) = in_range (table_size n) i here in
        let at : 32 + (0 + (i - 32)) ≡ i = omega arith in
        get_or-tabulate (λ p. fresh_spi (32 + p)) 0 capacity (i - 32) no_slot (omega arith) ∙ ap fresh_spi at

    -- which tells its own INTID
    pub created_intid : (reply (ask Intid i) (created c n)).answer ≡ done (i ∷ [])
    unfolding reply fresh
    created_intid = rw here (ap (λ (s : Slot). done (raw_of s.interrupt.intid ∷ [])) created_slot)
