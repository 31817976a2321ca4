-- States alike but for the contents of unowned records there are, and a CTLR write tells them apart.
use Rattle.std.specs.Prelude.{ℕ, ◌+◌, ◌-◌, ◌≡◌, refl, Bool, true, false, ◌&&◌, cond, [], ◌∷◌, eqb, get_or}
use Rattle.std.proofs.Common.{sym, ap, ◌∙◌, true≢false, arith, eqb-true}
use Rattle.theory.specs.Bools.{both}
use Rattle.theory.specs.MapAtLaws.{relates_map_at}
use Rattle.interrupt.specs.Records.{fresh, deliverable_in, with_life, line_pulsed, route_to}
use Rattle.operation.specs.declared.operation.Operation.TheVariants.{SetEnabled, Pulse}
use Rattle.controller.specs.Modes.{explicit}
use Rattle.place.specs.Table.{in_table}
use Rattle.ownership.specs.Owned.{owned}
use Rattle.slot.specs.declared.slot.Slot.{Slot}
use Rattle.registers.specs.declared.register.AccessWidth.TheVariants.{Dword}
use Rattle.decoding.specs.Decoding.{decode}
use Rattle.slot.specs.Slots.{changed}
use Rattle.slot.specs.NoSlot.{no_slot}
use Rattle.slot.specs.BankRule.{slot_of}
use Rattle.changes.specs.declared.change.Change.TheVariants.{Operate}
use Rattle.model.specs.Calls.{Distributor, Call, write, change, size, slot_after, step, listing, reply}
use Rattle.order.specs.Isolation.{AlikeSlot, Alike}
use Rattle.examples.specs.Board.{K}

module _ (e : Bool) (s : Slot) where
  alike_itself : AlikeSlot e s s
  alike_itself = record { claim = refl; mark = refl; interrupt = λ own. refl }

  alike-pulsed : owned e s.ownership ≡ false → AlikeSlot e s (changed (Operate Pulse) s)
  alike-pulsed unowned = record { claim = refl; mark = refl; interrupt = λ own. absurd (true≢false (sym own ∙ unowned)) }

-- a pulse on an unowned SPI
pub pulse_alike : (d : Distributor) (raw : ℕ) → owned (explicit d.config.spi_ownership) (slot_of d.slots raw).ownership ≡ false → Alike d (step (change (Operate Pulse) raw) d)
unfolding step
pulse_alike d raw unowned =
    record {
      config = refl;
      switch = refl;
      count = refl;
      slots = λ i.
          relates_map_at (AlikeSlot e) (λ p. slot_after d.config (size d) (change (Operate Pulse) raw) (32 + p)) (i - 32) d.slots no_slot
          (alike_itself e no_slot)
          (there i (in_table (size d) (32 + (i - 32)) && eqb (32 + (i - 32)) raw) refl);
    }
  where
    e : Bool
    e = explicit d.config.spi_ownership

    there : (i : ℕ) (b : Bool) → (in_table (size d) (32 + (i - 32)) && eqb (32 + (i - 32)) raw) ≡ b
        → AlikeSlot e (slot_of d.slots i) (cond b (changed (Operate Pulse) (slot_of d.slots i)) (slot_of d.slots i))
    there i true t =
        let same = eqb-true (32 + (i - 32)) raw (both (in_table (size d) (32 + (i - 32))) _ t).1 in
        let place : raw - 32 ≡ i - 32 = omega arith in
        alike-pulsed e (slot_of d.slots i) (ap (λ (p : ℕ). owned e (get_or d.slots p no_slot).ownership) (sym place) ∙ unowned)
    there i false t = alike_itself e (slot_of d.slots i)

-- K with 34, which nobody has claimed, enabled; and the same with a pulse on it
abbrev Quiet : Distributor
Quiet = step (change (Operate (SetEnabled true)) 34) K

abbrev Pulsed : Distributor
Pulsed = step (change (Operate Pulse) 34) Quiet

abbrev turns_on : Call
turns_on = write 0x0 Dword 2 40

-- alike but for the contents of an unowned record; yet the switch, turned on, lists 34 in the one and nothing in the other
pub switch_sees : Alike Quiet Pulsed
    × (reply turns_on Quiet ≡ listing [])
    × (reply turns_on Pulsed ≡ listing (34 ∷ []))
unfolding step reply decode fresh deliverable_in with_life line_pulsed route_to
switch_sees = (pulse_alike Quiet 34 refl, refl, refl)
