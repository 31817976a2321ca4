-- What a call makes of one slot: it leaves it, writes a field, or does a change; and the last two to the table's SPIs alone.
use Rattle.std.specs.Prelude.{ℕ, ◌+◌, ◌≡◌, refl, Bool, true, false, ◌&&◌, cond, eqb, Ok, Err}
use Rattle.std.proofs.Common.{sym, ◌∙◌}
use Rattle.std.proofs.lemmas.Bool.{false≢true}
use Rattle.theory.specs.Bools.{both}
use Rattle.identifiers.specs.Answer.{within}
use Rattle.place.specs.Table.{in_table}
use Rattle.controller.specs.declared.controller.ControllerConfig.{ControllerConfig}
use Rattle.controller.specs.Modes.{explicit}
use Rattle.bank.specs.declared.bank.Bank.{Bank}
use Rattle.bank.specs.Banks.{field}
use Rattle.registers.specs.declared.register.Register.TheVariants.{Identification, Ctlr, Typer, Iidr, Fields, Reserved}
use Rattle.decoding.specs.Decoding.{write_access}
use Rattle.changes.specs.declared.change.Change.{Change}
use Rattle.slot.specs.declared.slot.Slot.{Slot}
use Rattle.slot.specs.Slots.{field_written, changed}
use Rattle.slot.specs.BankRule.{covers}
use Rattle.model.specs.Calls.{Call, create, read, write, is_switched_on, rollback, change, ask, written_at, slot_after}
use Rattle.registers.specs.Registers.{Access}

-- so what holds of a slot holds after a call, if it does after these
module _ (P : Slot → Type 0) (c : ControllerConfig) (n i : ℕ) (s : Slot) (same : P s) where
  if_done : (b : Bool) (t : Slot) → (b ≡ true → P t) → P (cond b t s)
  if_done true t h = h refl
  if_done false t h = same

  module _ (written : in_table n i ≡ true → (e : Bool) (b : Bank) (v : ℕ) → P (field_written e b v s)) where
    write_keeps : (a : Access) (v : ℕ) → P (written_at c n a v i s)
    write_keeps (Err f) v = same
    write_keeps (Ok (Identification k)) v = same
    write_keeps (Ok Ctlr) v = same
    write_keeps (Ok Typer) v = same
    write_keeps (Ok Iidr) v = same
    write_keeps (Ok (Fields b lo m)) v = if_done (covers n lo m i) _ (λ e. written (both (within lo (lo + m) i) _ e).1 (explicit c.spi_ownership) b (field b v lo i))
    write_keeps (Ok Reserved) v = same

    pub call_keeps : (k : Call) → (in_table n i ≡ true → (h : Change) (raw : ℕ) → k ≡ change h raw → P (changed h s)) → P (slot_after c n k i s)
    call_keeps (create d m) done = same
    call_keeps (read offset w) done = same
    call_keeps (write offset w v places) done = write_keeps (write_access places n c.distributor_size offset w) v
    call_keeps is_switched_on done = same
    call_keeps (rollback on) done = same
    call_keeps (change h raw) done = if_done (in_table n i && eqb i raw) (changed h s) (λ e. done (both (in_table n i) _ e).0 h raw refl)
    call_keeps (ask q raw) done = same

-- a call leaves what stands past the table
pub call_past : (c : ControllerConfig) (n i : ℕ) (s : Slot) → in_table n i ≡ false → (k : Call) → slot_after c n k i s ≡ s
call_past c n i s past k = call_keeps (λ t. t ≡ s) c n i s refl (λ e. absurd (false≢true (sym past ∙ e))) k (λ e. absurd (false≢true (sym past ∙ e)))
