-- A call keeps what it does not name.
use Prim.Native.Nat.{ℕ, ◌+◌, ◌-◌, ◌≤◌}
use Rattle.std.specs.Prelude.{◌≡◌, Bool, true, false, ◌&&◌, cond, leb, Ok, Err}
use Rattle.std.proofs.Math.Path.{refl, ap}
use Rattle.std.proofs.Common.{◌∙◌, true≢false, arith, leb-true}
use Rattle.std.proofs.Math.Option.{Option, none, some, map}
use Rattle.std.proofs.Math.ListN.{get_elem?}
use Rattle.theory.specs.Elements.{at-map_at}
use Rattle.controller.specs.declared.controller.ControllerConfig.{ControllerConfig}
use Rattle.slot.specs.declared.slot.Slot.{Slot}
use Rattle.controller.specs.Modes.{explicit}
use Rattle.bank.specs.Banks.{acts, lists, field}
use Rattle.registers.specs.declared.register.Register.TheVariants.{Identification, Ctlr, Typer, Iidr, Fields, Reserved}
use Rattle.decoding.specs.Decoding.{write_access}
use Rattle.ownership.specs.Owned.{owned}
use Rattle.slot.specs.Effects.{FieldEffect, effect_of, untouched}
use Rattle.slot.specs.Slots.{effected}
use Rattle.slot.specs.BankRule.{covers}
use Rattle.model.specs.Calls.{Distributor, Call, create, read, write, is_switched_on, rollback, change, ask, size, written_at, slot_after, switched, switch_after, step}
use Rattle.order.specs.Names.{Name, the_switch, spi, write_names, names}
use Rattle.order.specs.OrderFacts.{contents}
use Rattle.registers.specs.Registers.{Access}

-- a field that is not covered, or does not act, leaves the slot
unwritten : (covered acting own : Bool) (does : FieldEffect) (s : Slot) → (covered && acting) ≡ false
    → cond covered (effected (cond (acting && own) does untouched).effect s) s ≡ s
unwritten true true own does s e = absurd (true≢false e)
unwritten true false own does s e = refl
unwritten false acting own does s e = refl

module _ (c : ControllerConfig) (n : ℕ) where
  write_switch : (a : Access) (v : ℕ) (on : Bool) → write_names n a v the_switch ≡ false → switched c n a v on ≡ on
  write_switch (Err f) v on e = refl
  write_switch (Ok (Identification k)) v on e = refl
  write_switch (Ok Ctlr) v on e = absurd (true≢false e)
  write_switch (Ok Typer) v on e = refl
  write_switch (Ok Iidr) v on e = refl
  write_switch (Ok (Fields b lo m)) v on e = refl
  write_switch (Ok Reserved) v on e = refl

  switch_kept : (k : Call) (on : Bool) → names c n k the_switch ≡ false → switch_after c n k on ≡ on
  unfolding names
  switch_kept (create d m) on e = refl
  switch_kept (read offset w) on e = refl
  switch_kept (write offset w v places) on e = write_switch (write_access places n c.distributor_size offset w) v on e
  switch_kept is_switched_on on e = refl
  switch_kept (rollback to) on e = absurd (true≢false e)
  switch_kept (change h raw) on e = refl
  switch_kept (ask q raw) on e = refl

  write_slot : (a : Access) (v i : ℕ) (s : Slot) → write_names n a v (spi i) ≡ false → written_at c n a v i s ≡ s
  write_slot (Err f) v i s e = refl
  write_slot (Ok (Identification k)) v i s e = refl
  write_slot (Ok Ctlr) v i s e = refl
  write_slot (Ok Typer) v i s e = refl
  write_slot (Ok Iidr) v i s e = refl
  write_slot (Ok (Fields b lo m)) v i s e =
      let f = field b v lo i in
      unwritten (covers n lo m i) (acts b f) (owned (explicit c.spi_ownership) s.ownership) (record { effect = effect_of s.ownership.fixed_route b f; lists = lists b }) s e
  write_slot (Ok Reserved) v i s e = refl

  slot_kept : (k : Call) (i : ℕ) (s : Slot) → names c n k (spi i) ≡ false → slot_after c n k i s ≡ s
  unfolding names
  slot_kept (create d m) i s e = refl
  slot_kept (read offset w) i s e = refl
  slot_kept (write offset w v places) i s e = write_slot (write_access places n c.distributor_size offset w) v i s e
  slot_kept is_switched_on i s e = refl
  slot_kept (rollback to) i s e = refl
  slot_kept (change h raw) i s e = rw e
  slot_kept (ask q raw) i s e = refl

pub keeps : (k : Call) (m : Name) (d : Distributor) → names d.config (size d) k m ≡ false → contents m (step k d) ≡ contents m d
unfolding step
keeps k the_switch d e = switch_kept d.config (size d) k d.switch e
keeps k (spi i) d e = go (leb 32 i) refl
  where
    f : ℕ → Slot → Slot
    f p = slot_after d.config (size d) k (32 + p)

    still : 32 ≤ i → (o : Option Slot) → map (f (i - 32)) o ≡ o
    still h none = refl
    still h (some s) =
        let z : 32 + (i - 32) ≡ i = omega arith in
        ap {B = Option Slot} (λ (j : ℕ). some (slot_after d.config (size d) k j s)) z ∙ ap {B = Option Slot} some (slot_kept d.config (size d) k i s e)

    go : (b : Bool) → leb 32 i ≡ b → cond b (get_elem? (step k d).slots (i - 32)) none ≡ cond b (get_elem? d.slots (i - 32)) none
    go true h = at-map_at f d.slots (i - 32) ∙ still (leb-true 32 i h) (get_elem? d.slots (i - 32))
    go false h = refl
