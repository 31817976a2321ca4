-- Two facts on ownership: what a guest write cannot change, and what a guest read cannot see.
use Rattle.std.specs.Prelude.{ℕ, ◌+◌, ◌-◌, ◌≡◌, refl, Bool, true, false, not, ◌&&◌, ◌||◌, cond, List, [], ◌∷◌, Ok, Err}
use Rattle.std.proofs.Common.{sym, ap, ◌∙◌, true≢false}
use Rattle.theory.specs.MapAtLaws.{relates_map_at}
use Rattle.identifiers.specs.Answer.{done, unless}
use Rattle.place.specs.Table.{table_size, in_table}
use Rattle.controller.specs.declared.controller.ControllerConfig.{ControllerConfig}
use Rattle.controller.specs.Modes.{explicit}
use Rattle.bank.specs.declared.bank.Bank.{Bank}
use Rattle.bank.specs.Banks.{shown, acts, lists, field}
use Rattle.bank.specs.BankLaws.{packed_same}
use Rattle.registers.specs.declared.register.AccessWidth.{AccessWidth}
use Rattle.registers.specs.declared.register.Register.TheVariants.{Identification, Ctlr, Typer, Iidr, Fields, Reserved}
use Rattle.registers.specs.declared.register.Direction.TheVariants.{Reading}
use Rattle.decoding.specs.Decoding.{decode, write_access}
use Rattle.slot.specs.declared.slot.Slot.{Slot}
use Rattle.ownership.specs.Owned.{owned}
use Rattle.slot.specs.Effects.{FieldEffect, effect_of, untouched}
use Rattle.slot.specs.Slots.{showing, effected}
use Rattle.slot.specs.NoSlot.{no_slot}
use Rattle.slot.specs.BankRule.{slot_of, covers, shown_at, bank_slot, read_beyond}
use Rattle.model.specs.Calls.{Distributor, read, write, plain, size, written_at, slot_after, step, read_reply, reply}
use Rattle.order.specs.OrderFacts.{state_with}
use Rattle.registers.specs.Registers.{Access}

-- ---- a guest write

-- what a slot was and what it is: the claim and the fixed mark are the same, and all of it is where the SPI is unowned
pub record Spared (explicit : Bool) (was is : Slot) : Type 0 where
  pub claim : is.ownership.explicitly_owned ≡ was.ownership.explicitly_owned
  pub mark : is.ownership.fixed_route ≡ was.ownership.fixed_route
  pub unowned : owned explicit was.ownership ≡ false → is ≡ was

module _ (e : Bool) where
  still : (s : Slot) → Spared e s s
  still s = record { claim = refl; mark = refl; unowned = λ h. refl }

  -- a record may be replaced in an owned slot
  spared : (s t : Slot) → owned e s.ownership ≡ true → t.ownership.explicitly_owned ≡ s.ownership.explicitly_owned → t.ownership.fixed_route ≡ s.ownership.fixed_route → Spared e s t
  spared s t own p q = record { claim = p; mark = q; unowned = λ h. absurd (true≢false (sym own ∙ h)) }

  bank_spares : (n : ℕ) (b : Bank) (v lo m i : ℕ) (s : Slot) → Spared e s (bank_slot e n b v lo m i s)
  bank_spares n b v lo m i s = go (covers n lo m i) (acts b (field b v lo i)) (owned e s.ownership) refl
    where
      does : FieldEffect
      does = record { effect = effect_of s.ownership.fixed_route b (field b v lo i); lists = lists b }

      go : (x y o : Bool) → owned e s.ownership ≡ o → Spared e s (cond x (effected (cond (y && o) does untouched).effect s) s)
      go true true true own = spared s (effected does.effect s) own refl refl
      go true true false own = still s
      go true false o own = still s
      go false y o own = still s

access_spares : (c : ControllerConfig) (n : ℕ) (a : Access) (v i : ℕ) (s : Slot) → Spared (explicit c.spi_ownership) s (written_at c n a v i s)
access_spares c n (Err f) v i s = still _ s
access_spares c n (Ok (Identification k)) v i s = still _ s
access_spares c n (Ok Ctlr) v i s = still _ s
access_spares c n (Ok Typer) v i s = still _ s
access_spares c n (Ok Iidr) v i s = still _ s
access_spares c n (Ok (Fields b lo m)) v i s = bank_spares _ n b v lo m i s
access_spares c n (Ok Reserved) v i s = still _ s

-- a guest write changes no claim, no fixed mark and no unowned record
pub guest_write_spares : (d : Distributor) (offset : ℕ) (w : AccessWidth) (v places i : ℕ)
    → Spared (explicit d.config.spi_ownership) (slot_of d.slots i) (slot_of (step (write offset w v places) d).slots i)
unfolding step
guest_write_spares d offset w v places i =
    relates_map_at (Spared (explicit d.config.spi_ownership)) (λ p. slot_after d.config (size d) (write offset w v places) (32 + p)) (i - 32) d.slots no_slot
    (still _ no_slot)
    (access_spares d.config (size d) (write_access places (size d) d.config.distributor_size offset w) v (32 + (i - 32)) (slot_of d.slots i))

-- ---- a guest read

-- alike but for the contents of an unowned record
pub record AlikeSlot (explicit : Bool) (s t : Slot) : Type 0 where
  pub claim : s.ownership.explicitly_owned ≡ t.ownership.explicitly_owned
  pub mark : s.ownership.fixed_route ≡ t.ownership.fixed_route
  pub interrupt : owned explicit s.ownership ≡ true → s.interrupt ≡ t.interrupt

-- two states alike but for the contents of unowned records
pub record Alike (d e : Distributor) : Type 0 where
  pub config : d.config ≡ e.config
  pub switch : d.switch ≡ e.switch
  pub count : d.count ≡ e.count
  pub slots : (i : ℕ) → AlikeSlot (explicit d.config.spi_ownership) (slot_of d.slots i) (slot_of e.slots i)

showing-alike : (e : Bool) (b : Bank) (s t : Slot) → AlikeSlot e s t → showing e b s ≡ showing e b t
showing-alike e b s t h =
    let same : owned e s.ownership ≡ owned e t.ownership = ap (λ (o : Bool). not e || o) h.claim in
    go (owned e s.ownership) refl same
  where
    go : (o : Bool) → owned e s.ownership ≡ o → o ≡ owned e t.ownership → cond o (shown b s.interrupt) 0 ≡ cond (owned e t.ownership) (shown b t.interrupt) 0
    go true own p = rw (← p) (ap (shown b) (h.interrupt own))
    go false own p = rw (← p)

module _ (c : ControllerConfig) (count : ℕ) (on : Bool) (l l' : List Slot) (alike : (i : ℕ) → AlikeSlot (explicit c.spi_ownership) (slot_of l i) (slot_of l' i)) where
  abbrev e : Bool
  e = explicit c.spi_ownership

  abbrev n : ℕ
  n = table_size count

  read_alike : (a : Access) → read_reply (state_with c count on l) a ≡ read_reply (state_with c count on l') a
  read_alike (Err f) = refl
  read_alike (Ok (Identification k)) = refl
  read_alike (Ok Ctlr) = refl
  read_alike (Ok Typer) = refl
  read_alike (Ok Iidr) = refl
  read_alike (Ok (Fields b lo m)) =
      ap (λ (v : ℕ). plain (unless (read_beyond e n b lo m) (done (v ∷ []))))
      (packed_same b (shown_at e n b l) (shown_at e n b l') lo m
      (λ i p q. ap (λ (v : ℕ). cond (in_table n i) v 0) (showing-alike e b (slot_of l i) (slot_of l' i) (alike i))))
  read_alike (Ok Reserved) = refl

-- two states alike but for the contents of unowned records give every guest read the same answer
pub guest_read_blind : (d e : Distributor) → Alike d e → (offset : ℕ) (w : AccessWidth) → reply (read offset w) d ≡ reply (read offset w) e
unfolding reply
guest_read_blind d e h offset w =
    let p = h.config in
    let q = h.switch in
    let r = h.count in
    let same : state_with d.config d.count d.switch e.slots ≡ e = (λ j. record { config = p j; switch = q j; count = r j; slots = e.slots }) in
    read_alike d.config d.count d.switch d.slots e.slots h.slots (decode Reading d.config.distributor_size offset w)
    ∙ ap (λ (x : Distributor). reply (read offset w) x) same
