-- A refused call changes nothing, save a guest write that was refused for running beyond the table; nor does a call that only asks.
use Prim.Native.Nat.{ℕ, ◌+◌, ◌-◌}
use Rattle.std.specs.Prelude.{◌≡◌, Bool, true, false, not, ◌&&◌, cond, List, [], ◌∷◌, ◌≢◌, eqb, get_or, Ok, Err}
use Rattle.std.proofs.Math.Path.{refl}
use Rattle.std.proofs.Common.{sym, ap, ◌∙◌, arith, eqb-true}
use Rattle.std.proofs.Math.Option.{Option, none, some, map}
use Rattle.std.proofs.Math.ListN.{get_elem?}
use Rattle.theory.specs.Bools.{both}
use Rattle.theory.specs.Elements.{at_all, at-map_at, at-holds}
use Rattle.identifiers.specs.Answer.{done, refused}
use Rattle.place.specs.Table.{in_table}
use Rattle.controller.specs.Modes.{explicit}
use Rattle.registers.specs.declared.register.AccessWidth.{AccessWidth}
use Rattle.registers.specs.declared.register.Register.TheVariants.{Identification, Ctlr, Typer, Iidr, Fields, Reserved}
use Rattle.decoding.specs.Decoding.{write_access}
use Rattle.slot.specs.declared.slot.Slot.{Slot}
use Rattle.slot.specs.Slots.{changed}
use Rattle.slot.specs.NoSlot.{no_slot}
use Rattle.slot.specs.BankRule.{slot_of, bank_candidates, write_beyond}
use Rattle.changes.specs.declared.change.Change.{Change}
use Rattle.changes.specs.declared.change.Change.TheVariants.{Claim, ClaimTo, Release, SetCpuTargetMask, SynchronizeInflight, Operate}
use Rattle.spi.specs.declared.question.Question.{Question}
use Rattle.spi.specs.ChangeAnswers.{claim_answer, change_answer}
use Rattle.model.specs.Calls.{Distributor, Call, create, read, write, is_switched_on, rollback, change, ask, size, written_at, changed_at, slot_after, switched, switch_after, step, on_spi, listing_unless, write_reply, reply}
use Rattle.registers.specs.Registers.{Access}

never : {A : Type 0} (vs ws : List ℕ) (r : ℕ) → done vs ≡ refused r ws → A
never vs ws r e = let z : ◌≡◌ {A = ℕ} 0 1 = cc in absurd (omega arith)

module _ (d : Distributor) where
  -- a call that keeps the switch and every slot
  still : (k : Call) → switch_after d.config (size d) k d.switch ≡ d.switch
      → ((p : ℕ) (s : Slot) → get_elem? d.slots p ≡ some s → slot_after d.config (size d) k (32 + p) s ≡ s) → step k d ≡ d
  unfolding step
  still k on kept =
      let same : (step k d).slots ≡ d.slots = at_all _ _ (λ p. at-map_at f d.slots p ∙ there p (get_elem? d.slots p) refl) in
      λ j. record { config = d.config; switch = on j; count = d.count; slots = same j }
    where
      f : ℕ → Slot → Slot
      f p = slot_after d.config (size d) k (32 + p)

      there : (p : ℕ) (o : Option Slot) → get_elem? d.slots p ≡ o → map (f p) o ≡ o
      there p none e = refl
      there p (some s) e = ap {B = Option Slot} some (kept p s e)

  -- the calls that only ask
  pub asking_still :
      ((offset : ℕ) (w : AccessWidth) → step (read offset w) d ≡ d) ×
      (step is_switched_on d ≡ d) ×
      ((q : Question) (raw : ℕ) → step (ask q raw) d ≡ d)
  asking_still = ((λ offset w. still (read offset w) refl (λ p s at. refl)), still is_switched_on refl (λ p s at. refl), (λ q raw. still (ask q raw) refl (λ p s at. refl)))

  module _ (r : ℕ) (ws : List ℕ) where
    claim_still : (s t : Slot) → claim_answer s.ownership.explicitly_owned ≡ refused r ws → cond (not s.ownership.explicitly_owned) t s ≡ s
    claim_still s t e = go s.ownership.explicitly_owned e
      where
        go : (b : Bool) → cond b (refused 2 []) (done []) ≡ refused r ws → cond (not b) t s ≡ s
        go true h = refl
        go false h = never [] ws r h

    change_still : (h : Change) (s : Slot) → change_answer h s ≡ refused r ws → changed h s ≡ s
    change_still Claim s e = claim_still s _ e
    change_still (ClaimTo a) s e = claim_still s _ e
    change_still Release s e = never _ ws r e
    change_still (SetCpuTargetMask m) s e = never _ ws r e
    change_still (SynchronizeInflight t) s e = never _ ws r e
    change_still (Operate o) s e = never _ ws r e

    -- a host's change: of an SPI outside the table, or refused by its slot
    host_still : (h : Change) (raw : ℕ) → (on_spi d raw (change_answer h)).answer ≡ refused r ws
        → (p : ℕ) (s : Slot) → get_elem? d.slots p ≡ some s → changed_at d.config (size d) h raw (32 + p) s ≡ s
    host_still h raw e p s at = go (in_table (size d) (32 + p) && eqb (32 + p) raw) refl
      where
        go : (b : Bool) → (in_table (size d) (32 + p) && eqb (32 + p) raw) ≡ b → cond b (changed h s) s ≡ s
        go true t =
            let (inside, same) = both (in_table (size d) (32 + p)) _ t in
            let z : 32 + p ≡ raw = eqb-true (32 + p) raw same in
            let there : in_table (size d) raw ≡ true = ap (in_table (size d)) (sym z) ∙ inside in
            let place : raw - 32 ≡ p = omega arith in
            let slot : slot_of d.slots raw ≡ s = ap (λ (q : ℕ). get_or d.slots q no_slot) place ∙ at-holds d.slots p no_slot s at in
            let said : change_answer h (slot_of d.slots raw) ≡ refused r ws = rw there at e in
            change_still h s (ap (change_answer h) (sym slot) ∙ said)
        go false t = refl

    write_still : (a : Access) (v : ℕ) → (write_reply d a v).answer ≡ refused r ws → r ≢ 1
        → (switched d.config (size d) a v d.switch ≡ d.switch) × ((i : ℕ) (s : Slot) → written_at d.config (size d) a v i s ≡ s)
    write_still (Err f) v e n = (refl, λ i s. refl)
    write_still (Ok (Identification k)) v e n = never _ ws r e
    write_still (Ok Ctlr) v e n = never _ ws r e
    write_still (Ok Typer) v e n = never _ ws r e
    write_still (Ok Iidr) v e n = never _ ws r e
    write_still (Ok (Fields b lo m)) v e n = go (write_beyond (explicit d.config.spi_ownership) (size d) b v lo m) e
      where
        go : {A : Type 0} (l : List ℕ) → (listing_unless l (bank_candidates (explicit d.config.spi_ownership) (size d) b v lo m d.slots)).answer ≡ refused r ws → A
        go [] h = never _ ws r h
        go (i ∷ is) h = let z : r ≡ 1 = cc in absurd (n z)
    write_still (Ok Reserved) v e n = never _ ws r e

    -- a refused call changes nothing, unless it is a write and refused 1
    pub refused_still : (k : Call) → (reply k d).answer ≡ refused r ws → ((offset : ℕ) (w : AccessWidth) (v places : ℕ) → k ≡ write offset w v places → r ≢ 1) → step k d ≡ d
    unfolding reply
    refused_still (create c m) e n = still (create c m) refl (λ p s at. refl)
    refused_still (read offset w) e n = asking_still.0 offset w
    refused_still (write offset w v places) e n =
        let (on, kept) = write_still (write_access places (size d) d.config.distributor_size offset w) v e (n offset w v places refl) in
        still (write offset w v places) on (λ p s at. kept (32 + p) s)
    refused_still is_switched_on e n = never _ ws r e
    refused_still (rollback on) e n = never _ ws r e
    refused_still (change h raw) e n = still (change h raw) refl (host_still h raw e)
    refused_still (ask q raw) e n = asking_still.2 q raw
