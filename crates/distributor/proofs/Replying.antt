-- From what a write did to its state and its reply.
use Rattle.std.specs.Prelude.{Result, Ok, Err, Option}
use Prim.Native.Nat.{ℕ}
use mathlib.Core.Path.{◌≡◌, refl, sym, subst, ap, ◌∙◌}
use mathlib.Core.Bool.{Bool, true, false, ◌&&◌}
use mathlib.Core.Logic.{◌⊎◌, inl, inr}
use mathlib.Core.List.{List, [], ◌∷◌}
use lib.ListN.{length}
use Rattle.theory.specs.Lists.{map_at, passing}
use Rattle.theory.specs.MapAtLaws.{map_at_still}
use Rattle.identifiers.specs.Answer.{Answer, done, unless}
use Rattle.identifiers.specs.declared.error.Refusal.{Refusal}
use Rattle.place.specs.Table.{table_size}
use Rattle.controller.specs.Identity.{switch_bit}
use Rattle.bank.specs.Banks.{first_of, told_beyond, lists_unless}
use Rattle.registers.specs.declared.register.AccessWidth.{AccessWidth}
use Rattle.registers.specs.declared.register.Register.{Register}
use Rattle.registers.specs.declared.register.Register.TheVariants.{Identification, Ctlr, Typer, Iidr, Reserved}
use Rattle.decoding.specs.Decoding.{write_access}
use Rattle.answers.specs.Answers.{told_write}
use Rattle.model.proofs.Beyond.{listing_beyond}
use Rattle.model.specs.Calls.{Distributor, Reply, Outcome, outcome, size, deliverable_at, write, after_write, listing, listing_unless, write_reply, reply, step}
use Rattle.distributor.specs.declared.distributor.DistributorState.{DistributorState}
use Rattle.distributor.specs.declared.distributor.After.{After}
use Rattle.distributor.specs.Model.{model_of}
use Rattle.distributor.specs.Loops.{with_slots, LaidOut}
use Rattle.distributor.specs.Writes.{ResultOfWrite}
use Rattle.registers.specs.Registers.{Access}

-- a map that leaves every slot alone leaves the Distributor alone
pub still : (d : DistributorState) → model_of d ≡ model_of (with_slots d (map_at (λ p s. s) d.slots))
still d = ap (λ (l : _). model_of (with_slots d l)) (sym (map_at_still (λ p s. s) d.slots (λ p s. refl)))

-- a write to a bank: its answer and its list
pub bank_told : (x : Option ℕ) (l : List ℕ) (t : ℕ → Bool) (lo m : ℕ) (old new : List ℕ) (n : ℕ) (a : Answer) (tells : Bool) → told_beyond x ≡ first_of l → tells ≡ lists_unless x
    → LaidOut (passing (λ i. tells && t i) lo m) old new n → a ≡ unless (told_beyond x) (done (n ∷ []))
    → ◌≡◌ {A = Outcome} (record { answer = a; list = new }) (outcome (listing_unless l (passing t lo m)) old)
bank_told x l t lo m old new n a tells e k h q =
    let told : LaidOut (passing (λ i. lists_unless x && t i) lo m) old new n = subst (λ (y : Bool). LaidOut (passing (λ i. y && t i) lo m) old new n) k h in
    (rw (q, told.0, told.1)) ∙ ap (λ (r : Reply). outcome r old) (listing_beyond x l t lo m e)

module _ (d : DistributorState) (v : ℕ) (list : List ℕ) (r : After ℕ) where
  -- a write that is ignored
  pub ignored : (r.state ≡ d) × (r.answer ≡ Ok 0)
      → (model_of r.state ≡ model_of (with_slots d (map_at (λ p s. s) d.slots))) × (record { answer = told_write r.answer; list = list } ≡ outcome (listing []) list)
  ignored h = (ap model_of h.0 ∙ still d, ap (λ (a : Result ℕ Refusal). record { answer = told_write a; list = list }) h.1)

  -- and so is one to each of these registers
  pub ignored_at : (g : Register) → ((k : ℕ) × (g ≡ Identification k)) ⊎ ((g ≡ Typer) ⊎ ((g ≡ Iidr) ⊎ (g ≡ Reserved))) → (r.state ≡ d) × (r.answer ≡ Ok 0) → ResultOfWrite d (Ok g) v list r list
  ignored_at g (inl k) h = rw k.1 (ignored h)
  ignored_at g (inr (inl e)) h = rw e (ignored h)
  ignored_at g (inr (inr (inl e))) h = rw e (ignored h)
  ignored_at g (inr (inr (inr e))) h = rw e (ignored h)

  -- a refused write changes nothing
  pub refused_writes : (f : Refusal) → (r.state ≡ d) × (r.answer ≡ Err f) → ResultOfWrite d (Err f) v list r list
  refused_writes f h = (ap model_of h.0 ∙ still d, ap (λ (a : Result ℕ Refusal). record { answer = told_write a; list = list }) h.1)

-- a write to the switch: turned on it lists what is deliverable, and turned off nothing
module _ (d : DistributorState) (v : ℕ) (list : List ℕ) where
  abbrev pub turned_to : Bool → DistributorState
  turned_to on = record { config = d.config; enabled = on; spi_count = d.spi_count; slots = d.slots }

  turned : (on : Bool) → on ≡ switch_bit v → model_of (turned_to on) ≡ after_write (model_of d) (Ok Ctlr) v
  turned on e =
      ap (λ (b : Bool). model_of (turned_to b)) e
      ∙ ap (λ (x : Distributor). record { config = x.config; switch = switch_bit v; count = x.count; slots = x.slots }) (still d)

  pub turned_on : (on : Bool) (n : ℕ) (r : After ℕ) (left : List ℕ) → on ≡ switch_bit v → on ≡ true
      → LaidOut (passing (deliverable_at d.slots) 32 (table_size d.spi_count)) list left n → (r.state ≡ turned_to on) × (r.answer ≡ Ok n) → ResultOfWrite d (Ok Ctlr) v list r left
  turned_on on n r left e t l h = (ap model_of h.0 ∙ turned on e, rw (h.1, sym e ∙ t, l.0, l.1))

  pub turned_off : (on : Bool) (r : After ℕ) → on ≡ switch_bit v → on ≡ false → (r.state ≡ turned_to on) × (r.answer ≡ Ok 0) → ResultOfWrite d (Ok Ctlr) v list r list
  turned_off on r e t h = (ap model_of h.0 ∙ turned on e, rw (h.1, sym e ∙ t))

module _ (d : DistributorState) (o : ℕ) (w : AccessWidth) (v : ℕ) (list : List ℕ) where
  pub written_so : (a : Access) (r : After ℕ) (left : List ℕ) → write_access (length list) (size (model_of d)) d.config.distributor_size o w ≡ a → ResultOfWrite d a v list r left
      → (model_of r.state ≡ step (write o w v (length list)) (model_of d)) × (◌≡◌ {A = Outcome} (record { answer = told_write r.answer; list = left }) (outcome (reply (write o w v (length list)) (model_of d)) list))
  unfolding step reply
  written_so a r left e h = (h.0 ∙ ap (λ (x : Access). after_write (model_of d) x v) (sym e), h.1 ∙ ap (λ (x : Access). outcome (write_reply (model_of d) x v) list) (sym e))
