-- A reply rests on what the call names: two states that hold the same under those names answer the call alike.
use Rattle.std.specs.Prelude.{ℕ, ◌+◌, ◌≤◌, ◌<◌, ◌≡◌, Bool, true, false, ◌&&◌, cond, List, [], ◌∷◌, leb, eqb, Ok, Err}
use Rattle.std.proofs.Math.Path.{refl, ap}
use Rattle.std.proofs.Common.{le-leb, lt-ltb, eq-eqb}
use Rattle.theory.specs.Bools.{both}
use Rattle.theory.specs.Lists.{passing}
use Rattle.theory.specs.ListLaws.{passing_agree}
use Rattle.identifiers.specs.Answer.{Answer, done, refused, within, unless}
use Rattle.interrupt.specs.Records.{deliverable_in}
use Rattle.place.specs.Table.{table_size, in_table}
use Rattle.controller.specs.declared.controller.ControllerConfig.{ControllerConfig}
use Rattle.controller.specs.Modes.{explicit}
use Rattle.controller.specs.Identity.{switch_bit, ctlr_value}
use Rattle.bank.specs.declared.bank.Bank.{Bank}
use Rattle.bank.specs.Banks.{bit, acts, lists, field}
use Rattle.bank.specs.BankLaws.{packed_same}
use Rattle.registers.specs.declared.register.Register.TheVariants.{Identification, Ctlr, Typer, Iidr, Fields, Reserved}
use Rattle.registers.specs.declared.register.Direction.TheVariants.{Reading}
use Rattle.decoding.specs.Decoding.{decode, write_access}
use Rattle.slot.specs.declared.slot.Slot.{Slot}
use Rattle.ownership.specs.Owned.{owned}
use Rattle.slot.specs.Effects.{FieldEffect, effect_of, untouched}
use Rattle.slot.specs.Slots.{showing, effected}
use Rattle.slot.specs.BankRule.{slot_of, covers, shown_at, bank_value, candidate, bank_candidates, read_beyond, write_beyond}
use Rattle.spi.specs.ChangeAnswers.{change_answer}
use Rattle.spi.specs.Questions.{value_of, told_value}
use Rattle.model.specs.Calls.{Distributor, Call, create, read, write, is_switched_on, rollback, change, ask, plain, deliverable_at, on_spi, read_reply, listing, listing_unless, switch_candidates, write_reply, reply}
use Rattle.order.specs.Names.{the_switch, spi, read_names, write_names, names}
use Rattle.order.specs.OrderFacts.{state_with}
use Rattle.registers.specs.Registers.{Access}

covered : (lo m i : ℕ) → lo ≤ i → i < lo + m → within lo (lo + m) i ≡ true
covered lo m i p q = let e : leb lo i ≡ true = le-leb lo i p in rw e (lt-ltb i (lo + m) q)

-- two tables of n SPIs
module _ (n : ℕ) (l l' : List Slot) where
  -- the SPIs of the table that a test picks have the same slot in both
  abbrev Same : (ℕ → Bool) → Type 0
  Same t = (i : ℕ) → t i ≡ true → in_table n i ≡ true → slot_of l i ≡ slot_of l' i

  value_same : (e : Bool) (b : Bank) (lo m : ℕ) → Same (covers n lo m) → bank_value e n b lo m l ≡ bank_value e n b lo m l'
  value_same e b lo m h = packed_same b (shown_at e n b l) (shown_at e n b l') lo m (λ i p q. there i (covered lo m i p q))
    where
      there : (i : ℕ) → within lo (lo + m) i ≡ true → shown_at e n b l i ≡ shown_at e n b l' i
      there i p = go (in_table n i) refl
        where
          go : (t : Bool) → in_table n i ≡ t → cond t (showing e b (slot_of l i)) 0 ≡ cond t (showing e b (slot_of l' i)) 0
          go true q = ap (showing e b) (h i (rw (p, q)) q)
          go false q = refl

  candidates_same : (e : Bool) (b : Bank) (v lo m : ℕ) → Same (λ i. covers n lo m i && acts b (field b v lo i))
      → bank_candidates e n b v lo m l ≡ bank_candidates e n b v lo m l'
  candidates_same e b v lo m h = passing_agree (candidate e n b v lo m l) (candidate e n b v lo m l') lo m (λ i p q. go i (covers n lo m i) (acts b (field b v lo i)) refl refl)
    where
      test : ℕ → Bool → Bool → Slot → Bool
      test i x y s =
          let does : FieldEffect = cond (y && owned e s.ownership) (record { effect = effect_of s.ownership.fixed_route b (field b v lo i); lists = lists b }) untouched in
          x && (does.lists && deliverable_in (effected does.effect s).interrupt)

      go : (i : ℕ) (x y : Bool) → covers n lo m i ≡ x → acts b (field b v lo i) ≡ y → test i x y (slot_of l i) ≡ test i x y (slot_of l' i)
      go i true true p q = ap (test i true true) (h i (rw (p, q)) (both (within lo (lo + m) i) _ p).1)
      go i true false p q = refl
      go i false y p q = refl

  deliverable_same : Same (in_table n) → passing (deliverable_at l) 32 n ≡ passing (deliverable_at l') 32 n
  deliverable_same h = passing_agree (deliverable_at l) (deliverable_at l') 32 n (λ i p q. let inside = covered 32 n i p q in ap (λ (s : Slot). deliverable_in s.interrupt) (h i inside inside))

-- two states with the same settings and count
module _ (c : ControllerConfig) (count : ℕ) (on on' : Bool) (l l' : List Slot) where
  abbrev n : ℕ
  n = table_size count

  abbrev e : Bool
  e = explicit c.spi_ownership

  abbrev d : Distributor
  d = state_with c count on l

  abbrev d' : Distributor
  d' = state_with c count on' l'

  read_rests : (a : Access) → (read_names n a the_switch ≡ true → on ≡ on') → Same n l l' (λ i. read_names n a (spi i)) → read_reply d a ≡ read_reply d' a
  read_rests (Err f) s h = refl
  read_rests (Ok (Identification k)) s h = refl
  read_rests (Ok Ctlr) s h = ap (λ (b : Bool). plain (done (ctlr_value b ∷ []))) (s refl)
  read_rests (Ok Typer) s h = refl
  read_rests (Ok Iidr) s h = refl
  read_rests (Ok (Fields b lo m)) s h = ap (λ (v : ℕ). plain (unless (read_beyond e n b lo m) (done (v ∷ [])))) (value_same n l l' e b lo m h)
  read_rests (Ok Reserved) s h = refl

  switch_rests : (v : ℕ) → Same n l l' (λ i. switch_bit v && in_table n i) → switch_candidates d v ≡ switch_candidates d' v
  switch_rests v h = go (switch_bit v) h
    where
      go : (b : Bool) → Same n l l' (λ i. b && in_table n i) → cond b (passing (deliverable_at l) 32 n) [] ≡ cond b (passing (deliverable_at l') 32 n) []
      go true h = deliverable_same n l l' h
      go false h = refl

  write_rests : (a : Access) (v : ℕ) → Same n l l' (λ i. write_names n a v (spi i)) → write_reply d a v ≡ write_reply d' a v
  write_rests (Err f) v h = refl
  write_rests (Ok (Identification k)) v h = refl
  write_rests (Ok Ctlr) v h = ap listing (switch_rests v h)
  write_rests (Ok Typer) v h = refl
  write_rests (Ok Iidr) v h = refl
  write_rests (Ok (Fields b lo m)) v h = ap (listing_unless (write_beyond e n b v lo m)) (candidates_same n l l' e b v lo m h)
  write_rests (Ok Reserved) v h = refl

  host_rests : (raw : ℕ) (f : Slot → Answer) → Same n l l' (λ i. in_table n i && eqb i raw) → on_spi d raw f ≡ on_spi d' raw f
  host_rests raw f h = go (in_table n raw) refl
    where
      go : (t : Bool) → in_table n raw ≡ t → plain (cond t (f (slot_of l raw)) (refused 1 (raw ∷ []))) ≡ plain (cond t (f (slot_of l' raw)) (refused 1 (raw ∷ [])))
      go true q = let e : eqb raw raw ≡ true = eq-eqb raw raw refl in ap (λ (s : Slot). plain (f s)) (h raw (rw (q, e)) q)
      go false q = refl

  pub reply_rests : (k : Call) → (names c n k the_switch ≡ true → on ≡ on') → Same n l l' (λ i. names c n k (spi i)) → reply k d ≡ reply k d'
  unfolding names reply
  reply_rests (create x m) s h = refl
  reply_rests (read offset w) s h = read_rests (decode Reading c.distributor_size offset w) s h
  reply_rests (write offset w v places) s h = write_rests (write_access places n c.distributor_size offset w) v h
  reply_rests is_switched_on s h = ap (λ (b : Bool). plain (done (bit b ∷ []))) (s refl)
  reply_rests (rollback to) s h = refl
  reply_rests (change x raw) s h = host_rests raw (change_answer x) h
  reply_rests (ask q raw) s h = host_rests raw (λ x. done (told_value (value_of q x))) h
