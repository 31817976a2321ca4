-- From what the parts of `run` promise to what the call promises.
use Rattle.std.specs.Prelude.{Err}
use Prim.Native.Nat.{ℕ, zero, suc, ◌≤◌, min}
use mathlib.Core.Path.{◌≡◌, refl, sym, ap, subst, ◌∙◌}
use mathlib.Core.Bool.{Bool, true, false, cond}
use mathlib.Core.List.{List, [], ◌∷◌, ◌++◌}
use native.Mathlib.Omega.{arith}
use native.Mathlib.Nat.{le_of_suc-le-suc}
use borrow.Author.Tests.{le-leb, lt-ltb}
use lib.Dec.{leb, ltb}
use lib.ListN.{length, take, drop, take-append-drop}
use lib.Seq.{length-take-le}
use Rattle.theory.specs.Lists.{map_at, laid}
use Rattle.theory.specs.MapAtLaws.{map_at_still}
use Rattle.identifiers.specs.Answer as told
use Rattle.identifiers.specs.Answer.{done, refused, within, told_refusal, told_spi, id_answer}
use Rattle.identifiers.specs.declared.error.Refusal.{Refusal}
use Rattle.place.specs.Table.{create_answer, created_count, table_size, in_table}
use Rattle.place.specs.TableLaws.{in_range}
use Rattle.bank.specs.Banks.{bit}
use Rattle.controller.specs.declared.controller.ControllerConfig.{ControllerConfig}
use Rattle.registers.specs.declared.register.AccessWidth.{AccessWidth}
use Rattle.registers.specs.declared.register.Direction.TheVariants.{Reading}
use Rattle.decoding.specs.Decoding.{decode}
use Rattle.slot.specs.declared.slot.Slot.{Slot}
use Rattle.changes.specs.declared.change.Change.{Change}
use Rattle.spi.specs.declared.question.Question.{Question}
use Rattle.model.specs.Calls.{Distributor, Call, create, read, write, is_switched_on, rollback, change, ask, Reply, Outcome, outcome, created, reply, step}
use Rattle.model.specs.Replies.{candidates_fit}
use Rattle.distributor.specs.declared.distributor.DistributorState.{DistributorState}
use Rattle.distributor.specs.Model.{model_of, switch_reply}
use Rattle.distributor.proofs.Hosting.{changed_out}
use Rattle.harness_numbers.specs.declared.answer.Answer.{Answer}
use Rattle.harness_numbers.specs.declared.call.Call as code
use Rattle.harness_numbers.specs.declared.call.Family.{Family}
use Rattle.harness_numbers.specs.Numbers as numbered
use Rattle.harness_numbers.specs.Numbers.{family_of, meaning_of, call_of, numbers, valued, asked, numbers_of}
use Rattle.harness_calls.specs.declared.run.Ran.{Ran}
use Rattle.harness_calls.specs.Ran.{after, Performed, RanAs}
use Rattle.harness_calls.specs.CodeRuns.{read_unlisted}

-- ---- the makers of SPI identifiers, and the table

-- a number that is no SPI's is in no table
pub spi_refused : (count raw : ℕ) (f : Refusal) → told_spi (Err f) ≡ id_answer 32 1020 raw
    → (in_table (table_size count) raw ≡ false) × (told_refusal f ≡ refused 1 (raw ∷ []))
spi_refused count raw f h = go (in_table (table_size count) raw) refl (within 32 1020 raw) refl h
  where
    go : (t : Bool) → in_table (table_size count) raw ≡ t → (u : Bool) → within 32 1020 raw ≡ u → told_refusal f ≡ cond u (done (raw ∷ [])) (refused 1 (raw ∷ []))
        → (in_table (table_size count) raw ≡ false) × (told_refusal f ≡ refused 1 (raw ∷ []))
    go t p true q e = let z : ◌≡◌ {A = ℕ} 0 1 = cc in absurd (omega arith)
    go false p false q e = (p, e)
    go true p false q e =
        let r = in_range (table_size count) raw p in
        let a : leb 32 raw ≡ true = le-leb 32 raw r.0 in
        let b : ltb raw 1020 ≡ true = lt-ltb raw 1020 (omega arith) in
        let y : within 32 1020 raw ≡ true = rw (a, b) in
        let z : ◌≡◌ {A = Bool} true false = sym y ∙ q in
        let x : ◌≡◌ {A = ℕ} 0 1 = cc in
        absurd (omega arith)

-- ---- calls that change nothing, and calls that list nothing

module _ (d : Distributor) where
  same : d ≡ record { config = d.config; switch = d.switch; count = d.count; slots = map_at (λ p s. s) d.slots }
  same = ap (λ (l : List Slot). record { config = d.config; switch = d.switch; count = d.count; slots = l }) (sym (map_at_still (λ p s. s) d.slots (λ p s. refl)))

  still_read : (offset : ℕ) (w : AccessWidth) → d ≡ step (read offset w) d
  unfolding step
  still_read offset w = same

  still_switch : d ≡ step is_switched_on d
  unfolding step
  still_switch = same

  still_ask : (q : Question) (raw : ℕ) → d ≡ step (ask q raw) d
  unfolding step
  still_ask q raw = same

-- ---- what each part gives

abbrev pub of : DistributorState → Answer → Ran
of d a = record { state = d; answer = a }

-- a host call by a number, which is an SPI's or not
module _ (d : DistributorState) (raw : ℕ) where
  abbrev D : Distributor
  D = model_of d

  module _ (h : Change) where
    abbrev Done : Ran → Type 0
    Done r = (model_of r.state ≡ step (change h raw) D) × (r.answer ≡ valued (reply (change h raw) D).answer)

    pub unchanged_spi : (f : Refusal) (r : Ran) → told_spi (Err f) ≡ id_answer 32 1020 raw → r ≡ of d (valued (told_refusal f)) → Done r
    unchanged_spi f r e p =
        let o = spi_refused d.spi_count raw f e in
        let k = changed_out d raw h (record { state = d; answer = Err f }) o.0 refl o.1 in (
          ap (λ (y : Ran). model_of y.state) p ∙ k.0,
          ap (λ (y : Ran). y.answer) p ∙ ap (λ (y : Reply). valued y.answer) k.1,
        )

  module _ (q : Question) where
    pub unasked_spi : (f : Refusal) → told_spi (Err f) ≡ id_answer 32 1020 raw → {a : Answer} → a ≡ valued (told_refusal f) → a ≡ asked q (reply (ask q raw) D).answer
    unfolding reply
    unasked_spi f e p = let o = spi_refused d.spi_count raw f e in p ∙ ap valued o.1 ∙ (rw o.0)

-- a call as a whole
module _ (d : DistributorState) (room : List ℕ) where
  unlisted : (k : Call) (r : Ran) → model_of r.state ≡ after k (model_of d) → r.answer ≡ numbers_of k (reply k (model_of d)).answer → (reply k (model_of d)).candidates ≡ [] → Performed k d room r room
  unlisted k r s a c = record { state = s; answer = a; lent = ap (λ (cs : List ℕ). laid cs room) (sym c) }

  pub read_performed : (offset : ℕ) (w : AccessWidth) (r : Ran) (a : Answer) → r ≡ of d a → a ≡ valued (reply (read offset w) (model_of d)).answer → Performed (read offset w) d room r room
  unfolding reply
  read_performed offset w r a e h = unlisted (read offset w) r (ap (λ (x : Ran). model_of x.state) e ∙ still_read (model_of d) offset w) (ap (λ (x : Ran). x.answer) e ∙ h) (read_unlisted (model_of d) (decode Reading d.config.distributor_size offset w))

  pub asked_performed : (q : Question) (raw : ℕ) (r : Ran) (a : Answer) → r ≡ of d a → a ≡ asked q (reply (ask q raw) (model_of d)).answer → Performed (ask q raw) d room r room
  unfolding reply
  asked_performed q raw r a e h = unlisted (ask q raw) r (ap (λ (x : Ran). model_of x.state) e ∙ still_ask (model_of d) q raw) (ap (λ (x : Ran). x.answer) e ∙ h) refl

  pub changed_performed : (h : Change) (raw : ℕ) (r : Ran) → model_of r.state ≡ step (change h raw) (model_of d) → r.answer ≡ valued (reply (change h raw) (model_of d)).answer → Performed (change h raw) d room r room
  unfolding reply
  changed_performed h raw r s a = unlisted (change h raw) r s a refl

  pub created_performed : (c : ControllerConfig) (n : ℕ) (r : Ran) → model_of r.state ≡ created c (created_count n) → r.answer ≡ valued (create_answer n) → Performed (create c n) d room r room
  unfolding reply
  created_performed c n r s a = unlisted (create c n) r s a refl

  pub switch_performed : (r : Ran) (on : Bool) → r ≡ of d (numbers 0 (bit on) 0) → switch_reply on ≡ reply is_switched_on (model_of d) → Performed is_switched_on d room r room
  unfolding reply
  switch_performed r on e h = unlisted is_switched_on r (ap (λ (x : Ran). model_of x.state) e ∙ still_switch (model_of d)) (ap (λ (x : Ran). x.answer) e ∙ ap (λ (x : Reply). valued x.answer) h) refl

  pub rollback_performed : (on : Bool) (r : Ran) (e : DistributorState) → r ≡ of e (numbers 0 0 0) → model_of e ≡ step (rollback on) (model_of d) → Performed (rollback on) d room r room
  unfolding reply
  rollback_performed on r e p h = unlisted (rollback on) r (ap (λ (x : Ran). model_of x.state) p ∙ h) (ap (λ (x : Ran). x.answer) p) refl

  -- ---- a write, which is lent the first places of the room

  laid_front : (cs l : List ℕ) (n : ℕ) → length cs ≤ n → n ≤ length l → laid cs (take n l) ++ drop n l ≡ laid cs l
  laid_front [] l n h k = take-append-drop n l
  laid_front (c ∷ cs) l zero h k = absurd (omega arith)
  laid_front (c ∷ cs) [] (suc n) h k = absurd (omega arith)
  laid_front (c ∷ cs) (x ∷ l) (suc n) h k = ap (λ (m : List ℕ). c ∷ m) (laid_front cs l n (le_of_suc-le-suc h) (le_of_suc-le-suc k))

  module _ (offset : ℕ) (w : AccessWidth) (v places : ℕ) where
    abbrev K : Call
    K = write offset w v places

    pub write_performed : (r : Ran) (e : DistributorState) (a : told.Answer) (left : List ℕ) → places ≤ length room → r ≡ of e (numbered.listed a) → model_of e ≡ step K (model_of d)
        → ◌≡◌ {A = Outcome} (record { answer = a; list = left }) (outcome (reply K (model_of d)) (take places room)) → Performed K d room r (left ++ drop places room)
    write_performed r e a left f p s o =
        record {
          state = ap (λ (x : Ran). model_of x.state) p ∙ s;
          answer = ap (λ (x : Ran). x.answer) p ∙ ap (λ (x : Outcome). numbered.listed x.answer) o;
          lent = ap (λ (x : Outcome). x.list ++ drop places room) o ∙ laid_front (reply K (model_of d)).candidates room places (candidates_fit (model_of d) offset w v places) f;
        }

  -- p places are lent, by the number n
  pub lent_performed : (offset : ℕ) (u w : AccessWidth) (v n p : ℕ) (r : Ran) (e : DistributorState) (a : told.Answer) (left : List ℕ) → p ≡ min n (length room) → u ≡ w
      → r ≡ of e (numbered.listed a) → model_of e ≡ step (write offset u v (length (take p room))) (model_of d)
      → ◌≡◌ {A = Outcome} (record { answer = a; list = left }) (outcome (reply (write offset u v (length (take p room))) (model_of d)) (take p room))
      → Performed (write offset w v (min n (length room))) d room r (left ++ drop p room)
  lent_performed offset u w v n p r e a left m x q s o =
      let f : p ≤ length room = omega arith in
      let l = length-take-le p room f in
      subst (λ (k : ℕ). Performed (write offset w v k) d room r (left ++ drop p room)) m
      (write_performed offset w v p r e a left f q
      (s ∙ ap (λ (k : ℕ). step (write offset u v k) (model_of d)) l ∙ ap (λ (y : AccessWidth). step (write offset y v p) (model_of d)) x)
      (o ∙ ap (λ (k : ℕ). outcome (reply (write offset u v k) (model_of d)) (take p room)) l ∙ ap (λ (y : AccessWidth). outcome (reply (write offset y v p) (model_of d)) (take p room)) x))

-- the family of the call's number says which call it is
pub meant : (k : code.Call) (d : DistributorState) (room left : List ℕ) (r : Ran) (f g : Family) → g ≡ family_of k.op k.b → g ≡ f
    → RanAs (meaning_of f k (length room)) d room r left → RanAs (call_of k (length room)) d room r left
meant k d room left r f g e p x = subst (λ (h : Family). RanAs (meaning_of h k (length room)) d room r left) (sym p ∙ e) x
