-- A run of the code is a run of the definition. Each call is as `run` promises it, from the state that the call before it left; so what
-- is proved of every run of `step` holds of the code.
use Rattle.std.specs.Prelude.{ℕ, zero, suc, ◌≤◌, ◌<◌, ◌≡◌, Bool, true, false, List, [], ◌∷◌, ◌++◌, take, drop, Ok, Err}
use Rattle.std.proofs.Math.Path.{refl, ap}
use Rattle.std.proofs.Common.{sym, subst, ◌∙◌}
use Rattle.std.proofs.Math.Option.{Option, some, none}
use Rattle.std.proofs.Math.ListN.{length, get_elem?}
use Rattle.theory.specs.Runs.{run, answers, naming, Matching}
use Rattle.identifiers.specs.Answer as told
use Rattle.registers.specs.declared.register.AccessWidth.{AccessWidth}
use Rattle.registers.specs.declared.register.Register.TheVariants.{Identification, Ctlr, Typer, Iidr, Fields, Reserved}
use Rattle.registers.specs.declared.register.Direction.TheVariants.{Reading}
use Rattle.decoding.specs.Decoding.{decode}
use Rattle.spi.specs.declared.question.Question.{Question}
use Rattle.slot.specs.BankRule.{slot_of}
use Rattle.model.specs.Calls.{Distributor, Call, create, read, write, is_switched_on, rollback, change, ask, Reply, read_reply, step, reply}
use Rattle.model.specs.Replies.{Lists, turned_down, listed, write_lists}
use Rattle.order.specs.Names.{the_switch, spi}
use Rattle.order.specs.Order.{named}
use Rattle.order.proofs.Order.{ordered}
use Rattle.distributor.specs.declared.distributor.DistributorState.{DistributorState}
use Rattle.distributor.specs.Model.{model_of}
use Rattle.distributor.specs.ModelLaws.{one_state}
use Rattle.harness_numbers.specs.declared.answer.Answer.{Answer}
use Rattle.harness_numbers.specs.declared.call.Call as code
use Rattle.harness_numbers.specs.Numbers as numbered
use Rattle.harness_numbers.specs.Numbers.{Meaning, calls, call_of, numbers_of, valued, asked}
use Rattle.harness_calls.specs.declared.run.Ran.{Ran}
use Rattle.harness_calls.specs.Ran.{after, Performed, RanAs}
use Rattle.registers.specs.Registers.{Access}

-- what is seen of a call: its answer, and the candidates, which are in the first `count` places of the room
pub record Seen : Type 0 where
  pub answer : Answer
  pub candidates : List ℕ

abbrev pub seen : Ran → List ℕ → Seen
seen r left = record { answer = r.answer; candidates = take r.answer.count left }

-- a call's reply, as it is seen
abbrev pub seen_reply : Call → Reply → Seen
seen_reply k r = record { answer = numbers_of k r.answer; candidates = r.candidates }

abbrev pub seen_of : Call → Distributor → Seen
seen_of k d = seen_reply k (reply k d)

-- a creation makes another Distributor; every other call is one of the Distributor that there is
abbrev pub of_the_same : Call → Bool
of_the_same (create c n) = false
of_the_same (read offset w) = true
of_the_same (write offset w v places) = true
of_the_same is_switched_on = true
of_the_same (rollback on) = true
of_the_same (change h raw) = true
of_the_same (ask q raw) = true

-- the code, run from d: five numbers a call, with any room. The calls that the numbers mean are the first list; what is seen of them is
-- the second; and e is the end
pub data Runs : List Call → DistributorState → List Seen → DistributorState → Type 0 where
  ended : {d : DistributorState} → Runs [] d [] d
  then : {ks : List Call} {d e : DistributorState} {us : List Seen} (numbers : code.Call) (room left : List ℕ) (r : Ran) {k : Call}
      → call_of numbers (length room) ≡ calls k → of_the_same k ≡ true → RanAs (call_of numbers (length room)) d room r left
      → Runs ks r.state us e → Runs (k ∷ ks) d (seen r left ∷ us) e

-- ---- the count in the answer is the number of the candidates

valued-count : (a : told.Answer) → (valued a).count ≡ 0
valued-count (told.done vs) = refl
valued-count (told.refused n vs) = refl

asked-count : (q : Question) (a : told.Answer) → (asked q a).count ≡ 0
asked-count q (told.done vs) = refl
asked-count q (told.refused n vs) = refl

module _ (d : Distributor) where
  pub read_unlisted : (a : Access) → (read_reply d a).candidates ≡ []
  read_unlisted (Err f) = refl
  read_unlisted (Ok (Identification k)) = refl
  read_unlisted (Ok Ctlr) = refl
  read_unlisted (Ok Typer) = refl
  read_unlisted (Ok Iidr) = refl
  read_unlisted (Ok (Fields b lo m)) = refl
  read_unlisted (Ok Reserved) = refl

  write_count : (offset : ℕ) (w : AccessWidth) (v places : ℕ) → (numbered.listed (reply (write offset w v places) d).answer).count ≡ length (reply (write offset w v places) d).candidates
  write_count offset w v places = go (reply (write offset w v places) d) (write_lists d offset w v places)
    where
      go : (r : Reply) → Lists d offset w v places r → (numbered.listed r.answer).count ≡ length r.candidates
      go r (turned_down n c) = refl
      go r (listed cs h) = refl

  pub count-told : (k : Call) → (numbers_of k (reply k d).answer).count ≡ length (reply k d).candidates
  unfolding reply
  count-told (create c n) = valued-count (reply (create c n) d).answer
  count-told (read offset w) = valued-count (reply (read offset w) d).answer ∙ ap length (sym (read_unlisted (decode Reading d.config.distributor_size offset w)))
  count-told (write offset w v places) = write_count offset w v places
  count-told is_switched_on = refl
  count-told (rollback on) = refl
  count-told (change h raw) = valued-count (reply (change h raw) d).answer
  count-told (ask q raw) = asked-count q (reply (ask q raw) d).answer

front : (cs l : List ℕ) → take (length cs) (cs ++ l) ≡ cs
front [] l = refl
front (c ∷ cs) l = ap (λ (m : List ℕ). c ∷ m) (front cs l)

-- ---- the theorem

after-step : (k : Call) (d : Distributor) → of_the_same k ≡ true → after k d ≡ step k d
after-step (create c n) d h = cc
after-step (read offset w) d h = refl
after-step (write offset w v places) d h = refl
after-step is_switched_on d h = refl
after-step (rollback on) d h = refl
after-step (change h raw) d _ = refl
after-step (ask q raw) d h = refl

-- what is seen of a call is what its reply is told as
seen_so : (k : Call) (d : DistributorState) (room left : List ℕ) (r : Ran) → Performed k d room r left → seen r left ≡ seen_of k (model_of d)
seen_so k d room left r p =
    let n : r.answer.count ≡ length (reply k (model_of d)).candidates = ap (λ (a : Answer). a.count) p.answer ∙ count-told (model_of d) k in
    let c : take r.answer.count left ≡ (reply k (model_of d)).candidates = (ap (λ (x : ℕ). take x left) n) ∙ ap (take (length (reply k (model_of d)).candidates)) p.lent ∙ front (reply k (model_of d)).candidates (drop (length (reply k (model_of d)).candidates) room) in
    let a = p.answer in
    λ j. record { answer = a j; candidates = c j }

-- the end is the end of `run step`, and what is seen of the calls are their replies
pub runs_step : {ks : List Call} {d e : DistributorState} {us : List Seen} → Runs ks d us e
    → (model_of e ≡ run step ks (model_of d)) × (us ≡ answers step seen_of ks (model_of d))
runs_step ended = (refl, refl)
runs_step {d = d} (then {ks} {e = e} {us} numbers room left r {k} m s p more) =
    let q : Performed k d room r left = subst (λ (x : Meaning). RanAs x d room r left) m p in
    let t : model_of r.state ≡ step k (model_of d) = q.state ∙ after-step k (model_of d) s in
    let (end, rest) = runs_step more in (
      end ∙ ap (run step ks) t,
      ap (λ (u : Seen). u ∷ us) (seen_so k d room left r q) ∙ ap (λ (l : List Seen). seen_of k (model_of d) ∷ l) (rest ∙ ap (answers step seen_of ks) t),
    )

-- ---- so the order of calls is a matter of what they name, of the code too

-- REPLAY. After a run of the code the slot of an SPI is what a run of only the calls that name it leaves; and so is the switch
pub replayed_spi : {ks : List Call} {d e f : DistributorState} {us vs : List Seen} (i : ℕ) → 32 ≤ i
    → Runs ks d us e → Runs (naming (named (model_of d)) (spi i) ks) d vs f → slot_of e.slots i ≡ slot_of f.slots i
replayed_spi {ks} {d} i h x y =
    ap (λ (z : Distributor). slot_of z.slots i) (runs_step x).0 ∙ (ordered (model_of d)).replay_spi ks i h
    ∙ sym (ap (λ (z : Distributor). slot_of z.slots i) (runs_step y).0)

pub replayed_switch : {ks : List Call} {d e f : DistributorState} {us vs : List Seen}
    → Runs ks d us e → Runs (naming (named (model_of d)) the_switch ks) d vs f → e.enabled ≡ f.enabled
replayed_switch {ks} {d} x y =
    ap (λ (z : Distributor). z.switch) (runs_step x).0 ∙ (ordered (model_of d)).replay_switch ks
    ∙ sym (ap (λ (z : Distributor). z.switch) (runs_step y).0)

both : Option Call → Option Reply → Option Seen
both none r = none
both (some k) none = none
both (some k) (some r) = some (seen_reply k r)

seen_at : (ks : List Call) (s : Distributor) (i : ℕ) → get_elem? (answers step seen_of ks s) i ≡ both (get_elem? ks i) (get_elem? (answers step reply ks s) i)
unfolding both
seen_at [] s i = refl
seen_at (k ∷ ks) s zero = refl
seen_at (k ∷ ks) s (suc i) = seen_at ks (step k s) i

-- REORDERING. Two runs of the code over calls that are matched so that every two which name something in common keep their order: they
-- end in the same state, and of each call the same is seen as of its partner
pub reordered_runs : {d e f : DistributorState} {us vs : List Seen} (xs ys : List Call) (m : Matching (named (model_of d)) xs ys)
    → Runs xs d us e → Runs ys d vs f → (e ≡ f) × ((i : ℕ) → i < length xs → get_elem? us i ≡ get_elem? vs (m.to i))
reordered_runs {d} {e} {f} {us} {vs} xs ys m x y =
    let (endx, seenx) = runs_step x in
    let (endy, seeny) = runs_step y in
    let (ends, replies) = (ordered (model_of d)).reordering xs ys m in (
      one_state e f (endx ∙ ends ∙ sym endy),
      λ i h.
          ap (λ (l : List Seen). get_elem? l i) seenx ∙ seen_at xs (model_of d) i
          ∙ ap (λ (o : Option Call). both o (get_elem? (answers step reply xs (model_of d)) i)) (sym (m.same i h))
          ∙ ap (both (get_elem? ys (m.to i))) (replies i h)
          ∙ sym (seen_at ys (model_of d) (m.to i))
          ∙ sym (ap (λ (l : List Seen). get_elem? l (m.to i)) seeny),
    )
