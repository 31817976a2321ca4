-- A machine that is seen through what it holds under each name. From four facts of ONE call, never of two, follow both theorems on
-- order: replay, and reordering.
use Rattle.std.specs.Prelude.{ℕ, ◌<◌, ◌≡◌, refl, Bool, true, false, cond, List, [], ◌∷◌, length, Ok}
use Rattle.std.proofs.Common.{sym, ◌∙◌}
use Rattle.std.proofs.Math.ListN.{get_elem?}
use Rattle.theory.specs.Bools.{refuted}
use Rattle.theory.specs.Runs.{run, answers, naming, Share, Matching}
use Rattle.theory.specs.Reorder.{Commutes, reordering}

module _ {Call Name State Answer : Type 0} {Held : Name → Type 0}
    (names : Call → Name → Bool) (step : Call → State → State) (answer : Call → State → Answer)
    (held : (n : Name) → State → Held n) (Ok : State → Type 0) where
  -- the four facts, of the states that are Ok, which a call leaves Ok
  pub record Footprint : Type 0 where
    pub stays : (k : Call) (s : State) → Ok s → Ok (step k s)
    -- a call keeps what it does not name
    pub keeps : (k : Call) (n : Name) (s : State) → Ok s → names k n ≡ false → held n (step k s) ≡ held n s
    -- what is held under a name changes by what is held there alone
    pub local : (k : Call) (n : Name) (s t : State) → Ok s → Ok t → held n s ≡ held n t → held n (step k s) ≡ held n (step k t)
    -- the answer rests on what the call names
    pub told : (k : Call) (s t : State) → Ok s → Ok t → ((n : Name) → names k n ≡ true → held n s ≡ held n t) → answer k s ≡ answer k t
    -- the names hold all of the state
    pub whole : (s t : State) → Ok s → Ok t → ((n : Name) → held n s ≡ held n t) → s ≡ t

  module _ (F : Footprint) where
    heard : (k l : Call) → ¬ Share names k l → (s : State) → Ok s → answer k (step l s) ≡ answer k s
    heard k l far s ok = F.told k (step l s) s (F.stays l s ok) ok (λ n p. F.keeps l n s ok (refuted _ (λ q. far (n, p, q))))

    pub commute : (k l : Call) → ¬ Share names k l → (s : State) → Ok s → Commutes names step answer k l s
    commute k l far s ok =
        record {
          state = F.whole (step k (step l s)) (step l (step k s)) (F.stays k _ okl) (F.stays l _ okk) (λ n. at_name n (names k n) (names l n) refl refl);
          first = heard k l far s ok;
          second = heard l k (λ w. far (w.0, w.2, w.1)) s ok;
        }
      where
        okk : Ok (step k s)
        okk = F.stays k s ok

        okl : Ok (step l s)
        okl = F.stays l s ok

        at_name : (n : Name) (b c : Bool) → names k n ≡ b → names l n ≡ c → held n (step k (step l s)) ≡ held n (step l (step k s))
        at_name n true true p q = absurd (far (n, p, q))
        at_name n true false p q = F.local k n (step l s) s okl ok (F.keeps l n s ok q) ∙ sym (F.keeps l n (step k s) okk q)
        at_name n false true p q = F.keeps k n (step l s) okl p ∙ sym (F.local l n (step k s) s okk ok (F.keeps k n s ok p))
        at_name n false false p q = F.keeps k n (step l s) okl p ∙ F.keeps l n s ok q ∙ sym (F.keeps k n s ok p) ∙ sym (F.keeps l n (step k s) okk q)

    replay_from : (n : Name) (ks : List Call) (s t : State) → Ok s → Ok t → held n s ≡ held n t → held n (run step ks s) ≡ held n (run step (naming names n ks) t)
    replay_from n [] s t oks okt e = e
    replay_from n (k ∷ ks) s t oks okt e = go (names k n) refl (λ u okn. replay_from n ks (step k s) u (F.stays k s oks) okn)
      where
        go : (b : Bool) → names k n ≡ b
            → ((u : State) → Ok u → held n (step k s) ≡ held n u → held n (run step ks (step k s)) ≡ held n (run step (naming names n ks) u))
            → held n (run step ks (step k s)) ≡ held n (run step (cond b (k ∷ naming names n ks) (naming names n ks)) t)
        go true p rest = rest (step k t) (F.stays k t okt) (F.local k n s t oks okt e)
        go false p rest = rest t okt (F.keeps k n s oks p ∙ e)

    -- REPLAY: what is held under a name after any calls is what running only those that name it gives
    pub replay : (n : Name) (ks : List Call) (s : State) → Ok s → held n (run step ks s) ≡ held n (run step (naming names n ks) s)
    replay n ks s ok = replay_from n ks s s ok ok refl

    -- REORDERING: the same calls in an order that keeps every two that share a name
    pub reordered : (xs ys : List Call) (m : Matching names xs ys) (s : State) → Ok s
        → (run step xs s ≡ run step ys s)
        × ((i : ℕ) → i < length xs → get_elem? (answers step answer xs s) i ≡ get_elem? (answers step answer ys s) (m.to i))
    reordered = reordering names step answer Ok F.stays commute
