-- Calls that may be reordered: where any two calls that share no name commute, a matching changes neither the end state nor an answer.
use Prim.Native.Nat.{ℕ, zero, suc, ◌<◌, pred, suc-le-suc}
use Rattle.std.specs.Prelude.{◌≡◌, refl, ◌≢◌, Bool, length, Ok}
use Rattle.std.proofs.Math.Path.{sym, ap}
use Rattle.std.proofs.Common.{◌∙◌, le_of_suc-le-suc, not-suc-le-zero, suc-ne-zero, zero-lt-suc, arith}
use mathlib.Core.List.{List, [], ◌∷◌}
use Rattle.std.proofs.Math.Option.{Option, some, none-ne-some, some-injective}
use Rattle.std.proofs.Math.Nat.{suc_inj}
use Rattle.std.proofs.Math.ListN.{get_elem?}
use Rattle.theory.specs.Runs.{run, answers, Share, Matching}
use Rattle.theory.specs.Elements.{at_some}

-- ---- a place is taken out of a list

abbrev without : {A : Type 0} → ℕ → List A → List A
without k [] = []
without zero (y ∷ ys) = ys
without (suc k) (y ∷ ys) = y ∷ without k ys

-- the place in the whole list of what stands at j once the place k is out
abbrev skip : ℕ → ℕ → ℕ
skip zero j = suc j
skip (suc k) zero = zero
skip (suc k) (suc j) = suc (skip k j)

-- and back
abbrev close : ℕ → ℕ → ℕ
close zero zero = zero
close zero (suc m) = m
close (suc k) zero = zero
close (suc k) (suc m) = suc (close k m)

close-skip : (k j : ℕ) → close k (skip k j) ≡ j
close-skip zero j = refl
close-skip (suc k) zero = refl
close-skip (suc k) (suc j) = ap suc (close-skip k j)

skip-close : (k m : ℕ) → m ≢ k → skip k (close k m) ≡ m
skip-close zero zero h = absurd (h refl)
skip-close zero (suc m) h = refl
skip-close (suc k) zero h = refl
skip-close (suc k) (suc m) h = ap suc (skip-close k m (λ e. h (ap suc e)))

skip-other : (k j : ℕ) → skip k j ≢ k
skip-other zero j e = suc-ne-zero j e
skip-other (suc k) zero e = suc-ne-zero k (sym e)
skip-other (suc k) (suc j) e = skip-other k j (suc_inj e)

skip_in : (k j n : ℕ) → j < n → skip k j < suc n
skip_in zero j n h = suc-le-suc h
skip_in (suc k) zero n h = zero-lt-suc n
skip_in (suc k) (suc j) zero h = absurd (not-suc-le-zero h)
skip_in (suc k) (suc j) (suc n) h = suc-le-suc (skip_in k j n (le_of_suc-le-suc h))

close_in : (k m n : ℕ) → m ≢ k → k < suc n → m < suc n → close k m < n
close_in zero zero n p h l = absurd (p refl)
close_in zero (suc m) n p h l = le_of_suc-le-suc l
close_in (suc k) zero n p h l = omega arith
close_in (suc k) (suc m) zero p h l = absurd (omega arith)
close_in (suc k) (suc m) (suc n) p h l = suc-le-suc (close_in k m n (λ e. p (ap suc e)) (le_of_suc-le-suc h) (le_of_suc-le-suc l))

close_order : (k m n : ℕ) → m ≢ k → n ≢ k → m < n → close k m < close k n
close_order zero zero n p q h = absurd (p refl)
close_order zero (suc m) zero p q h = absurd (q refl)
close_order zero (suc m) (suc n) p q h = le_of_suc-le-suc h
close_order (suc k) zero zero p q h = h
close_order (suc k) zero (suc n) p q h = zero-lt-suc _
close_order (suc k) (suc m) zero p q h = absurd (not-suc-le-zero h)
close_order (suc k) (suc m) (suc n) p q h = suc-le-suc (close_order k m n (λ e. p (ap suc e)) (λ e. q (ap suc e)) (le_of_suc-le-suc h))

at-without : {A : Type 0} (k : ℕ) (ys : List A) (j : ℕ) → get_elem? (without k ys) j ≡ get_elem? ys (skip k j)
at-without k [] j = refl
at-without zero (y ∷ ys) j = refl
at-without (suc k) (y ∷ ys) zero = refl
at-without (suc k) (y ∷ ys) (suc j) = at-without k ys j

length_without : {A : Type 0} (k : ℕ) (ys : List A) → k < length ys → length ys ≡ suc (length (without k ys))
length_without k [] h = absurd (not-suc-le-zero h)
length_without zero (y ∷ ys) h = refl
length_without (suc k) (y ∷ ys) h = ap suc (length_without k ys (le_of_suc-le-suc h))

-- ---- a matching is taken apart

module _ {Call Name : Type 0} (names : Call → Name → Bool) (x : Call) (xs ys : List Call) (m : Matching names (x ∷ xs) ys) where
  -- where the first call goes
  abbrev place : ℕ
  place = m.to 0

  place_in : place < length ys
  place_in = m.to_in 0 (zero-lt-suc _)

  -- no other call goes there
  other_place : (i : ℕ) → i < length xs → m.to (suc i) ≢ place
  other_place i h e = suc-ne-zero i (sym (m.from_to (suc i) (suc-le-suc h)) ∙ ap m.from e ∙ m.from_to 0 (zero-lt-suc _))

  -- and no other comes from there
  other_source : (j : ℕ) → j < length ys → j ≢ place → m.from j ≢ 0
  other_source j h p e = p (sym (m.to_from j h) ∙ ap m.to e)

  -- what stands in ys before the first call of xs shares no name with it
  ahead : (j : ℕ) (l : Call) → j < place → get_elem? ys j ≡ some l → ¬ Share names x l
  ahead j l h e w =
      let inside : j < length ys = (let p = place_in in omega arith) in
      let i : ℕ = m.from j in
      let there : m.to i ≡ j = m.to_from j inside in
      let later : i ≢ 0 = other_source j inside (omega arith) in
      let called : get_elem? (x ∷ xs) i ≡ some l = sym (m.same i (m.from_in j inside)) ∙ ap (get_elem? ys) there ∙ e in
      let after : m.to 0 < m.to i = m.kept 0 i x l refl called w (omega arith) in
      omega arith

  -- without the first call of xs, in both lists, it is a matching again
  rest_of : Matching names xs (without place ys)
  rest_of =
      record {
        to = λ i. close place (m.to (suc i));
        from = λ j. pred (m.from (skip place j));
        to_in = λ i h.
            let e = length_without place ys place_in in
            let p = m.to_in (suc i) (suc-le-suc h) in
            let q = place_in in
            close_in place (m.to (suc i)) _ (other_place i h) (omega arith) (omega arith);
        from_in = λ j h. let p = m.from_in (skip place j) (skipped j h) in let q = source j h in omega arith;
        from_to = λ i h. ap (λ (n : ℕ). pred (m.from n)) (skip-close place (m.to (suc i)) (other_place i h)) ∙ ap pred (m.from_to (suc i) (suc-le-suc h));
        to_from = λ j h.
            let e : suc (pred (m.from (skip place j))) ≡ m.from (skip place j) = (let q = source j h in omega arith) in
            ap (λ (i : ℕ). close place (m.to i)) e ∙ ap (close place) (m.to_from (skip place j) (skipped j h)) ∙ close-skip place j;
        same = λ i h.
            at-without place ys (close place (m.to (suc i))) ∙ ap (get_elem? ys) (skip-close place (m.to (suc i)) (other_place i h)) ∙ m.same (suc i) (suc-le-suc h);
        kept = λ i j k l p q w h.
            close_order place (m.to (suc i)) (m.to (suc j)) (other_place i (at_some xs i k p)) (other_place j (at_some xs j l q))
            (m.kept (suc i) (suc j) k l p q w (suc-le-suc h));
      }
    where
      skipped : (j : ℕ) → j < length (without place ys) → skip place j < length ys
      skipped j h = let e = length_without place ys place_in in let p = skip_in place j _ h in omega arith

      source : (j : ℕ) → j < length (without place ys) → m.from (skip place j) ≢ 0
      source j h = other_source (skip place j) (skipped j h) (skip-other place j)

-- ---- the reordering theorem

module _ {Call Name State Answer : Type 0} (names : Call → Name → Bool) (step : Call → State → State) (answer : Call → State → Answer) where
  -- from the state s it makes no difference, to the state or to either answer, which of two calls comes first
  pub record Commutes (k l : Call) (s : State) : Type 0 where
    pub state : step k (step l s) ≡ step l (step k s)
    pub first : answer k (step l s) ≡ answer k s
    pub second : answer l (step k s) ≡ answer l s

  -- the call x at the place p of ys might as well come first
  record Fronted (x : Call) (p : ℕ) (ys : List Call) (s : State) : Type 0 where
    state : run step ys s ≡ run step (without p ys) (step x s)
    own : get_elem? (answers step answer ys s) p ≡ some (answer x s)
    others : (j : ℕ) → get_elem? (answers step answer ys s) (skip p j) ≡ get_elem? (answers step answer (without p ys) (step x s)) j

  module _ (Ok : State → Type 0) (keeps : (k : Call) (s : State) → Ok s → Ok (step k s))
      (commute : (k l : Call) → ¬ Share names k l → (s : State) → Ok s → Commutes k l s) where
    front : (x : Call) (p : ℕ) (ys : List Call) (s : State) → Ok s → get_elem? ys p ≡ some x
        → ((j : ℕ) (l : Call) → j < p → get_elem? ys j ≡ some l → ¬ Share names x l) → Fronted x p ys s
    front x p [] s ok e far = absurd (none-ne-some x e)
    front x zero (y ∷ ys) s ok e far =
        let same : y ≡ x = some-injective y x e in
        record {
          state = ap (λ (k : Call). run step ys (step k s)) same;
          own = ap {B = Option Answer} (λ (k : Call). some (answer k s)) same;
          others = λ j. ap (λ (k : Call). get_elem? (answers step answer ys (step k s)) j) same;
        }
    front x (suc p) (y ∷ ys) s ok e far =
        let swap : Commutes x y s = commute x y (far 0 y (zero-lt-suc p) refl) s ok in
        let rest : Fronted x p ys (step y s) = front x p ys (step y s) (keeps y s ok) e (λ j l h. far (suc j) l (suc-le-suc h)) in
        record {
          state = rest.state ∙ ap (run step (without p ys)) swap.state;
          own = rest.own ∙ ap {B = Option Answer} some swap.first;
          others = elim [
            | zero ↦ ap {B = Option Answer} some (sym swap.second)
            | suc j ↦ rest.others j ∙ ap (λ (t : State). get_elem? (answers step answer (without p ys) t) j) swap.state
          ];
        }

    -- the same calls in an order that keeps every two that share a name: equal end states, and to each call the answer that its
    -- partner gets
    pub reordering : (xs ys : List Call) (m : Matching names xs ys) (s : State) → Ok s
        → (run step xs s ≡ run step ys s)
        × ((i : ℕ) → i < length xs → get_elem? (answers step answer xs s) i ≡ get_elem? (answers step answer ys s) (m.to i))
    unfolding rest_of
    reordering [] [] m s ok = (refl, λ i h. refl)
    reordering [] (y ∷ ys) m s ok = absurd (not-suc-le-zero (m.from_in 0 (zero-lt-suc _)))
    reordering (x ∷ xs) ys m s ok =
        let p : ℕ = m.to 0 in
        let f : Fronted x p ys s = front x p ys s ok (m.same 0 (zero-lt-suc _)) (ahead names x xs ys m) in
        let (states, given) = reordering xs (without p ys) (rest_of names x xs ys m) (step x s) (keeps x s ok) in (
          states ∙ sym f.state,
          elim [
            | zero ↦ λ h. sym f.own
            | suc i ↦ λ h. given i (le_of_suc-le-suc h) ∙ sym (f.others (close p (m.to (suc i))))
                ∙ ap (get_elem? (answers step answer ys s)) (skip-close p (m.to (suc i)) (other_place names x xs ys m i (le_of_suc-le-suc h)))
          ],
        )
