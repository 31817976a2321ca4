-- Calls leave the settings, the count and what stands past the table. So two runs from one state end in one state if they leave the
-- switch and the table's SPIs the same: of a whole state, an example computes these alone.
use Rattle.std.specs.Prelude.{ℕ, zero, suc, ◌+◌, ◌≤◌, ◌≡◌, refl, List, [], ◌∷◌, ◌++◌, take, drop}
use Rattle.std.proofs.Common.{sym, ◌∙◌, arith, take-append-drop}
use Rattle.theory.specs.Bools.{refuted}
use Rattle.theory.specs.Lists.{map_from}
use Rattle.theory.specs.Runs.{run}
use Rattle.place.specs.TableLaws.{in_range}
use Rattle.model.specs.Calls.{Distributor, Call, size, slot_after, step}
use Rattle.model.specs.SlotLaws.{call_past}

module _ {A : Type 0} where
  drop-map_from : (f : ℕ → A → A) (k n : ℕ) (l : List A) → ((p : ℕ) (x : A) → k + n ≤ p → f p x ≡ x) → drop n (map_from f k l) ≡ drop n l
  drop-map_from f k zero [] h = refl
  drop-map_from f k zero (x ∷ xs) h =
      let p : f k x ≡ x = h k x (omega arith) in
      let q : map_from f (suc k) xs ≡ xs = drop-map_from f (suc k) zero xs (λ i y m. h i y (omega arith)) in
      λ j. p j ∷ q j
  drop-map_from f k (suc n) [] h = refl
  drop-map_from f k (suc n) (x ∷ xs) h = drop-map_from f (suc k) n xs (λ i y m. h i y (omega arith))

run_past : (ks : List Call) (d : Distributor) → drop (size d) (run step ks d).slots ≡ drop (size d) d.slots
unfolding step
run_past [] d = refl
run_past (k ∷ ks) d =
    run_past ks (step k d)
    ∙ drop-map_from (λ p. slot_after d.config (size d) k (32 + p)) 0 (size d) d.slots
    (λ p x h. call_past d.config (size d) (32 + p) x (refuted _ (λ q. let r = in_range (size d) (32 + p) q in omega arith)) k)

run-settings : (ks : List Call) (d : Distributor) → run step ks d ≡ record { config = d.config; switch = (run step ks d).switch; count = d.count; slots = (run step ks d).slots }
unfolding step
run-settings [] d = refl
run-settings (k ∷ ks) d = run-settings ks (step k d)

-- the switch and the table's SPIs, the first places, decide the state that a run ends in
pub ends_same : (d : Distributor) (xs ys : List Call) → (run step xs d).switch ≡ (run step ys d).switch
    → take (size d) (run step xs d).slots ≡ take (size d) (run step ys d).slots → run step xs d ≡ run step ys d
ends_same d xs ys on table =
    let rest : drop (size d) (run step xs d).slots ≡ drop (size d) (run step ys d).slots = run_past xs d ∙ sym (run_past ys d) in
    let all : (run step xs d).slots ≡ (run step ys d).slots = sym (take-append-drop (size d) _) ∙ (λ j. table j ++ rest j) ∙ take-append-drop (size d) _ in
    run-settings xs d ∙ (λ j. record { config = d.config; switch = on j; count = d.count; slots = all j }) ∙ sym (run-settings ys d)
