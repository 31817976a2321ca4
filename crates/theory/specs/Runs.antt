-- Runs of calls, and when one order of calls may stand for another: what the theorems on order speak of. Over any machine: a state,
-- calls that step it and are answered, and what each call names.
use Rattle.std.specs.Prelude.{ℕ, ◌<◌, ◌≡◌, Bool, true, cond, List, [], ◌∷◌, length}
use Rattle.std.proofs.Math.Option.{some}
use Rattle.std.proofs.Math.ListN.{get_elem?}

module _ {Call State : Type 0} (step : Call → State → State) where
  -- the state after some calls, one after another
  abbrev pub run : List Call → State → State
  run [] s = s
  run (k ∷ ks) s = run ks (step k s)

  -- what the calls are answered: at each place of the list, the answer to the call at that place
  abbrev pub answers : {Answer : Type 0} → (Call → State → Answer) → List Call → State → List Answer
  answers answer [] s = []
  answers answer (k ∷ ks) s = answer k s ∷ answers answer ks (step k s)

module _ {Call Name : Type 0} (names : Call → Name → Bool) where
  -- those of the calls that name n, in their order
  abbrev pub naming : Name → List Call → List Call
  naming n [] = []
  naming n (k ∷ ks) = cond (names k n) (k ∷ naming n ks) (naming n ks)

  -- two calls name something in common
  abbrev pub Share : Call → Call → Type 0
  Share k l = (n : Name) × (names k n ≡ true) × (names l n ≡ true)

  -- a one-to-one matching of the places of two lists (`to`, and back by `from`) that keeps each call, and keeps the order of every
  -- two calls that share a name
  pub record Matching (xs ys : List Call) : Type 0 where
    pub to : ℕ → ℕ
    pub from : ℕ → ℕ
    pub to_in : (i : ℕ) → i < length xs → to i < length ys
    pub from_in : (j : ℕ) → j < length ys → from j < length xs
    pub from_to : (i : ℕ) → i < length xs → from (to i) ≡ i
    pub to_from : (j : ℕ) → j < length ys → to (from j) ≡ j
    pub same : (i : ℕ) → i < length xs → get_elem? ys (to i) ≡ get_elem? xs i
    pub kept : (i j : ℕ) (k l : Call) → get_elem? xs i ≡ some k → get_elem? xs j ≡ some l → Share k l → i < j → to i < to j
