-- Laws of the table's INTIDs and places.
use Rattle.std.specs.Prelude.{ℕ, ◌+◌, ◌-◌, ◌≤◌, ◌<◌, ◌≡◌, refl, Bool, true, false, cond, [], ◌∷◌, ◌↔◌, leb, Result, Ok, Err, ⊤}
use Rattle.std.proofs.Common.{arith, ap, leb-true, leb-false, ltb-true, le-leb, lt-ltb}
use Rattle.std.proofs.lemmas.Bool.{lt-leb}
use Rattle.theory.specs.Bools.{both, refuted}
use Rattle.identifiers.specs.Answer.{done, refused, told_refusal, within}
use Rattle.identifiers.proofs.AnswerLaws.{told-refusal, told_once}
use Rattle.identifiers.specs.declared.error.Refusal.{Refusal}
use Rattle.identifiers.specs.declared.error.Refusal.TheVariants.{InvalidIntId}
use Rattle.place.specs.Table.{create_answer, created_count, table_size, in_table, beyond_table, span_of, told_create, told_place, place_answer}
use Rattle.place.specs.declared.place.Place.{Place}

-- ---- which INTIDs a table of n SPIs has

pub within_both : (lo end i : ℕ) → within lo end i ≡ true ↔ (lo ≤ i) × (i < end)
within_both lo end i = (
  (λ e. let (low, high) = both (leb lo i) _ e in (leb-true _ _ low, ltb-true _ _ high)),
  (λ h. simp (le-leb _ _ h.0, lt-ltb _ _ h.1)),
)

-- SPIs are numbered from 32 on
pub has : (n i : ℕ) → in_table n i ≡ true ↔ (32 ≤ i) × (i < 32 + n)
has n i = within_both 32 (32 + n) i

pub in_range : (n i : ℕ) → in_table n i ≡ true → (32 ≤ i) × (i < 32 + n)
in_range n i e = (has n i).0 e

-- with explicit claims the guest is refused over the INTIDs past the table that could be SPIs: the last of those is 1019
pub beyond : (explicit : Bool) (n i : ℕ) → beyond_table explicit n i ≡ true ↔ (explicit ≡ true) × (32 + n ≤ i) × (i < 1020)
beyond explicit n i = (
  (λ e. let (x, inside) = both explicit _ e in let (low, high) = (within_both (32 + n) 1020 i).0 inside in (x, low, high)),
  (λ h. rw h.0 ((within_both (32 + n) 1020 i).1 (h.1, h.2))),
)

-- of the m INTIDs from lo on, a span is those that the table has
pub span_has : (n lo m i : ℕ) → ((span_of n lo m).first ≤ i) × (i < (span_of n lo m).end) ↔ (lo ≤ i) × (i < lo + m) × (in_table n i ≡ true)
span_has n lo m i = (
  (λ h. (omega arith, omega arith, (has n i).1 (omega arith))),
  (λ h. let r = in_range n i h.2 in omega arith),
)

-- ---- creation

-- a table has room for 988 SPIs: so many are made as were asked for
pub creation_done : (n : ℕ) → n ≤ 988 → (create_answer n ≡ done []) × (created_count n ≡ n)
creation_done n h = let e = le-leb n 988 h in ((rw e), (rw e))

-- more are refused 1, carrying 1020, the first INTID past the SPIs; none is made
pub creation_refused : (n : ℕ) → create_answer n ≡ refused 1 (1020 ∷ []) ↔ 988 < n
creation_refused n = (
  (λ r. let more : leb n 988 ≡ false = refuted (leb n 988) (λ e. let z : ◌≡◌ {A = ℕ} 0 1 = cc (creation_done n (leb-true n 988 e)).0 in omega arith) in leb-false n 988 more),
  (λ h. rw (lt-leb n 988 h)),
)

pub refused_none : (n : ℕ) → 988 < n → created_count n ≡ 0
refused_none n h = rw (lt-leb n 988 h)

-- a table is as large as was asked for, up to 988
pub size-asked : (n : ℕ) → n ≤ 988 → table_size n ≡ n
size-asked n h = omega arith

pub size_most : (n : ℕ) → table_size n ≤ 988
size_most n = omega arith

-- ---- places

-- what the maker's answer says
pub at_place : (n i p : ℕ) → done (p ∷ []) ≡ place_answer n i → (in_table n i ≡ true) × (p ≡ i - 32)
at_place n i p h = go (in_table n i) refl h
  where
    go : (t : Bool) → in_table n i ≡ t → done (p ∷ []) ≡ cond t (done ((i - 32) ∷ [])) (refused 1 (i ∷ [])) → (in_table n i ≡ true) × (p ≡ i - 32)
    go true q k = (q, cc)
    go false q k = (cc, cc)

pub off_place : (n i : ℕ) (f : Refusal) → told_refusal f ≡ place_answer n i → (in_table n i ≡ false) × (f ≡ InvalidIntId i)
off_place n i f h = go (in_table n i) refl h
  where
    go : (t : Bool) → in_table n i ≡ t → told_refusal f ≡ cond t (done ((i - 32) ∷ [])) (refused 1 (i ∷ [])) → (in_table n i ≡ false) × (f ≡ InvalidIntId i)
    go true q k = (cc, cc)
    go false q k = (q, told-refusal f (InvalidIntId i) k)

-- no two answers of the maker are told alike
pub told-place : (a b : Result Place Refusal) → told_place a ≡ told_place b → a ≡ b
told-place = told_once _ (λ p q e. cc)

pub told_create_lem : (a b : Result ⊤ Refusal) → told_create a ≡ told_create b → a ≡ b
told_create_lem = told_once _ (λ x y e. refl)
