-- Lists place by place.
use Rattle.std.specs.Prelude.{ℕ, zero, suc, ◌+◌, Bool, cond, List, [], ◌∷◌, ◌++◌, length, drop}

module _ {A : Type 0} where
  -- from the place k on
  abbrev pub map_from : (ℕ → A → A) → ℕ → List A → List A
  map_from f k [] = []
  map_from f k (x ∷ xs) = let y = f k x in y ∷ map_from f (suc k) xs

  -- the list that has f i x where l has x at the place i
  abbrev pub map_at : (ℕ → A → A) → List A → List A
  map_at f l = map_from f 0 l

  -- f k, f (k + 1), .., f (k + n - 1)
  abbrev pub tabulate : (ℕ → A) → ℕ → ℕ → List A
  tabulate f k zero = []
  tabulate f k (suc n) = let x = f k in x ∷ tabulate f (suc k) n

  -- the list l with the elements of xs in its first places
  abbrev pub laid : List A → List A → List A
  laid xs l = xs ++ drop (length xs) l

-- the numbers from k up to below k + n that pass a test, ascending
abbrev pub passing : (ℕ → Bool) → ℕ → ℕ → List ℕ
passing t k zero = []
passing t k (suc n) = cond (t k) (k ∷ passing t (suc k) n) (passing t (suc k) n)
