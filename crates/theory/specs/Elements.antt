-- What stands at a place of a list, and nothing past its end.
use Rattle.std.specs.Prelude.{ℕ, zero, suc, ◌+◌, ◌≤◌, ◌<◌, ◌≡◌, refl, List, [], ◌∷◌, ◌++◌, length, get_or}
use Rattle.std.proofs.Common.{suc-le-suc, ap, zero-lt-suc, le_of_suc-le-suc, arith}
use Rattle.std.proofs.Math.Option.{Option, some, map, none-ne-some, some-ne-none, some-injective}
use Rattle.std.proofs.Math.ListN.{get_elem?}
use Rattle.theory.specs.Lists.{map_from, map_at, tabulate, laid}

module _ {A : Type 0} where
  pub at_some : (l : List A) (i : ℕ) (x : A) → get_elem? l i ≡ some x → i < length l
  at_some [] i x e = absurd (none-ne-some x e)
  at_some (y ∷ ys) zero x e = zero-lt-suc _
  at_some (y ∷ ys) (suc i) x e = suc-le-suc (at_some ys i x e)

  pub at-holds : (l : List A) (i : ℕ) (d x : A) → get_elem? l i ≡ some x → get_or l i d ≡ x
  at-holds [] i d x e = absurd (none-ne-some x e)
  at-holds (y ∷ ys) zero d x e = some-injective y x e
  at-holds (y ∷ ys) (suc i) d x e = at-holds ys i d x e

  -- two lists with the same at a place have the same there with a default
  pub get_or-at : (l m : List A) (i : ℕ) (d : A) → get_elem? l i ≡ get_elem? m i → get_or l i d ≡ get_or m i d
  get_or-at [] [] i d e = refl
  get_or-at [] (y ∷ ys) zero d e = absurd (none-ne-some y e)
  get_or-at [] (y ∷ ys) (suc i) d e = get_or-at [] ys i d e
  get_or-at (x ∷ xs) [] zero d e = absurd (some-ne-none x e)
  get_or-at (x ∷ xs) [] (suc i) d e = get_or-at xs [] i d e
  get_or-at (x ∷ xs) (y ∷ ys) zero d e = some-injective x y e
  get_or-at (x ∷ xs) (y ∷ ys) (suc i) d e = get_or-at xs ys i d e

  -- two lists that have the same at every place are equal
  pub at_all : (l m : List A) → ((i : ℕ) → get_elem? l i ≡ get_elem? m i) → l ≡ m
  at_all [] [] h = refl
  at_all [] (y ∷ ys) h = absurd (none-ne-some y (h 0))
  at_all (x ∷ xs) [] h = absurd (some-ne-none x (h 0))
  at_all (x ∷ xs) (y ∷ ys) h =
      let p : x ≡ y = some-injective x y (h 0) in
      let q : xs ≡ ys = at_all xs ys (λ i. h (suc i)) in
      λ k. p k ∷ q k

  at-map_from : (f : ℕ → A → A) (k : ℕ) (l : List A) (i j : ℕ) → j ≡ k + i → get_elem? (map_from f k l) i ≡ map (f j) (get_elem? l i)
  at-map_from f k [] i j e = refl
  at-map_from f k (x ∷ xs) zero j e = let p : k ≡ j = omega arith in ap {B = Option A} (λ (m : ℕ). some (f m x)) p
  at-map_from f k (x ∷ xs) (suc i) j e = at-map_from f (suc k) xs i j (omega arith)

  pub at-map_at : (f : ℕ → A → A) (l : List A) (i : ℕ) → get_elem? (map_at f l) i ≡ map (f i) (get_elem? l i)
  at-map_at f l i = at-map_from f 0 l i i (omega arith)

  -- what stands in a tabulated list
  pub element_of_tabulate : (f : ℕ → A) (k n i : ℕ) (x : A) → get_elem? (tabulate f k n) i ≡ some x → f (k + i) ≡ x
  element_of_tabulate f k zero i x e = absurd (none-ne-some x e)
  element_of_tabulate f k (suc n) zero x e = let z : k + 0 ≡ k = omega arith in rw z (some-injective (f k) x e)
  element_of_tabulate f k (suc n) (suc i) x e = let z : k + suc i ≡ suc k + i = omega arith in rw z (element_of_tabulate f (suc k) n i x e)

  append-first : (xs ys : List A) (i : ℕ) → i < length xs → get_elem? (xs ++ ys) i ≡ get_elem? xs i
  append-first [] ys i h = absurd (omega arith)
  append-first (x ∷ xs) ys zero h = refl
  append-first (x ∷ xs) ys (suc i) h = append-first xs ys i (le_of_suc-le-suc h)

  -- a list with the elements of xs in its first places: those places hold them, the others what they held
  pub laid-first : (xs l : List A) (i : ℕ) → i < length xs → get_elem? (laid xs l) i ≡ get_elem? xs i
  laid-first xs l i h = append-first xs _ i h

  pub laid_past : (xs l : List A) (i : ℕ) → length xs ≤ length l → length xs ≤ i → get_elem? (laid xs l) i ≡ get_elem? l i
  laid_past [] l i f h = refl
  laid_past (x ∷ xs) l zero f h = absurd (omega arith)
  laid_past (x ∷ xs) [] (suc i) f h = absurd (omega arith)
  laid_past (x ∷ xs) (y ∷ ys) (suc i) f h = laid_past xs ys i (le_of_suc-le-suc f) (le_of_suc-le-suc h)
