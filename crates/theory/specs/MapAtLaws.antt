-- Laws of `map_at`: a store at one place is a map, and a loop of stores grows one.
use Rattle.std.specs.Prelude.{ℕ, zero, suc, ◌+◌, ◌≤◌, ◌<◌, ◌≡◌, refl, ◌≢◌, List, [], ◌∷◌, length, get_or, set}
use Rattle.std.proofs.Common.{sym, ap, ◌∙◌, le_of_suc-le-suc, arith}
use Rattle.theory.specs.Lists.{map_from, map_at}

module _ {A : Type 0} where
  map_from_same : (f g : ℕ → A → A) (k : ℕ) (l : List A) → ((i : ℕ) (x : A) → k ≤ i → f i x ≡ g i x) → map_from f k l ≡ map_from g k l
  map_from_same f g k [] h = refl
  map_from_same f g k (x ∷ xs) h =
      let p : f k x ≡ g k x = h k x (omega arith) in
      let q : map_from f (suc k) xs ≡ map_from g (suc k) xs = map_from_same f g (suc k) xs (λ i y m. h i y (omega arith)) in
      λ j. p j ∷ q j

  pub map_at_same : (f g : ℕ → A → A) (l : List A) → ((i : ℕ) (x : A) → f i x ≡ g i x) → map_at f l ≡ map_at g l
  map_at_same f g l h = map_from_same f g 0 l (λ i x m. h i x)

  map_from_still : (f : ℕ → A → A) (k : ℕ) (l : List A) → ((i : ℕ) (x : A) → f i x ≡ x) → map_from f k l ≡ l
  map_from_still f k [] h = refl
  map_from_still f k (x ∷ xs) h = let p = h k x in let q = map_from_still f (suc k) xs h in λ j. p j ∷ q j

  -- a map that changes nothing
  pub map_at_still : (f : ℕ → A → A) (l : List A) → ((i : ℕ) (x : A) → f i x ≡ x) → map_at f l ≡ l
  map_at_still f l h = map_from_still f 0 l h

  get_or-map_from : (f : ℕ → A → A) (k i : ℕ) (l : List A) (d : A) → ((x : A) → f (k + i) x ≡ x) → get_or (map_from f k l) i d ≡ get_or l i d
  get_or-map_from f k i [] d h = refl
  get_or-map_from f k zero (x ∷ xs) d h = let e : k ≡ k + 0 = omega arith in ap (λ (j : ℕ). f j x) e ∙ h x
  get_or-map_from f k (suc i) (x ∷ xs) d h =
      let e : suc k + i ≡ k + suc i = omega arith in
      get_or-map_from f (suc k) i xs d (λ y. ap (λ (j : ℕ). f j y) e ∙ h y)

  -- a place that a map leaves alone
  pub get_or-map_at : (f : ℕ → A → A) (i : ℕ) (l : List A) (d : A) → ((x : A) → f i x ≡ x) → get_or (map_at f l) i d ≡ get_or l i d
  get_or-map_at f i l d h = let e : 0 + i ≡ i = omega arith in get_or-map_from f 0 i l d (λ x. ap (λ (j : ℕ). f j x) e ∙ h x)

  mapped_from : (f : ℕ → A → A) (k i j : ℕ) (l : List A) (d : A) → j ≡ k + i → i < length l → get_or (map_from f k l) i d ≡ f j (get_or l i d)
  mapped_from f k i j [] d e h = absurd (omega arith)
  mapped_from f k zero j (x ∷ xs) d e h = let z : k ≡ j = omega arith in ap (λ (q : ℕ). f q x) z
  mapped_from f k (suc i) j (x ∷ xs) d e h = mapped_from f (suc k) i j xs d (omega arith) (le_of_suc-le-suc h)

  -- a place that the list has
  pub mapped_at : (f : ℕ → A → A) (i : ℕ) (l : List A) (d : A) → i < length l → get_or (map_at f l) i d ≡ f i (get_or l i d)
  mapped_at f i l d h = mapped_from f 0 i i l d (omega arith) h

  length-map_from : (f : ℕ → A → A) (k : ℕ) (l : List A) → length (map_from f k l) ≡ length l
  length-map_from f k [] = refl
  length-map_from f k (x ∷ xs) = ap suc (length-map_from f (suc k) xs)

  pub length-map_at : (f : ℕ → A → A) (l : List A) → length (map_at f l) ≡ length l
  length-map_at f l = length-map_from f 0 l

  relates_map_from : (R : A → A → Type 0) (f : ℕ → A → A) (k i j : ℕ) (l : List A) (d : A) → j ≡ k + i
      → R d d → R (get_or l i d) (f j (get_or l i d)) → R (get_or l i d) (get_or (map_from f k l) i d)
  relates_map_from R f k i j [] d e past here = past
  relates_map_from R f k zero j (x ∷ xs) d e past here = let z : j ≡ k = omega arith in rw z at here
  relates_map_from R f k (suc i) j (x ∷ xs) d e past here = relates_map_from R f (suc k) i j xs d (omega arith) past here

  -- how a place is related to what a map makes of it: as its element is, or past the end the default
  pub relates_map_at : (R : A → A → Type 0) (f : ℕ → A → A) (i : ℕ) (l : List A) (d : A)
      → R d d → R (get_or l i d) (f i (get_or l i d)) → R (get_or l i d) (get_or (map_at f l) i d)
  relates_map_at R f i l d past here = relates_map_from R f 0 i i l d (omega arith) past here

  map_from_edit : (f g : ℕ → A → A) (h : A → A) (d : A) (k p q : ℕ) (l : List A) → q ≡ k + p
      → ((x : A) → h (f q x) ≡ g q x) → ((i : ℕ) (x : A) → i ≢ q → f i x ≡ g i x)
      → set (map_from f k l) p (h (get_or (map_from f k l) p d)) ≡ map_from g k l
  map_from_edit f g h d k p q [] e here else = refl
  map_from_edit f g h d k zero q (x ∷ xs) e here else =
      let z : k ≡ q = omega arith in
      let a : h (f k x) ≡ g k x = ap (λ (j : ℕ). h (f j x)) z ∙ here x ∙ ap (λ (j : ℕ). g j x) (sym z) in
      let b = map_from_same f g (suc k) xs (λ i y m. else i y (λ w. omega arith)) in
      λ j. a j ∷ b j
  map_from_edit f g h d k (suc p) q (x ∷ xs) e here else =
      let a : f k x ≡ g k x = else k x (λ w. omega arith) in
      let b = map_from_edit f g h d (suc k) p q xs (omega arith) here else in
      λ j. a j ∷ b j

  -- one place more: what stood there, rewritten by h
  pub map_at_edit : (f g : ℕ → A → A) (h : A → A) (d : A) (p : ℕ) (l : List A)
      → ((x : A) → h (f p x) ≡ g p x) → ((i : ℕ) (x : A) → i ≢ p → f i x ≡ g i x)
      → set (map_at f l) p (h (get_or (map_at f l) p d)) ≡ map_at g l
  map_at_edit f g h d p l here else = map_from_edit f g h d 0 p p l (omega arith) here else
