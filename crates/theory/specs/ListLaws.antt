-- Laws of lists place by place.
use Rattle.std.specs.Prelude.{ℕ, zero, suc, ◌+◌, ◌-◌, ◌≤◌, ◌<◌, min, max, ◌≡◌, refl, ◌≢◌, Bool, true, false, cond, List, [], ◌∷◌, ◌++◌, length, get_or, set, replicate}
use Rattle.std.proofs.Common.{sym, ap, ◌∙◌, le_of_suc-le-suc, not-suc-le-zero, add-zero, zero-add, arith, length-append, length-drop}
use Rattle.std.proofs.Math.Path.{fun_ext}
use Rattle.std.proofs.Math.Logic.{by_cases}
use Rattle.std.proofs.Math.Decide.{dec_le, dec_lt}
use Rattle.theory.specs.Bools.{refuted}
use Rattle.theory.specs.Lists.{tabulate, laid, passing}

module _ {A : Type 0} where
  pub length-laid : (xs l : List A) → length xs ≤ length l → length (laid xs l) ≡ length l
  length-laid xs l h = simp (length-append, length-drop) (omega arith)

  pub length-tabulate : (f : ℕ → A) (k n : ℕ) → length (tabulate f k n) ≡ n
  length-tabulate f k zero = refl
  length-tabulate f k (suc n) = ap suc (length-tabulate f (suc k) n)

  pub get_or-tabulate : (f : ℕ → A) (k n i : ℕ) (d : A) → i < n → get_or (tabulate f k n) i d ≡ f (k + i)
  get_or-tabulate f k zero i d h = absurd (not-suc-le-zero h)
  get_or-tabulate f k (suc n) zero d h = rw (add-zero k)
  get_or-tabulate f k (suc n) (suc i) d h = get_or-tabulate f (suc k) n i d (le_of_suc-le-suc h) ∙ (let e : suc k + i ≡ k + suc i = omega arith in rw e)

  -- two functions that give the same table are the same below its length: a rule of a table is one computed equation
  pub everywhere : (f g : ℕ → A) (n : ℕ) → tabulate f 0 n ≡ tabulate g 0 n → (i : ℕ) → i < n → f i ≡ g i
  everywhere f g n e i h =
      let z : 0 + i ≡ i = omega arith in
      ap f (sym z) ∙ sym (get_or-tabulate f 0 n i (f 0) h) ∙ ap (λ (l : List A). get_or l i (f 0)) e ∙ get_or-tabulate g 0 n i (f 0) h ∙ ap g z

  tabulate_same : (f g : ℕ → A) (k n : ℕ) → ((i : ℕ) → k ≤ i → f i ≡ g i) → tabulate f k n ≡ tabulate g k n
  tabulate_same f g k zero h = refl
  tabulate_same f g k (suc n) h =
      let p = h k (omega arith) in
      let q = tabulate_same f g (suc k) n (λ i l. h i (omega arith)) in
      λ j. p j ∷ q j

  -- a store in a table
  tabulate-from : (f g : ℕ → A) (k n p q : ℕ) → q ≡ k + p → ((i : ℕ) → i ≢ q → f i ≡ g i) → set (tabulate f k n) p (g q) ≡ tabulate g k n
  tabulate-from f g k zero p q e h = refl
  tabulate-from f g k (suc n) zero q e h =
      let z : q ≡ k = omega arith in
      let a : g q ≡ g k = ap g z in
      let b = tabulate_same f g (suc k) n (λ i l. h i (λ w. omega arith)) in
      λ j. a j ∷ b j
  tabulate-from f g k (suc n) (suc p) q e h =
      let a : f k ≡ g k = h k (λ w. omega arith) in
      let b = tabulate-from f g (suc k) n p q (omega arith) h in
      λ j. a j ∷ b j

  pub tabulate_edit : (f g : ℕ → A) (n p : ℕ) → ((i : ℕ) → i ≢ p → f i ≡ g i) → set (tabulate f 0 n) p (g p) ≡ tabulate g 0 n
  tabulate_edit f g n p h = tabulate-from f g 0 n p p (omega arith) h

  pub tabulate_all : (x : A) (k n : ℕ) → replicate n x ≡ tabulate (λ i. x) k n
  tabulate_all x k zero = refl
  tabulate_all x k (suc n) = ap (λ (l : List A). x ∷ l) (tabulate_all x (suc k) n)

-- how many numbers pass a test that only numbers from a up to below end can pass
module _ (t : ℕ → Bool) (a end : ℕ) (inside : (i : ℕ) → t i ≡ true → (a ≤ i) × (i < end)) where
  passing-from : (k n : ℕ) → length (passing t k n) ≤ end - max k a
  passing-from k zero = omega arith
  passing-from k (suc n) = go (t k) refl (passing-from (suc k) n)
    where
      go : (b : Bool) → t k ≡ b → length (passing t (suc k) n) ≤ end - max (suc k) a → length (cond b (k ∷ passing t (suc k) n) (passing t (suc k) n)) ≤ end - max k a
      go true e h = let p = inside k e in omega arith
      go false e h = omega arith

  -- those from lo on are those of the numbers between that could pass
  pub passing-inside : (lo m : ℕ) → passing t lo m ≡ passing t (max lo a) (min (lo + m) end - max lo a)
  passing-inside lo zero = let z : min (lo + 0) end - max lo a ≡ 0 = omega arith in rw z
  passing-inside lo (suc m) =
      let rest = passing-inside (suc lo) m in
      by_cases (dec_le end lo) (past rest) (λ p. by_cases (dec_lt lo a) (below rest) (λ q. here rest (omega arith) (omega arith)))
    where
      fails : ((a ≤ lo) × (lo < end) → ⊥) → t lo ≡ false
      fails out = refuted (t lo) (λ e. out (inside lo e))

      past : passing t (suc lo) m ≡ passing t (max (suc lo) a) (min (suc lo + m) end - max (suc lo) a) → end ≤ lo → passing t lo (suc m) ≡ passing t (max lo a) (min (lo + suc m) end - max lo a)
      past rest p =
          let f = fails (λ w. omega arith) in
          let x : min (lo + suc m) end - max lo a ≡ 0 = omega arith in
          let y : min (suc lo + m) end - max (suc lo) a ≡ 0 = omega arith in
          rw (f, x) (rest ∙ (rw y))

      below : passing t (suc lo) m ≡ passing t (max (suc lo) a) (min (suc lo + m) end - max (suc lo) a) → lo < a → passing t lo (suc m) ≡ passing t (max lo a) (min (lo + suc m) end - max lo a)
      below rest p =
          let f = fails (λ w. omega arith) in
          let x : max (suc lo) a ≡ max lo a = omega arith in
          let y : suc lo + m ≡ lo + suc m = omega arith in
          rw f (rest ∙ (rw (x, y)))

      here : passing t (suc lo) m ≡ passing t (max (suc lo) a) (min (suc lo + m) end - max (suc lo) a) → a ≤ lo → lo < end → passing t lo (suc m) ≡ passing t (max lo a) (min (lo + suc m) end - max lo a)
      here rest p q =
          let x : max lo a ≡ lo = omega arith in
          let y : min (lo + suc m) end - lo ≡ suc (min (suc lo + m) end - suc lo) = omega arith in
          let z : max (suc lo) a ≡ suc lo = omega arith in
          let r : passing t (suc lo) m ≡ passing t (suc lo) (min (suc lo + m) end - suc lo) = rest ∙ (rw z) in
          rw (x, y, r)

  pub passing_few : (k n : ℕ) → length (passing t k n) ≤ end - a
  passing_few k n = let h = passing-from k n in omega arith

pub passing_most : (t : ℕ → Bool) (k n : ℕ) → length (passing t k n) ≤ n
passing_most t k zero = omega arith
passing_most t k (suc n) = go (t k) (passing_most t (suc k) n)
  where
    go : (b : Bool) → length (passing t (suc k) n) ≤ n → length (cond b (k ∷ passing t (suc k) n) (passing t (suc k) n)) ≤ suc n
    go true h = omega arith
    go false h = omega arith

-- two tests that agree on the numbers that are tried
pub passing_agree : (t u : ℕ → Bool) (k n : ℕ) → ((i : ℕ) → k ≤ i → i < k + n → t i ≡ u i) → passing t k n ≡ passing u k n
passing_agree t u k zero h = refl
passing_agree t u k (suc n) h =
    let here : t k ≡ u k = h k (omega arith) (omega arith) in
    let rest : passing t (suc k) n ≡ passing u (suc k) n = passing_agree t u (suc k) n (λ i p q. h i (omega arith) (omega arith)) in
    rw (here, rest)

-- one number more, at the end
pub passing_more : (t : ℕ → Bool) (k n : ℕ) → passing t k (suc n) ≡ passing t k n ++ cond (t (k + n)) ((k + n) ∷ []) []
passing_more t k zero = rw (add-zero k)
passing_more t k (suc n) =
    let e : suc k + n ≡ k + suc n = omega arith in
    let rest : passing t (suc k) (suc n) ≡ passing t (suc k) n ++ cond (t (k + suc n)) ((k + suc n) ∷ []) [] = rw (← e) (passing_more t (suc k) n) in
    go (t k) rest
  where
    go : (b : Bool) → passing t (suc k) (suc n) ≡ passing t (suc k) n ++ cond (t (k + suc n)) ((k + suc n) ∷ []) []
        → cond b (k ∷ passing t (suc k) (suc n)) (passing t (suc k) (suc n)) ≡ cond b (k ∷ passing t (suc k) n) (passing t (suc k) n) ++ cond (t (k + suc n)) ((k + suc n) ∷ []) []
    go true h = ap (λ (l : List ℕ). k ∷ l) h
    go false h = h

-- those of the first a numbers, then those of the next b
pub passing_split : (t : ℕ → Bool) (k a b : ℕ) → passing t k (a + b) ≡ passing t k a ++ passing t (k + a) b
passing_split t k zero b = rw (zero-add b, add-zero k)
passing_split t k (suc a) b =
    let e : suc a + b ≡ suc (a + b) = omega arith in
    let f : k + suc a ≡ suc k + a = omega arith in
    rw (e, f) (go (t k) (passing_split t (suc k) a b))
  where
    go : (u : Bool) → passing t (suc k) (a + b) ≡ passing t (suc k) a ++ passing t (suc k + a) b
        → cond u (k ∷ passing t (suc k) (a + b)) (passing t (suc k) (a + b)) ≡ cond u (k ∷ passing t (suc k) a) (passing t (suc k) a) ++ passing t (suc k + a) b
    go true h = ap (λ (l : List ℕ). k ∷ l) h
    go false h = h

module _ {A : Type 0} where
  -- one element more is a store at the place after the last
  pub laid_more : (xs l : List A) (x : A) → length xs < length l → set (laid xs l) (length xs) x ≡ laid (xs ++ (x ∷ [])) l
  laid_more [] [] x h = absurd (omega arith)
  laid_more [] (y ∷ ys) x h = refl
  laid_more (z ∷ zs) [] x h = absurd (omega arith)
  laid_more (z ∷ zs) (y ∷ ys) x h = ap (λ (l : List A). z ∷ l) (laid_more zs ys x (le_of_suc-le-suc h))

pub passing_same : (t u : ℕ → Bool) (k n : ℕ) → ((i : ℕ) → t i ≡ u i) → passing t k n ≡ passing u k n
passing_same t u k n h = ap (λ (f : ℕ → Bool). passing f k n) (fun_ext h)

pub passing_never : (t : ℕ → Bool) (k n : ℕ) → ((i : ℕ) → t i ≡ false) → passing t k n ≡ []
passing_never t k zero h = refl
passing_never t k (suc n) h = rw (h k) (passing_never t (suc k) n h)
