-- Matchings there are: of two calls swapped, and of a whole list read backward.
use Rattle.std.specs.Prelude.{ℕ, zero, suc, ◌+◌, ◌-◌, ◌<◌, ◌≡◌, refl, Bool, length}
use Rattle.std.proofs.Common.{ap, ◌∙◌, arith}
use mathlib.Core.List.{List, [], ◌∷◌, reverse, reverse_aux}
use Rattle.std.proofs.Math.Option.{some}
use Rattle.std.proofs.Math.ListN.{get_elem?}
use Rattle.std.proofs.lemmas.List.{length-reverse}
use Rattle.theory.specs.Runs.{Share, Matching}

abbrev flip : ℕ → ℕ
flip zero = 1
flip (suc zero) = 0
flip (suc (suc i)) = suc (suc i)

module _ {A : Type 0} where
  at_past : (l r : List A) (i : ℕ) → get_elem? (reverse_aux l r) (length l + i) ≡ get_elem? r i
  at_past [] r i = let e : 0 + i ≡ i = omega arith in rw e
  at_past (x ∷ xs) r i = let e : suc (length xs) + i ≡ length xs + suc i = omega arith in rw e (at_past xs (x ∷ r) (suc i))

  at_reverse_aux : (l r : List A) (i j : ℕ) → suc (i + j) ≡ length l → get_elem? (reverse_aux l r) j ≡ get_elem? l i
  at_reverse_aux [] r i j e = absurd (omega arith)
  at_reverse_aux (x ∷ xs) r zero j e = let p : j ≡ length xs + 0 = omega arith in rw p (at_past xs (x ∷ r) 0)
  at_reverse_aux (x ∷ xs) r (suc i) j e = at_reverse_aux xs (x ∷ r) i j (omega arith)

  at-reverse : (l : List A) (i : ℕ) → i < length l → get_elem? (reverse l) (length l - suc i) ≡ get_elem? l i
  at-reverse l i h = at_reverse_aux l [] i (length l - suc i) (omega arith)

module _ {Call Name : Type 0} (names : Call → Name → Bool) where
  -- the first two calls, which share no name, swapped
  pub swap : (k l : Call) (ks : List Call) → ¬ Share names k l → Matching names (k ∷ l ∷ ks) (l ∷ k ∷ ks)
  swap k l ks far =
      record { to = flip; from = flip; to_in = inside; from_in = inside; from_to = λ i h. back i; to_from = λ i h. back i; same = λ i h. same i; kept = kept }
    where
      inside : (i : ℕ) → i < suc (suc (length ks)) → flip i < suc (suc (length ks))
      inside zero h = omega arith
      inside (suc zero) h = omega arith
      inside (suc (suc i)) h = h

      back : (i : ℕ) → flip (flip i) ≡ i
      back zero = refl
      back (suc zero) = refl
      back (suc (suc i)) = refl

      same : (i : ℕ) → get_elem? (l ∷ k ∷ ks) (flip i) ≡ get_elem? (k ∷ l ∷ ks) i
      same zero = refl
      same (suc zero) = refl
      same (suc (suc i)) = refl

      kept : (i j : ℕ) (a b : Call) → get_elem? (k ∷ l ∷ ks) i ≡ some a → get_elem? (k ∷ l ∷ ks) j ≡ some b → Share names a b → i < j → flip i < flip j
      kept zero zero a b p q w h = absurd (omega arith)
      kept zero (suc zero) a b p q w h =
          let u : k ≡ a = cc in
          let v : l ≡ b = cc in
          absurd (far (w.0, ap (λ (c : Call). names c w.0) u ∙ w.1, ap (λ (c : Call). names c w.0) v ∙ w.2))
      kept zero (suc (suc j)) a b p q w h = omega arith
      kept (suc zero) zero a b p q w h = absurd (omega arith)
      kept (suc zero) (suc zero) a b p q w h = absurd (omega arith)
      kept (suc zero) (suc (suc j)) a b p q w h = omega arith
      kept (suc (suc i)) zero a b p q w h = absurd (omega arith)
      kept (suc (suc i)) (suc zero) a b p q w h = absurd (omega arith)
      kept (suc (suc i)) (suc (suc j)) a b p q w h = h

  -- calls no two of which share a name, the last first
  pub reversal : (ks : List Call) → ((i j : ℕ) (k l : Call) → get_elem? ks i ≡ some k → get_elem? ks j ≡ some l → i < j → ¬ Share names k l)
      → Matching names ks (reverse ks)
  reversal ks far =
      record {
        to = λ i. length ks - suc i;
        from = λ i. length ks - suc i;
        to_in = λ i h. let e = length-reverse ks in omega arith;
        from_in = λ i h. let e = length-reverse ks in omega arith;
        from_to = λ i h. omega arith;
        to_from = λ i h. let e = length-reverse ks in omega arith;
        same = at-reverse ks;
        kept = λ i j k l p q w h. absurd (far i j k l p q h w);
      }
