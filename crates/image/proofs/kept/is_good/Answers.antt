-- Each of its tests says what a part of `good_word` says.
use Rattle.std.proofs.Common.{ℕ, ◌+◌, ◌*◌, ◌/◌, ◌%◌, ◌^◌, ◌<◌, ◌≡◌, refl, sym, Bool, true, false, cond, true≢false, arith, ltb-true, lt-ltb, eqb-true, eq-eqb, ne_eqb}
use Rattle.std.specs.Prelude.{not, ◌&&◌, ◌||◌, eqb, ltb}
use Rattle.std.proofs.Math.Bool.{and-false, and_assoc}
use Rattle.std.proofs.lemmas.Bool.{false≢true, eqb-false, not-true}
use Rattle.std.proofs.Math.Nat.{div-div-eq-div-mul}
use Rattle.theory.specs.Bools.{both, refuted}
use Rattle.image.specs.Bytes.{byte_of}
use Rattle.image.specs.Kept.{claimed_in, fixed_in, routed_in, masked_in, good_word}
use Rattle.image.proofs.kept.is_good.Goals as goal

-- two tests that follow from each other
same_test : (a b : Bool) → (a ≡ true → b ≡ true) → (b ≡ true → a ≡ true) → a ≡ b
same_test true true f g = refl
same_test true false f g = absurd (false≢true (f refl))
same_test false true f g = absurd (false≢true (g refl))
same_test false false f g = refl

-- two bits, one above the other, as a number under 4
two-bits : (d e : ℕ) → e ≡ d / 2 → d % 4 ≡ d % 2 + 2 * (e % 2)
two-bits d e h = omega arith

-- the low half of a record: bits 9 and 10, the spare bits above them, and what is below
low_half : (w d s : ℕ) → d ≡ w / 2 ^ 9 → s ≡ d / 4 → w % 2 ^ 16 ≡ w % 2 ^ 9 + 2 ^ 9 * (d % 4) + 2 ^ 11 * (s % 32)
low_half w d s p q =
    let low : w % 2 ^ 16 ≡ w % 2 ^ 9 + 2 ^ 9 * (d % 2 ^ 7) = omega arith in
    let high : d % 2 ^ 7 ≡ d % 4 + 4 * (s % 32) = omega arith in
    omega arith

-- byte 1 is under 6: no spare bit, and not both a route and a mask
byte_one : (w : ℕ) → ltb (w % 2 ^ 16) 0x600 ≡ (eqb (w / 2 ^ 11 % 32) 0 && not (routed_in w && masked_in w))
byte_one w = same_test _ _ forth back
  where
    laid : w % 2 ^ 16 ≡ w % 2 ^ 9 + 2 ^ 9 * (w / 2 ^ 9 % 2 + 2 * (w / 2 ^ 10 % 2)) + 2 ^ 11 * (w / 2 ^ 11 % 32)
    laid =
        rw (← two-bits (w / 2 ^ 9) (w / 2 ^ 10) (sym (div-div-eq-div-mul w (2 ^ 9) 2)))
        (low_half w (w / 2 ^ 9) (w / 2 ^ 11) refl (sym (div-div-eq-div-mul w (2 ^ 9) 4)))

    forth : ltb (w % 2 ^ 16) 0x600 ≡ true → (eqb (w / 2 ^ 11 % 32) 0 && not (routed_in w && masked_in w)) ≡ true
    forth h =
        let less = ltb-true (w % 2 ^ 16) 0x600 h in
        let spare : eqb (w / 2 ^ 11 % 32) 0 ≡ true = eq-eqb (w / 2 ^ 11 % 32) 0 (omega (arith, laid)) in
        let apart : (routed_in w && masked_in w) ≡ false =
        refuted _ (λ t. let (r, m) = both (routed_in w) (masked_in w) t in omega (arith, laid, eqb-true (w / 2 ^ 9 % 2) 1 r, eqb-true (w / 2 ^ 10 % 2) 1 m)) in
        rw (spare, apart)

    small : (r m : Bool) → routed_in w ≡ r → masked_in w ≡ m → (r && m) ≡ false → w / 2 ^ 11 % 32 ≡ 0 → w % 2 ^ 16 < 0x600
    small true true p q e spare = absurd (true≢false e)
    small true false p q e spare = omega (arith, laid, eqb-false (w / 2 ^ 10 % 2) 1 q)
    small false m p q e spare = omega (arith, laid, eqb-false (w / 2 ^ 9 % 2) 1 p)

    back : (eqb (w / 2 ^ 11 % 32) 0 && not (routed_in w && masked_in w)) ≡ true → ltb (w % 2 ^ 16) 0x600 ≡ true
    back h =
        let (s, n) = both _ (not (routed_in w && masked_in w)) h in
        lt-ltb (w % 2 ^ 16) 0x600 (small (routed_in w) (masked_in w) refl refl (not-true _ n) (eqb-true (w / 2 ^ 11 % 32) 0 s))

-- bits 7 and 8 are not 2: not fixed, or claimed
fixed-claimed : (w : ℕ) → not (eqb (w / 2 ^ 7 % 4) 2) ≡ (not (fixed_in w) || claimed_in w)
fixed-claimed w = go (fixed_in w) (claimed_in w) refl refl
  where
    four : w / 2 ^ 7 % 4 ≡ w / 2 ^ 7 % 2 + 2 * (w / 2 ^ 8 % 2)
    four = two-bits (w / 2 ^ 7) (w / 2 ^ 8) (sym (div-div-eq-div-mul w (2 ^ 7) 2))

    go : (f k : Bool) → fixed_in w ≡ f → claimed_in w ≡ k → not (eqb (w / 2 ^ 7 % 4) 2) ≡ (not f || k)
    go true true p q = rw (ne_eqb (w / 2 ^ 7 % 4) 2 (λ e. omega (arith, four, eqb-true (w / 2 ^ 8 % 2) 1 p, eqb-true (w / 2 ^ 7 % 2) 1 q)))
    go true false p q = rw (eq-eqb (w / 2 ^ 7 % 4) 2 (omega (arith, four, eqb-true (w / 2 ^ 8 % 2) 1 p, eqb-false (w / 2 ^ 7 % 2) 1 q)))
    go false k p q = rw (ne_eqb (w / 2 ^ 7 % 4) 2 (λ e. omega (arith, four, eqb-false (w / 2 ^ 8 % 2) 1 p)))

-- nothing stands where a value is absent
nothing-there : (w : ℕ) → not (routed_in w && masked_in w) ≡ true
    → ltb (cond (routed_in w) (w % 2 ^ 32) w) (cond (masked_in w) (2 ^ 32) (2 ^ 24)) ≡ ((routed_in w || eqb (w / 2 ^ 32) 0) && (masked_in w || eqb (byte_of 3 w) 0))
nothing-there w apart = go (routed_in w) (masked_in w) apart
  where
    go : (r m : Bool) → not (r && m) ≡ true → ltb (cond r (w % 2 ^ 32) w) (cond m (2 ^ 32) (2 ^ 24)) ≡ ((r || eqb (w / 2 ^ 32) 0) && (m || eqb (byte_of 3 w) 0))
    go true true e = absurd (true≢false (not-true true e))
    go true false e = same_test _ _ (λ h. eq-eqb (byte_of 3 w) 0 (omega (arith, ltb-true (w % 2 ^ 32) (2 ^ 24) h))) (λ h. lt-ltb (w % 2 ^ 32) (2 ^ 24) (omega (arith, eqb-true (byte_of 3 w) 0 h)))
    go false true e =
        same_test _ _ (λ h. rw (eq-eqb (w / 2 ^ 32) 0 (omega (arith, ltb-true w (2 ^ 32) h)))) (λ h. let (u, v) = both (eqb (w / 2 ^ 32) 0) true h in lt-ltb w (2 ^ 32) (omega (arith, eqb-true (w / 2 ^ 32) 0 u)))
    go false false e =
        same_test _ _
        (λ h. let less = ltb-true w (2 ^ 24) h in rw (eq-eqb (w / 2 ^ 32) 0 (omega arith), eq-eqb (byte_of 3 w) 0 (omega arith)))
        (λ h. let (u, v) = both (eqb (w / 2 ^ 32) 0) _ h in lt-ltb w (2 ^ 24) (omega (arith, eqb-true (w / 2 ^ 32) 0 u, eqb-true (byte_of 3 w) 0 v)))

-- the tests together
all : (s n k u v a b c : Bool) → a ≡ (s && n) → b ≡ k → (n ≡ true → c ≡ (u && v)) → ((a && b) && c) ≡ ((((s && n) && k) && u) && v)
all s false k u v a b c p q r = rw (p, and-false s)
all s true true u v a b c p q r = rw (p, q, r refl) (sym (and_assoc ((s && true) && true) u v))
all s true false u v a b c p q r = rw (p, q, and-false)

pub returns : goal.returns
unfolding good_word
returns c =
    let w = c.args.word in
    rw (c.below_route.ensures, c.mask_end.ensures)
    (all (eqb (w / 2 ^ 11 % 32) 0) _ _ (routed_in w || eqb (w / 2 ^ 32) 0) (masked_in w || eqb (byte_of 3 w) 0) _ _ _ (byte_one w) (fixed-claimed w) (nothing-there w))
