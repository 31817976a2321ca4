-- Refusals 5, 3 and 4, each exactly when the paper gives it, in that order. A read is refused 3 and 4 by `illegal` and `wrong_width`;
-- a write by `short_list` before these.
use Rattle.std.specs.Prelude.{ℕ, ◌+◌, ◌%◌, ◌^◌, ◌≤◌, ◌<◌, refl, Bool, ◌↔◌, ◌≢◌, ◌⊎◌, leb, ltb, Ok, Err}
use Rattle.std.proofs.Math.Path.{◌≡◌, ap}
use Rattle.std.proofs.Common.{sym, ◌∙◌, inl, inr, ⊎_elim, arith, leb-true, ltb-true, eqb-true, le-leb, lt-ltb, le-ltb, eq-eqb}
use Rattle.std.proofs.Math.Bool.{true, false, cond}
use Rattle.std.proofs.Math.Logic.{by_cases}
use Rattle.std.proofs.Math.Decide.{dec_le}
use Rattle.theory.specs.Bools.{both, refuted}
use Rattle.identifiers.specs.declared.error.Refusal.{Refusal}
use Rattle.identifiers.specs.declared.error.Refusal.TheVariants.{InvalidAccess, InvalidWidth, ShortList}
use Rattle.registers.specs.declared.register.AccessWidth.{AccessWidth}
use Rattle.registers.specs.declared.register.Direction.{Direction}
use Rattle.registers.specs.declared.register.Direction.TheVariants.{Writing}
use Rattle.registers.specs.declared.register.Register.TheVariants.{Reserved}
use Rattle.registers.specs.Registers.{bytes_of, map, lookup}
use Rattle.registers.specs.FrameLaws.{is_register, needs_another, reached, by_width}
use Rattle.registers.proofs.FrameLaws.{width_decides}
use Rattle.registers.proofs.FrameLaws as frame-laws
use Rattle.decoding.specs.Decoding.{legal, decode, write_access}

-- an access is legal when it ends within the frame and its offset is a multiple of its width
pub legal_when : (frame o : ℕ) (w : AccessWidth) → legal frame o w ≡ true ↔ (o + bytes_of w ≤ frame) × (o % bytes_of w ≡ 0)
legal_when frame o w = (
  (λ e. let (ends, aligned) = both (leb (o + bytes_of w) frame) _ e in (leb-true _ _ ends, eqb-true _ _ aligned)),
  (λ h. rw (le-leb _ _ h.0) (eq-eqb _ _ h.1)),
)

pub illegal_when : (frame o : ℕ) (w : AccessWidth) → legal frame o w ≡ false ↔ (frame < o + bytes_of w) ⊎ (o % bytes_of w ≢ 0)
illegal_when frame o w = (
  (λ e. by_cases (dec_le (o + bytes_of w) frame) (λ ends. inr (λ aligned. let z : ◌≡◌ {A = ℕ} 0 1 = cc ((legal_when frame o w).1 (ends, aligned)) in omega arith)) (λ ends. inl (omega arith))),
  (λ h. refuted (legal frame o w) (λ t. let p = (legal_when frame o w).0 t in ⊎_elim (λ a. omega arith) (λ a. a p.1) h)),
)

module _ (d : Direction) (frame o : ℕ) (w : AccessWidth) where
  -- 3 before 4, and no other refusal
  pub decoded : decode d frame o w ≡ cond (legal frame o w) (by_width d o w (reached (lookup d map o w))) (Err InvalidAccess)
  unfolding decode
  decoded = ap (λ x. cond (legal frame o w) x (Err InvalidAccess)) (width_decides d o w)

  module _ (f : Refusal) where
    only : (l n : Bool) → decode d frame o w ≡ cond l (cond n (Err InvalidWidth) (Ok (reached (lookup d map o w)))) (Err InvalidAccess)
        → decode d frame o w ≡ Err f → ((l ≡ false) × (f ≡ InvalidAccess)) ⊎ ((l ≡ true) × (n ≡ true) × (f ≡ InvalidWidth))
    only true true e r = inr (refl, refl, cc)
    only true false e r = let z : ◌≡◌ {A = ℕ} 0 1 = cc in absurd (omega arith)
    only false n e r = inl (refl, cc)

    -- a refused access is illegal and refused 3, or legal, of a wrong width and refused 4
    pub refused_by : decode d frame o w ≡ Err f
        → ((legal frame o w ≡ false) × (f ≡ InvalidAccess)) ⊎ ((legal frame o w ≡ true) × (needs_another d o w ≡ true) × (f ≡ InvalidWidth))
    refused_by = only (legal frame o w) (needs_another d o w) decoded

  -- refusal 3: the access ends beyond the frame, or its offset is no multiple of its width
  pub illegal : decode d frame o w ≡ Err InvalidAccess ↔ (frame < o + bytes_of w) ⊎ (o % bytes_of w ≢ 0)
  illegal = (
    (λ r. (illegal_when frame o w).0 (⊎_elim (λ a. a.0) (λ a. cc) (refused_by InvalidAccess r))),
    (λ h. rw (decoded, (illegal_when frame o w).1 h)),
  )

  -- a frame's size is a 64-bit number, so an end that passes 2^64 - 1 is refused in every frame
  pub passes_64_bits : frame < 2 ^ 64 → 2 ^ 64 ≤ o + bytes_of w → decode d frame o w ≡ Err InvalidAccess
  passes_64_bits h e = illegal.1 (inl (omega arith))

  -- refusal 4: the access is legal, and its register needs another width
  pub wrong_width : decode d frame o w ≡ Err InvalidWidth ↔ (legal frame o w ≡ true) × (needs_another d o w ≡ true)
  wrong_width = (
    (λ r. ⊎_elim (λ a. let z : ◌≡◌ {A = ℕ} 0 1 = cc in absurd (omega arith)) (λ a. (a.0, a.1)) (refused_by InvalidWidth r)),
    (λ h. rw (decoded, h.0, h.1)),
  )

  -- a legal access to no register reads 0, or is ignored
  pub reserved_legal : decode d frame o w ≡ Ok Reserved ↔ (legal frame o w ≡ true) × (is_register o ≡ false)
  unfolding decode
  reserved_legal = go (legal frame o w)
    where
      go : (l : Bool) → cond l (lookup d map o w) (Err InvalidAccess) ≡ Ok Reserved ↔ (l ≡ true) × (is_register o ≡ false)
      go true = ((λ e. (refl, (frame-laws.reserved d o w).0 e)), (λ h. (frame-laws.reserved d o w).1 h.1))
      go false = ((λ e. let z : ◌≡◌ {A = ℕ} 0 1 = cc in absurd (omega arith)), (λ h. cc))

-- refusal 5, which only a write is given: a lent list with fewer places than the table has SPIs
module _ (places spis frame o : ℕ) (w : AccessWidth) where
  pub short_list : write_access places spis frame o w ≡ Err ShortList ↔ places < spis
  short_list = ((λ r. ltb-true places spis (go (ltb places spis) r)), (λ h. rw (lt-ltb places spis h)))
    where
      go : (b : Bool) → cond b (Err ShortList) (decode Writing frame o w) ≡ Err ShortList → b ≡ true
      go true r = refl
      go false r = ⊎_elim (λ a. cc) (λ a. cc) (refused_by Writing frame o w ShortList r)

  -- with places enough a write is decoded by its offset and width alone
  pub long_list : spis ≤ places → write_access places spis frame o w ≡ decode Writing frame o w
  long_list h = rw (le-ltb places spis h)

  -- so refusals 3 and 4 of a write are those of `illegal` and `wrong_width`, with a list that is long enough
  pub write_refused : (f : Refusal) → f ≢ ShortList → write_access places spis frame o w ≡ Err f ↔ (spis ≤ places) × (decode Writing frame o w ≡ Err f)
  write_refused f other = (
    (λ r.
        let long : spis ≤ places = by_cases (dec_le spis places) (λ p. p) (λ p. absurd (other (let q = short_list.1 (omega arith) in cc))) in
        (long, sym (long_list long) ∙ r)),
    (λ h. long_list h.0 ∙ h.1),
  )
