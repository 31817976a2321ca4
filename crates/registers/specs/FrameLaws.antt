-- The frame, offset by offset, in the paper's words: where a register lies, and which width it needs. These definitions do not look at
-- the map, so that a wrong row of it breaks a law.
use Rattle.std.specs.Prelude.{ℕ, ◌+◌, ◌-◌, ◌*◌, ◌%◌, ◌≤◌, ◌<◌, ◌≡◌, refl, Bool, true, not, ◌&&◌, ◌||◌, cond, ◌↔◌, eqb, Ok, Err}
use Rattle.std.proofs.Common.{sym, ◌∙◌, arith, eqb-true, eq-eqb}
use Rattle.std.proofs.Math.Bool.{false}
use Rattle.std.proofs.Math.Logic.{by_cases}
use Rattle.std.proofs.Math.Decide.{dec_le}
use Rattle.theory.specs.Bools.{both, refuted}
use Rattle.theory.specs.ListLaws.{everywhere}
use Rattle.identifiers.specs.Answer.{within}
use Rattle.identifiers.specs.declared.error.Refusal.TheVariants.{InvalidWidth}
use Rattle.place.specs.TableLaws.{within_both}
use Rattle.registers.specs.declared.register.AccessWidth.{AccessWidth}
use Rattle.registers.specs.declared.register.AccessWidth.TheVariants.{Byte, Word, Dword, Qword}
use Rattle.registers.specs.declared.register.Direction.{Direction}
use Rattle.registers.specs.declared.register.Direction.TheVariants.{Reading, Writing}
use Rattle.registers.specs.declared.register.Register.{Register}
use Rattle.registers.specs.declared.register.Register.TheVariants.{Identification, Ctlr, Typer, Iidr, Reserved}
use Rattle.registers.specs.Registers.{Access, bytes_of, map, in_row, lookup}

-- at a multiple of 4, from lo up to below end
abbrev pub words : ℕ → ℕ → ℕ → Bool
words lo end o = within lo end o && eqb (o % 4) 0

-- where a register lies: the identification registers, CTLR, TYPER, IIDR, the flag banks, IPRIORITYR, ICFGR, IROUTER
abbrev pub is_register : ℕ → Bool
is_register o =
    words 0xffd0 0x10000 o || eqb o 0x0 || eqb o 0x4 || eqb o 0x8 || words 0x80 0x400 o || within 0x400 0x7fc o || words 0xc00 0xd00 o
    || within 0x6000 0x7fe0 o

-- where a Dword is needed. A write to TYPER, IIDR or IGROUPR (0x80 to 0xfc) is ignored, at any width
abbrev pub needs_dword : Direction → ℕ → Bool
needs_dword Reading o = words 0xffd0 0x10000 o || eqb o 0x0 || eqb o 0x4 || eqb o 0x8 || words 0x80 0x400 o || words 0xc00 0xd00 o
needs_dword Writing o = words 0xffd0 0x10000 o || eqb o 0x0 || words 0x100 0x400 o || words 0xc00 0xd00 o

-- an access of another width than its register needs: IROUTER needs a Qword
abbrev pub needs_another : Direction → ℕ → AccessWidth → Bool
needs_another d o w = cond (needs_dword d o) (not (eqb (bytes_of w) 4)) (within 0x6000 0x7fe0 o && not (eqb (bytes_of w) 8))

-- such an access is refused 4; any other reaches the register
abbrev pub by_width : Direction → ℕ → AccessWidth → Register → Access
by_width d o w g = cond (needs_another d o w) (Err InvalidWidth) (Ok g)

-- the register of an access that is not refused
abbrev pub reached : Access → Register
reached (Ok g) = g
reached (Err f) = Reserved

-- ---- the registers with no INTID

-- CTLR lies at 0x0, TYPER at 0x4, IIDR at 0x8
pub fixed_places : (d : Direction) (w : AccessWidth)
    → (lookup d map 0x0 w ≡ by_width d 0x0 w Ctlr) × (lookup d map 0x4 w ≡ by_width d 0x4 w Typer) × (lookup d map 0x8 w ≡ by_width d 0x8 w Iidr)
fixed_places Reading Byte = (refl, refl, refl)
fixed_places Reading Word = (refl, refl, refl)
fixed_places Reading Dword = (refl, refl, refl)
fixed_places Reading Qword = (refl, refl, refl)
fixed_places Writing Byte = (refl, refl, refl)
fixed_places Writing Word = (refl, refl, refl)
fixed_places Writing Dword = (refl, refl, refl)
fixed_places Writing Qword = (refl, refl, refl)

-- the twelve identification registers lie from 0xffd0 on, one each word
pub identification_places : (d : Direction) (k : ℕ) → k < 12 → lookup d map (0xffd0 + 4 * k) Dword ≡ Ok (Identification k)
identification_places Reading = everywhere (λ k. lookup Reading map (0xffd0 + 4 * k) Dword) (λ k. Ok (Identification k)) 12 refl
identification_places Writing = everywhere (λ k. lookup Writing map (0xffd0 + 4 * k) Dword) (λ k. Ok (Identification k)) 12 refl

-- ---- ranges of offsets

same : (a b : Bool) → (a ≡ true → b ≡ true) → (b ≡ true → a ≡ true) → a ≡ b
same true b f g = sym (f refl)
same false b f g = sym (refuted b (λ e. let z : ◌≡◌ {A = ℕ} 0 1 = cc (g e) in omega arith))

pub in_words : (lo end o : ℕ) → words lo end o ≡ true ↔ (lo ≤ o) × (o < end) × (o % 4 ≡ 0)
in_words lo end o = (
  (λ e.
      let (inside, aligned) = both (within lo end o) _ e in
      let (low, high) = (within_both lo end o).0 inside in
      (low, high, eqb-true _ _ aligned)),
  (λ h. rw ((within_both lo end o).1 (h.0, h.1)) (eq-eqb _ _ h.2)),
)

row_words : (lo end o : ℕ) → lo % 4 ≡ 0 → in_row lo end 4 o ≡ words lo end o
row_words lo end o z =
    same (in_row lo end 4 o) (words lo end o)
    (λ e.
    let (inside, aligned) = both (within lo end o) _ e in
    let (low, high) = (within_both lo end o).0 inside in
    let a = eqb-true ((o - lo) % 4) 0 aligned in
    (in_words lo end o).1 (low, high, omega arith))
    (λ e.
    let (low, high, aligned) = (in_words lo end o).0 e in
    let a : (o - lo) % 4 ≡ 0 = omega arith in
    rw ((within_both lo end o).1 (low, high)) (eq-eqb _ _ a))

row_bytes : (lo end o : ℕ) → in_row lo end 1 o ≡ within lo end o
row_bytes lo end o =
    same (in_row lo end 1 o) (within lo end o) (λ e. (both (within lo end o) _ e).0)
    (λ e. let a : (o - lo) % 1 ≡ 0 = omega arith in rw e (eq-eqb _ _ a))

row_one : (lo o : ℕ) → in_row lo (lo + 1) 1 o ≡ eqb o lo
row_one lo o =
    row_bytes lo (lo + 1) o
    ∙ same (within lo (lo + 1) o) (eqb o lo)
    (λ e. let (low, high) = (within_both lo (lo + 1) o).0 e in eq-eqb o lo (omega arith))
    (λ e. let a = eqb-true o lo e in (within_both lo (lo + 1) o).1 (omega arith))

-- two ranges, the one after the other
module _ {A : Type 0} (x y : A) (a b c o : ℕ) (p : a ≤ b) (q : b ≤ c) where
  in_second : words a c o ≡ true → words a b o ≡ false → words b c o ≡ true
  in_second e n =
      let h = (in_words a c o).0 e in
      by_cases (dec_le b o) (λ l. (in_words b c o).1 (omega arith)) (λ l. let t = (in_words a b o).1 (omega arith) in cc)

  pub joined : cond (words a b o) x (cond (words b c o) x y) ≡ cond (words a c o) x y
  joined = go (words a b o) (words b c o) refl refl
    where
      go : (s t : Bool) → words a b o ≡ s → words b c o ≡ t → cond s x (cond t x y) ≡ cond (words a c o) x y
      go true t e f = let h = (in_words a b o).0 e in rw ((in_words a c o).1 (omega arith))
      go false true e f = let h = (in_words b c o).0 f in rw ((in_words a c o).1 (omega arith))
      go false false e f = rw (refuted (words a c o) (λ t. let z : ◌≡◌ {A = ℕ} 0 1 = cc (in_second t e) in omega arith))

-- the map's rows as nine ranges: the six flag banks from ISENABLER on are one
pub ranges : {A : Type 0} (i c t r g f p n u none : A) (o : ℕ)
    → cond (in_row 0xffd0 0x10000 4 o) i (cond (in_row 0x0 0x1 1 o) c (cond (in_row 0x4 0x5 1 o) t (cond (in_row 0x8 0x9 1 o) r (cond (in_row 0x80 0x100 4 o) g
    (cond (in_row 0x100 0x180 4 o) f (cond (in_row 0x180 0x200 4 o) f (cond (in_row 0x200 0x280 4 o) f (cond (in_row 0x280 0x300 4 o) f (cond (in_row 0x300 0x380 4 o) f (cond (in_row 0x380 0x400 4 o) f
    (cond (in_row 0x400 0x7fc 1 o) p (cond (in_row 0xc00 0xd00 4 o) n (cond (in_row 0x6000 0x7fe0 1 o) u none)))))))))))))
    ≡ cond (words 0xffd0 0x10000 o) i (cond (eqb o 0x0) c (cond (eqb o 0x4) t (cond (eqb o 0x8) r (cond (words 0x80 0x100 o) g
    (cond (words 0x100 0x400 o) f (cond (within 0x400 0x7fc o) p (cond (words 0xc00 0xd00 o) n (cond (within 0x6000 0x7fe0 o) u none))))))))
ranges i c t r g f p n u none o =
    rw (row_words 0xffd0 0x10000 o refl, row_one 0x0 o, row_one 0x4 o, row_one 0x8 o, row_words 0x80 0x100 o refl)
    (rw (row_words 0x100 0x180 o refl, row_words 0x180 0x200 o refl, row_words 0x200 0x280 o refl, row_words 0x280 0x300 o refl, row_words 0x300 0x380 o refl, row_words 0x380 0x400 o refl)
    (rw (row_bytes 0x400 0x7fc o, row_words 0xc00 0xd00 o refl, row_bytes 0x6000 0x7fe0 o)
    (rw (joined f _ 0x300 0x380 0x400 o (omega arith) (omega arith), joined f _ 0x280 0x300 0x400 o (omega arith) (omega arith), joined f _ 0x200 0x280 0x400 o (omega arith) (omega arith), joined f _ 0x180 0x200 0x400 o (omega arith) (omega arith), joined f _ 0x100 0x180 0x400 o (omega arith) (omega arith)))))
