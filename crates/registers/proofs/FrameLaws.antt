-- What the map gives at every offset: where it has no register, and which width is needed.
use Rattle.std.specs.Prelude.{ℕ, ◌-◌, ◌<◌, ◌≡◌, refl, Bool, true, not, ◌&&◌, ◌||◌, cond, List, [], ◌∷◌, ◌↔◌, eqb, Ok, Err}
use Rattle.std.proofs.Common.{sym, ◌∙◌, arith, eqb-true}
use Rattle.std.proofs.Math.Bool.{false}
use Rattle.std.proofs.lemmas.Bool.{lt-leb}
use Rattle.identifiers.specs.Answer.{within}
use Rattle.identifiers.specs.declared.error.Refusal.TheVariants.{InvalidWidth}
use Rattle.place.specs.TableLaws.{within_both}
use Rattle.registers.specs.declared.register.AccessWidth.{AccessWidth}
use Rattle.registers.specs.declared.register.AccessWidth.TheVariants.{Byte, Word, Dword, Qword}
use Rattle.registers.specs.declared.register.Direction.{Direction}
use Rattle.registers.specs.declared.register.Direction.TheVariants.{Reading, Writing}
use Rattle.registers.specs.declared.register.Register.TheVariants.{Reserved}
use Rattle.registers.specs.declared.register.Kind.{Kind}
use Rattle.registers.specs.declared.register.Kind.TheVariants.{Bank}
use Rattle.registers.specs.declared.register.Row.{Row}
use Rattle.registers.specs.Registers.{bytes_of, dword, qword, takes, map, widths_for, holds, register_at, lookup}
use Rattle.registers.specs.FrameLaws.{words, is_register, needs_another, by_width, reached, in_words, joined, ranges}

-- a range that the offset has not reached
under : (lo end o : ℕ) → o < lo → within lo end o ≡ false
under lo end o h = rw (lt-leb lo o h)

under_words : (lo end o : ℕ) → o < lo → words lo end o ≡ false
under_words lo end o h = rw (under lo end o h)

-- two tests that decide alike
merged : {A : Type 0} (h k : Bool) (x y : A) → cond h x (cond k x y) ≡ cond (h || k) x y
merged true k x y = refl
merged false k x y = refl

-- ---- everything else is reserved

-- a row holds the offset
held : List Row → ℕ → Bool
held [] o = false
held (r ∷ rs) o = cond (holds r o) true (held rs o)

no_reserved : (k : Kind) (at : ℕ) (w : AccessWidth) → register_at k at w ≡ Reserved → ⊥
no_reserved Kind.Identification at w e = let z : ◌≡◌ {A = ℕ} 0 1 = cc in omega arith
no_reserved Kind.Ctlr at w e = let z : ◌≡◌ {A = ℕ} 0 1 = cc in omega arith
no_reserved Kind.Typer at w e = let z : ◌≡◌ {A = ℕ} 0 1 = cc in omega arith
no_reserved Kind.Iidr at w e = let z : ◌≡◌ {A = ℕ} 0 1 = cc in omega arith
no_reserved (Bank b) at w e = let z : ◌≡◌ {A = ℕ} 0 1 = cc in omega arith

unheld : (d : Direction) (rs : List Row) (o : ℕ) (w : AccessWidth) → lookup d rs o w ≡ Ok Reserved ↔ held rs o ≡ false
unfolding held
unheld d [] o w = ((λ e. refl), (λ e. refl))
unheld d (r ∷ rs) o w = go (holds r o) (takes (widths_for d r.reads r.writes) w) (unheld d rs o w)
  where
    go : (h t : Bool) → (lookup d rs o w ≡ Ok Reserved ↔ held rs o ≡ false)
        → cond h (cond t (Ok (register_at r.kind (o - r.from) w)) (Err InvalidWidth)) (lookup d rs o w) ≡ Ok Reserved ↔ cond h true (held rs o) ≡ false
    go true true e = ((λ p. let q : register_at r.kind (o - r.from) w ≡ Reserved = cc in absurd (no_reserved r.kind (o - r.from) w q)), (λ p. cc))
    go true false e = ((λ p. cc), (λ p. cc))
    go false t e = e

held_is : (o : ℕ) → held map o ≡ is_register o
unfolding held
held_is o =
    ranges true true true true true true true true true false o
    ∙ rw (joined true _ 0x80 0x100 0x400 o (omega arith) (omega arith), merged (words 0xffd0 0x10000 o) (eqb o 0), merged _ (eqb o 4), merged _ (eqb o 8), merged _ (words 0x80 0x400 o), merged _ (within 0x400 0x7fc o), merged _ (words 0xc00 0xd00 o), merged _ (within 0x6000 0x7fe0 o))
    (whole (is_register o))
  where
    whole : (b : Bool) → cond b true false ≡ b
    whole true = refl
    whole false = refl

-- an access reads 0 and ignores writes exactly where no register lies, at any width and in both directions
pub reserved : (d : Direction) (o : ℕ) (w : AccessWidth) → lookup d map o w ≡ Ok Reserved ↔ is_register o ≡ false
reserved d o w = rw (← held_is o) (unheld d map o w)

-- ---- which width is needed

-- the row that holds the offset takes another width
refuses : Direction → List Row → ℕ → AccessWidth → Bool
refuses d [] o w = false
refuses d (r ∷ rs) o w = cond (holds r o) (not (takes (widths_for d r.reads r.writes) w)) (refuses d rs o w)

decided : (d : Direction) (rs : List Row) (o : ℕ) (w : AccessWidth) → lookup d rs o w ≡ cond (refuses d rs o w) (Err InvalidWidth) (Ok (reached (lookup d rs o w)))
unfolding refuses
decided d [] o w = refl
decided d (r ∷ rs) o w = go (holds r o) (takes (widths_for d r.reads r.writes) w) (decided d rs o w)
  where
    go : (h t : Bool) → lookup d rs o w ≡ cond (refuses d rs o w) (Err InvalidWidth) (Ok (reached (lookup d rs o w)))
        → cond h (cond t (Ok (register_at r.kind (o - r.from) w)) (Err InvalidWidth)) (lookup d rs o w)
        ≡ cond (cond h (not t) (refuses d rs o w)) (Err InvalidWidth) (Ok (reached (cond h (cond t (Ok (register_at r.kind (o - r.from) w)) (Err InvalidWidth)) (lookup d rs o w))))
    go true true e = refl
    go true false e = refl
    go false t e = e

only_dword : (w : AccessWidth) → takes dword w ≡ eqb (bytes_of w) 4
only_dword Byte = refl
only_dword Word = refl
only_dword Dword = refl
only_dword Qword = refl

only_qword : (w : AccessWidth) → takes qword w ≡ eqb (bytes_of w) 8
only_qword Byte = refl
only_qword Word = refl
only_qword Dword = refl
only_qword Qword = refl

-- a range that takes every width can be passed over where none that follows holds the offset
passed : (h x : Bool) → (h ≡ true → x ≡ false) → cond h false x ≡ x
passed true x f = sym (f refl)
passed false x f = refl

and_cond : (h x : Bool) → cond h x false ≡ (h && x)
and_cond true x = refl
and_cond false x = refl

module _ (o : ℕ) (w : AccessWidth) where
  abbrev other : Bool
  other = not (takes dword w)

  -- from ICFGR on, and from ISENABLER on
  abbrev from_icfgr : Bool
  from_icfgr = cond (words 0xc00 0xd00 o) other (cond (within 0x6000 0x7fe0 o) (not (takes qword w)) false)

  abbrev from_isenabler : Bool
  from_isenabler = cond (words 0x100 0x400 o) other from_icfgr

  not_yet_icfgr : o < 0xc00 → from_icfgr ≡ false
  not_yet_icfgr h = rw (under_words 0xc00 0xd00 o h, under 0x6000 0x7fe0 o (omega arith))

  not_yet_isenabler : o < 0x100 → from_isenabler ≡ false
  not_yet_isenabler h = rw (under_words 0x100 0x400 o h) (not_yet_icfgr (omega arith))

  ipriorityr_passed : cond (within 0x400 0x7fc o) false from_icfgr ≡ from_icfgr
  ipriorityr_passed = passed (within 0x400 0x7fc o) from_icfgr (λ e. let h = (within_both 0x400 0x7fc o).0 e in not_yet_icfgr (omega arith))

  igroupr_passed : cond (words 0x80 0x100 o) false from_isenabler ≡ from_isenabler
  igroupr_passed = passed (words 0x80 0x100 o) from_isenabler (λ e. let h = (in_words 0x80 0x100 o).0 e in not_yet_isenabler (omega arith))

  one_passed : (at : ℕ) → at < 0x100 → cond (eqb o at) false from_isenabler ≡ from_isenabler
  one_passed at h = passed (eqb o at) from_isenabler (λ e. let p = eqb-true o at e in not_yet_isenabler (omega arith))

  refuses_is : (d : Direction) → refuses d map o w ≡ needs_another d o w
  unfolding refuses
  refuses_is Reading =
      ranges other other other other other other false other (not (takes qword w)) false o
      ∙ rw (ipriorityr_passed, joined other from_icfgr 0x80 0x100 0x400 o (omega arith) (omega arith))
      (rw (merged (words 0xffd0 0x10000 o) (eqb o 0), merged _ (eqb o 4), merged _ (eqb o 8), merged _ (words 0x80 0x400 o), merged _ (words 0xc00 0xd00 o), and_cond (within 0x6000 0x7fe0 o), only_dword w, only_qword w))
  refuses_is Writing =
      ranges other other false false false other false other (not (takes qword w)) false o
      ∙ rw (ipriorityr_passed, igroupr_passed, one_passed 8 (omega arith), one_passed 4 (omega arith))
      (rw (merged (words 0xffd0 0x10000 o) (eqb o 0), merged _ (words 0x100 0x400 o), merged _ (words 0xc00 0xd00 o), and_cond (within 0x6000 0x7fe0 o), only_dword w, only_qword w))

-- refused 4, or a register, and no other refusal
pub width_decides : (d : Direction) (o : ℕ) (w : AccessWidth) → lookup d map o w ≡ by_width d o w (reached (lookup d map o w))
width_decides d o w = rw (← refuses_is o w d) (decided d map o w)

pub width_refused : (d : Direction) (o : ℕ) (w : AccessWidth) → lookup d map o w ≡ Err InvalidWidth ↔ needs_another d o w ≡ true
width_refused d o w = go (needs_another d o w) (width_decides d o w)
  where
    go : (b : Bool) → lookup d map o w ≡ cond b (Err InvalidWidth) (Ok (reached (lookup d map o w))) → lookup d map o w ≡ Err InvalidWidth ↔ b ≡ true
    go true e = ((λ r. refl), (λ t. e))
    go false e = ((λ r. cc), (λ t. cc))
