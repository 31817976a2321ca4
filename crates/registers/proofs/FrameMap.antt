-- The register that an access reaches is the one that lies at its offset.
use Rattle.std.specs.Prelude.{ℕ, ◌+◌, ◌-◌, ◌*◌, ◌/◌, ◌%◌, ◌≡◌, refl, Bool, true, false, cond, List, [], ◌∷◌, Ok, Err}
use Rattle.std.proofs.Common.{◌∙◌}
use native.Mathlib.Omega.{arith}
use Rattle.theory.specs.Bools.{both}
use Rattle.identifiers.specs.Answer.{within}
use Rattle.identifiers.specs.declared.error.Refusal.TheVariants.{InvalidWidth}
use Rattle.place.specs.TableLaws.{within_both}
use Rattle.bank.specs.declared.bank.Bank.{Bank}
use Rattle.bank.specs.declared.bank.Bank.TheVariants.{Set, Clear, Replace}
use Rattle.bank.specs.declared.bank.Flag.TheVariants.{Enabled, Pending, Active}
use Rattle.bank.specs.declared.bank.Field.{Field}
use Rattle.bank.specs.declared.bank.Field.TheVariants.{Priority, Configuration}
use Rattle.registers.specs.declared.register.AccessWidth.{AccessWidth}
use Rattle.registers.specs.declared.register.Direction.{Direction}
use Rattle.registers.specs.declared.register.Register.{Register}
use Rattle.registers.specs.declared.register.Register.TheVariants.{Identification, Ctlr, Typer, Iidr, Fields, Reserved}
use Rattle.registers.specs.declared.register.Row.{Row}
use Rattle.registers.specs.Registers.{bytes_of, takes, map, widths_for, in_row, holds, register_at, lookup}
use Rattle.registers.specs.MapLaws.{flag_bank}
use Rattle.registers.specs.FrameLaws.{joined, ranges}
use Rattle.registers.specs.FrameMap.{register_there}

-- what the first row that holds the offset has there
register_in : List Row → ℕ → AccessWidth → Register
register_in [] o w = Reserved
register_in (r ∷ rs) o w = cond (holds r o) (register_at r.kind (o - r.from) w) (register_in rs o w)

first-row : (d : Direction) (rs : List Row) (o : ℕ) (w : AccessWidth) (g : Register) → lookup d rs o w ≡ Ok g → g ≡ register_in rs o w
unfolding register_in
first-row d [] o w g e = cc
first-row d (r ∷ rs) o w g e = go (holds r o) (takes (widths_for d r.reads r.writes) w) e (first-row d rs o w g)
  where
    go : (h t : Bool) → cond h (cond t (Ok (register_at r.kind (o - r.from) w)) (Err InvalidWidth)) (lookup d rs o w) ≡ Ok g
        → (lookup d rs o w ≡ Ok g → g ≡ register_in rs o w) → g ≡ cond h (register_at r.kind (o - r.from) w) (register_in rs o w)
    go true true f rest = cc
    go true false f rest = cc
    go false t f rest = rest f

-- a row may say the same in other words where it holds the offset
same_there : {A : Type 0} (h : Bool) (x y rest : A) → (h ≡ true → x ≡ y) → cond h x rest ≡ cond h y rest
same_there true x y rest f = f refl
same_there false x y rest f = refl

module _ (o : ℕ) (w : AccessWidth) where
  abbrev flags : Register
  flags = Fields (flag_bank ((o - 0x80) / 0x80)) (o % 0x80 * 8) (bytes_of w * 8)

  -- a flag bank, the j-th from 0x80 on
  flag_row : (b : Bank) (j : ℕ) → flag_bank j ≡ b → in_row (0x80 + 0x80 * j) (0x80 + 0x80 * j + 0x80) 4 o ≡ true
      → Fields b ((o - (0x80 + 0x80 * j)) * 8 / 1) (bytes_of w * 8 / 1) ≡ flags
  flag_row b j e h =
      let (inside, aligned) = both (within (0x80 + 0x80 * j) (0x80 + 0x80 * j + 0x80) o) _ h in
      let (low, high) = (within_both (0x80 + 0x80 * j) (0x80 + 0x80 * j + 0x80) o).0 inside in
      let at : (o - 0x80) / 0x80 ≡ j = omega arith in
      let first : (o - (0x80 + 0x80 * j)) * 8 / 1 ≡ o % 0x80 * 8 = omega arith in
      let many : bytes_of w * 8 / 1 ≡ bytes_of w * 8 = omega arith in
      rw (at, e, first, many)

  -- the rows of the map, and then the ranges that the paper has
  rows : register_in map o w ≡ register_there o w
  unfolding register_in
  rows =
      rw (
        same_there (in_row 0x80 0x100 4 o) _ flags _ (flag_row (Replace Field.Group) 0 refl),
        same_there (in_row 0x100 0x180 4 o) _ flags _ (flag_row (Set Enabled) 1 refl),
        same_there (in_row 0x180 0x200 4 o) _ flags _ (flag_row (Clear Enabled) 2 refl),
        same_there (in_row 0x200 0x280 4 o) _ flags _ (flag_row (Set Pending) 3 refl),
        same_there (in_row 0x280 0x300 4 o) _ flags _ (flag_row (Clear Pending) 4 refl),
        same_there (in_row 0x300 0x380 4 o) _ flags _ (flag_row (Set Active) 5 refl),
        same_there (in_row 0x380 0x400 4 o) _ flags _ (flag_row (Clear Active) 6 refl),
      )
      (ranges (Identification ((o - 0xffd0) / 4)) Ctlr Typer Iidr flags flags (Fields (Replace Priority) ((o - 0x400) * 8 / 8) (bytes_of w * 8 / 8)) (Fields (Replace Configuration) ((o - 0xc00) * 8 / 2) (bytes_of w * 8 / 2)) (Fields (Replace Field.Route) ((o - 0x6000) * 8 / 64) (bytes_of w * 8 / 64)) Reserved o
      ∙ rw (
        joined flags _ 0x80 0x100 0x400 o (omega arith) (omega arith),
        bytes (o - 0x400),
        bytes (bytes_of w),
        pairs (o - 0xc00),
        pairs (bytes_of w),
        eights (o - 0x6000),
        eights (bytes_of w),
      ))
    where
      bytes : (k : ℕ) → k * 8 / 8 ≡ k
      bytes k = omega arith

      pairs : (k : ℕ) → k * 8 / 2 ≡ k * 4
      pairs k = omega arith

      eights : (k : ℕ) → k * 8 / 64 ≡ k / 8
      eights k = omega arith

-- the register that an access reaches is the one that lies there
pub register_there_lem : (d : Direction) (o : ℕ) (w : AccessWidth) (g : Register) → lookup d map o w ≡ Ok g → g ≡ register_there o w
register_there_lem d o w g e = first-row d map o w g e ∙ rows o w
