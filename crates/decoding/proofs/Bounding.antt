-- What decoding promises of a register, each by one test of all the map's rows.
use Rattle.std.specs.Prelude.{Option, Ok, Err}
use Prim.Native.Nat.{ℕ, ◌+◌, ◌-◌, ◌*◌, ◌/◌, ◌%◌, ◌≤◌, ◌<◌}
use mathlib.Core.Path.{◌≡◌, refl, subst}
use mathlib.Core.Bool.{Bool, true, false, not, ◌&&◌, ◌||◌, cond}
use mathlib.Core.List.{List, [], ◌∷◌}
use native.Mathlib.Omega.{arith}
use native.Mathlib.Nat.{mul_comm, div-le_self, div-mul-le_self}
use borrow.Author.Tests.{leb-true, eqb-true}
use lib.Dec.{leb, ltb, eqb}
use Rattle.std.specs.List.{list_all}
use Rattle.theory.specs.Bools.{both}
use Rattle.identifiers.specs.declared.error.Refusal.TheVariants.{InvalidAccess, InvalidWidth}
use Rattle.bank.specs.declared.bank.Bank.{Bank}
use Rattle.bank.specs.Banks.{bits_of}
use Rattle.bank.proofs.Digits.{each}
use Rattle.registers.specs.declared.register.AccessWidth.{AccessWidth}
use Rattle.registers.specs.declared.register.AccessWidth.TheVariants.{Byte, Word, Dword, Qword}
use Rattle.registers.specs.declared.register.Direction.{Direction}
use Rattle.registers.specs.declared.register.Direction.TheVariants.{Reading}
use Rattle.registers.specs.declared.register.Register.{Register}
use Rattle.registers.specs.declared.register.Register.TheVariants.{Fields, Reserved}
use Rattle.registers.specs.declared.register.Kind.{Kind}
use Rattle.registers.specs.declared.register.Row.{Row}
use Rattle.registers.specs.Registers.{bytes_of, takes, map, widths_for, holds, register_at, lookup}
use Rattle.registers.specs.MapLaws.{between}
use Rattle.registers.proofs.Rows.{sized}
use Rattle.registers.proofs.Widths.{bytes_range}
use Rattle.decoding.specs.Decoding.{legal, decode}
use Rattle.decoding.proofs.RefusalLaws.{legal_when}
use Rattle.decoding.specs.Bounds.{Bounded, Whole}

fields_bounded : (b : Bank) (at : ℕ) (w : AccessWidth) → at < 0x2000 → Bounded (Fields b (at * 8 / bits_of b) (bytes_of w * 8 / bits_of b))
fields_bounded b at w h =
    let y = bytes_range w in
    let p = div-le_self (at * 8) (bits_of b) in
    let q = div-le_self (bytes_of w * 8) (bits_of b) in
    let r = div-mul-le_self (bytes_of w * 8) (bits_of b) in
    let e = mul_comm (bits_of b) (bytes_of w * 8 / bits_of b) in
    (omega arith, omega arith, omega arith)

kind_bounded : (k : Kind) (at : ℕ) (w : AccessWidth) → at < 0x2000 → Bounded (register_at k at w)
kind_bounded Kind.Identification at w h = tt
kind_bounded Kind.Ctlr at w h = tt
kind_bounded Kind.Typer at w h = tt
kind_bounded Kind.Iidr at w h = tt
kind_bounded (Kind.Bank b) at w h = fields_bounded b at w h

-- a bank's row starts at a multiple of 8, and a read of it covers at most 32 INTIDs
allows : Option AccessWidth → ℕ → AccessWidth → Bool
allows ws bits w = not (takes ws w) || leb (bytes_of w * 8 / bits) 32

starts_whole : Kind → ℕ → Option AccessWidth → Bool
starts_whole Kind.Identification f ws = true
starts_whole Kind.Ctlr f ws = true
starts_whole Kind.Typer f ws = true
starts_whole Kind.Iidr f ws = true
starts_whole (Kind.Bank b) f ws = eqb (f % 8) 0 && (allows ws (bits_of b) Byte && (allows ws (bits_of b) Word && (allows ws (bits_of b) Dword && allows ws (bits_of b) Qword)))

whole : Row → Bool
whole r = starts_whole r.kind r.from r.reads

allowed : (ws : Option AccessWidth) (k : ℕ) (w : AccessWidth) → allows ws k w ≡ true → takes ws w ≡ true → bytes_of w * 8 / k ≤ 32
unfolding allows
allowed ws k w e t = leb-true (bytes_of w * 8 / k) 32 (rw t at e)

few : (ws : Option AccessWidth) (k : ℕ) (w : AccessWidth)
    → (allows ws k Byte && (allows ws k Word && (allows ws k Dword && allows ws k Qword))) ≡ true → takes ws w ≡ true → bytes_of w * 8 / k ≤ 32
few ws k Byte e t = allowed ws k Byte (both (allows ws k Byte) _ e).0 t
few ws k Word e t = allowed ws k Word (both (allows ws k Word) _ (both (allows ws k Byte) _ e).1).0 t
few ws k Dword e t = allowed ws k Dword (both (allows ws k Dword) _ (both (allows ws k Word) _ (both (allows ws k Byte) _ e).1).1).0 t
few ws k Qword e t = allowed ws k Qword (both (allows ws k Dword) _ (both (allows ws k Word) _ (both (allows ws k Byte) _ e).1).1).1 t

-- such a read lies at a multiple of its width, so it covers INTIDs under 32 alone, or none of them
whole_words : (b : Bank) (at : ℕ) (w : AccessWidth) → at % bytes_of w ≡ 0 → bytes_of w * 8 / bits_of b ≤ 32 → at * 8 / bits_of b < 32 → at * 8 / bits_of b + bytes_of w * 8 / bits_of b ≤ 32
whole_words b at w =
    each (λ k. at % bytes_of w ≡ 0 → bytes_of w * 8 / k ≤ 32 → at * 8 / k < 32 → at * 8 / k + bytes_of w * 8 / k ≤ 32) (one w) (two w) (eight w) (all w) b
  where
    one : (v : AccessWidth) → at % bytes_of v ≡ 0 → bytes_of v * 8 / 1 ≤ 32 → at * 8 / 1 < 32 → at * 8 / 1 + bytes_of v * 8 / 1 ≤ 32
    one Byte h f l = omega arith
    one Word h f l = omega arith
    one Dword h f l = omega arith
    one Qword h f l = omega arith

    two : (v : AccessWidth) → at % bytes_of v ≡ 0 → bytes_of v * 8 / 2 ≤ 32 → at * 8 / 2 < 32 → at * 8 / 2 + bytes_of v * 8 / 2 ≤ 32
    two Byte h f l = omega arith
    two Word h f l = omega arith
    two Dword h f l = omega arith
    two Qword h f l = omega arith

    eight : (v : AccessWidth) → at % bytes_of v ≡ 0 → bytes_of v * 8 / 8 ≤ 32 → at * 8 / 8 < 32 → at * 8 / 8 + bytes_of v * 8 / 8 ≤ 32
    eight Byte h f l = omega arith
    eight Word h f l = omega arith
    eight Dword h f l = omega arith
    eight Qword h f l = omega arith

    all : (v : AccessWidth) → at % bytes_of v ≡ 0 → bytes_of v * 8 / 64 ≤ 32 → at * 8 / 64 < 32 → at * 8 / 64 + bytes_of v * 8 / 64 ≤ 32
    all Byte h f l = omega arith
    all Word h f l = omega arith
    all Dword h f l = omega arith
    all Qword h f l = omega arith

-- an offset at a multiple of the width, counted from a multiple of 8
aligned : (o f : ℕ) (w : AccessWidth) → o % bytes_of w ≡ 0 → f % 8 ≡ 0 → f ≤ o → (o - f) % bytes_of w ≡ 0
aligned o f Byte h g l = omega arith
aligned o f Word h g l = omega arith
aligned o f Dword h g l = omega arith
aligned o f Qword h g l = omega arith

kind_whole : (k : Kind) (o f : ℕ) (ws : Option AccessWidth) (w : AccessWidth) → starts_whole k f ws ≡ true → takes ws w ≡ true → f ≤ o → o % bytes_of w ≡ 0 → Whole (register_at k (o - f) w)
unfolding starts_whole
kind_whole Kind.Identification o f ws w s t l z = tt
kind_whole Kind.Ctlr o f ws w s t l z = tt
kind_whole Kind.Typer o f ws w s t l z = tt
kind_whole Kind.Iidr o f ws w s t l z = tt
kind_whole (Kind.Bank b) o f ws w s t l z =
    let (x, y) = both (eqb (f % 8) 0) _ s in
    whole_words b (o - f) w (aligned o f w z (eqb-true (f % 8) 0 x) l) (few ws (bits_of b) w y t)

-- what holds of each row's register that an access reaches holds of what the map gives
module _ (P : Register → Type 0) (none : P Reserved) (d : Direction) (o : ℕ) (w : AccessWidth) where
  abbrev Each : List Row → Type 0
  Each [] = Unit {0}
  Each (r ∷ rs) = (holds r o ≡ true → takes (widths_for d r.reads r.writes) w ≡ true → P (register_at r.kind (o - r.from) w)) × Each rs

  lookup-each : (rs : List Row) → Each rs → (g : Register) → lookup d rs o w ≡ Ok g → P g
  lookup-each [] ok g e = let p : Reserved ≡ g = cc in subst P p none
  lookup-each (r ∷ rs) ok g e = go (holds r o) (takes (widths_for d r.reads r.writes) w) refl refl e (lookup-each rs ok.1 g)
    where
      go : (h t : Bool) → holds r o ≡ h → takes (widths_for d r.reads r.writes) w ≡ t
          → cond h (cond t (Ok (register_at r.kind (o - r.from) w)) (Err InvalidWidth)) (lookup d rs o w) ≡ Ok g
          → (lookup d rs o w ≡ Ok g → P g) → P g
      go true true p q f rest = let z : register_at r.kind (o - r.from) w ≡ g = cc in subst P z (ok.0 p q)
      go true false p q f rest = let z : ◌≡◌ {A = ℕ} 0 1 = cc in absurd (omega arith)
      go false t p q f rest = rest f

each_bounded : (rs : List Row) → list_all sized rs ≡ true → (d : Direction) (o : ℕ) (w : AccessWidth) → Each Bounded tt d o w rs
unfolding sized
each_bounded [] ok d o w = tt
each_bounded (r ∷ rs) ok d o w = (
  (λ h t.
      let n = between r o h in
      let y = leb-true r.end (r.from + 0x2000) (both (ltb 0 r.every) _ (both (sized r) _ ok).0).1 in
      kind_bounded r.kind (o - r.from) w (omega arith)),
  each_bounded rs (both (sized r) _ ok).1 d o w,
)

each_whole : (rs : List Row) → list_all whole rs ≡ true → (o : ℕ) (w : AccessWidth) → o % bytes_of w ≡ 0 → Each Whole tt Reading o w rs
unfolding whole
each_whole [] ok o w z = tt
each_whole (r ∷ rs) ok o w z = (
  (λ h t. kind_whole r.kind o r.from r.reads w (both (whole r) _ ok).0 t (between r o h).0 z),
  each_whole rs (both (whole r) _ ok).1 o w z,
)

pub decode_bounded : (d : Direction) (frame o : ℕ) (w : AccessWidth) (g : Register) → decode d frame o w ≡ Ok g → Bounded g
unfolding decode sized
decode_bounded d frame o w g e = go (legal frame o w) e
  where
    go : (h : Bool) → cond h (lookup d map o w) (Err InvalidAccess) ≡ Ok g → Bounded g
    go true f = lookup-each Bounded tt d o w map (each_bounded map refl d o w) g f
    go false f = let z : ◌≡◌ {A = ℕ} 0 1 = cc in absurd (omega arith)

pub decode_whole : (frame o : ℕ) (w : AccessWidth) (g : Register) → decode Reading frame o w ≡ Ok g → Whole g
unfolding decode whole starts_whole allows
decode_whole frame o w g e = go (legal frame o w) refl e
  where
    go : (h : Bool) → legal frame o w ≡ h → cond h (lookup Reading map o w) (Err InvalidAccess) ≡ Ok g → Whole g
    go true l f = lookup-each Whole tt Reading o w map (each_whole map refl o w ((legal_when frame o w).0 l).1) g f
    go false l f = let z : ◌≡◌ {A = ℕ} 0 1 = cc in absurd (omega arith)
