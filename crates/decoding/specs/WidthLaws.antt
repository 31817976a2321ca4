-- What an access covers fits its width.
use Rattle.std.specs.Prelude.{ℕ, ◌-◌, ◌*◌, ◌/◌, ◌≤◌, ◌≡◌, refl, Bool, true, false, cond, List, [], ◌∷◌, Ok, Err}
use Rattle.std.proofs.Common.{ap, subst, mul_comm, div-mul-le_self, arith}
use Rattle.identifiers.specs.declared.error.Refusal.TheVariants.{InvalidAccess, InvalidWidth}
use Rattle.registers.specs.declared.register.AccessWidth.{AccessWidth}
use Rattle.registers.specs.declared.register.AccessWidth.TheVariants.{Byte, Word, Dword, Qword}
use Rattle.bank.specs.declared.bank.Bank.{Bank}
use Rattle.bank.specs.declared.bank.Bank.TheVariants.{Set, Clear, Replace}
use Rattle.bank.specs.declared.bank.Flag.TheVariants.{Enabled, Pending, Active}
use Rattle.bank.specs.declared.bank.Field.{Field}
use Rattle.bank.specs.declared.bank.Field.TheVariants.{Group, Priority, Configuration}
use Rattle.registers.specs.declared.register.Register.{Register}
use Rattle.registers.specs.declared.register.Register.TheVariants.{Identification, Ctlr, Typer, Iidr, Fields, Reserved}
use Rattle.registers.specs.declared.register.Direction.{Direction}
use Rattle.registers.specs.declared.register.Direction.TheVariants.{Reading}
use Rattle.bank.specs.Banks.{bits_of}
use Rattle.registers.specs.declared.register.Kind.{Kind}
use Rattle.registers.specs.declared.register.Row.{Row}
use Rattle.registers.specs.Registers.{bytes_of, dword, takes, map, widths_for, holds, register_at, lookup}
use Rattle.decoding.specs.Decoding.{legal, decode}

-- ---- a register and the widths that reach it

abbrev pub Sound : Register → AccessWidth → Type 0
Sound (Identification k) w = Unit {0}
Sound Ctlr w = Unit {0}
Sound Typer w = w ≡ Dword
Sound Iidr w = w ≡ Dword
Sound (Fields b lo m) w = bits_of b * m ≤ 8 * bytes_of w
Sound Reserved w = Unit {0}

only_dword : (w : AccessWidth) → takes dword w ≡ true → w ≡ Dword
only_dword Byte e = cc
only_dword Word e = cc
only_dword Dword e = refl
only_dword Qword e = cc

abbrev SoundRow : Row → Type 0
SoundRow r = (at : ℕ) (w : AccessWidth) → takes r.reads w ≡ true → Sound (register_at r.kind at w) w

abbrev SoundRows : List Row → Type 0
SoundRows [] = Unit {0}
SoundRows (r ∷ rs) = SoundRow r × SoundRows rs

fields_fit : (b : Bank) (w : AccessWidth) → bits_of b * (bytes_of w * 8 / bits_of b) ≤ 8 * bytes_of w
fields_fit b w =
    let h = div-mul-le_self (bytes_of w * 8) (bits_of b) in
    let e = mul_comm (bits_of b) (bytes_of w * 8 / bits_of b) in
    omega arith

sound_rows : SoundRows map
sound_rows = (
  (λ at w e. tt),
  (
    (λ at w e. tt),
    (
      (λ at w e. only_dword w e),
      (
        (λ at w e. only_dword w e),
        (
          (λ at w e. fields_fit (Replace Group) w),
          (
            (λ at w e. fields_fit (Set Enabled) w),
            (
              (λ at w e. fields_fit (Clear Enabled) w),
              (
                (λ at w e. fields_fit (Set Pending) w),
                (
                  (λ at w e. fields_fit (Clear Pending) w),
                  (
                    (λ at w e. fields_fit (Set Active) w),
                    (
                      (λ at w e. fields_fit (Clear Active) w),
                      (
                        (λ at w e. fields_fit (Replace Priority) w),
                        (
                          (λ at w e. fields_fit (Replace Configuration) w),
                          ((λ at w e. fields_fit (Replace Field.Route) w), tt),
                        ),
                      ),
                    ),
                  ),
                ),
              ),
            ),
          ),
        ),
      ),
    ),
  ),
)

lookup_sound : (rs : List Row) → SoundRows rs → (o : ℕ) (w : AccessWidth) (r : Register) → lookup Reading rs o w ≡ Ok r → Sound r w
lookup_sound [] ok o w r e = let p : Reserved ≡ r = cc in subst (λ (x : Register). Sound x w) p tt
lookup_sound (k ∷ ks) ok o w r e = go (holds k o) (takes k.reads w) refl refl e (lookup_sound ks ok.1 o w r)
  where
    go : (h t : Bool) → holds k o ≡ h → takes k.reads w ≡ t
        → cond h (cond t (Ok (register_at k.kind (o - k.from) w)) (Err InvalidWidth)) (lookup Reading ks o w) ≡ Ok r
        → (lookup Reading ks o w ≡ Ok r → Sound r w) → Sound r w
    go true true p q f rest = let z : register_at k.kind (o - k.from) w ≡ r = cc in subst (λ (x : Register). Sound x w) z (ok.0 (o - k.from) w q)
    go true false p q f rest = let z : ◌≡◌ {A = ℕ} 0 1 = cc in absurd (omega arith)
    go false t p q f rest = rest f

pub decode_sound : (frame o : ℕ) (w : AccessWidth) (r : Register) → decode Reading frame o w ≡ Ok r → Sound r w
unfolding decode
decode_sound frame o w r e = go (legal frame o w) e
  where
    go : (h : Bool) → cond h (lookup Reading map o w) (Err InvalidAccess) ≡ Ok r → Sound r w
    go true f = lookup_sound map sound_rows o w r f
    go false f = let z : ◌≡◌ {A = ℕ} 0 1 = cc in absurd (omega arith)

-- ---- the fields that an access covers, read or written, fit its width

kind_covers : (k : Kind) (at : ℕ) (w : AccessWidth) (b : Bank) (lo m : ℕ) → register_at k at w ≡ Fields b lo m → bits_of b * m ≤ 8 * bytes_of w
kind_covers Kind.Identification at w b lo m e = let z : ◌≡◌ {A = ℕ} 0 1 = cc in absurd (omega arith)
kind_covers Kind.Ctlr at w b lo m e = let z : ◌≡◌ {A = ℕ} 0 1 = cc in absurd (omega arith)
kind_covers Kind.Typer at w b lo m e = let z : ◌≡◌ {A = ℕ} 0 1 = cc in absurd (omega arith)
kind_covers Kind.Iidr at w b lo m e = let z : ◌≡◌ {A = ℕ} 0 1 = cc in absurd (omega arith)
kind_covers (Kind.Bank a) at w b lo m e =
    let p : a ≡ b = cc in
    let q : bytes_of w * 8 / bits_of a ≡ m = cc in
    let h = fields_fit a w in
    let x : bits_of a ≡ bits_of b = ap bits_of p in
    rw x at (rw q at h)

lookup-covers : (d : Direction) (rs : List Row) (o : ℕ) (w : AccessWidth) (b : Bank) (lo m : ℕ) → lookup d rs o w ≡ Ok (Fields b lo m) → bits_of b * m ≤ 8 * bytes_of w
lookup-covers d [] o w b lo m e = let z : ◌≡◌ {A = ℕ} 0 1 = cc in absurd (omega arith)
lookup-covers d (k ∷ ks) o w b lo m e = go (holds k o) (takes (widths_for d k.reads k.writes) w) e (lookup-covers d ks o w b lo m)
  where
    go : (h t : Bool)
        → cond h (cond t (Ok (register_at k.kind (o - k.from) w)) (Err InvalidWidth)) (lookup d ks o w) ≡ Ok (Fields b lo m)
        → (lookup d ks o w ≡ Ok (Fields b lo m) → bits_of b * m ≤ 8 * bytes_of w) → bits_of b * m ≤ 8 * bytes_of w
    go true true f rest = let z : register_at k.kind (o - k.from) w ≡ Fields b lo m = cc in kind_covers k.kind (o - k.from) w b lo m z
    go true false f rest = let z : ◌≡◌ {A = ℕ} 0 1 = cc in absurd (omega arith)
    go false t f rest = rest f

pub decode-covers : (d : Direction) (frame o : ℕ) (w : AccessWidth) (b : Bank) (lo m : ℕ) → decode d frame o w ≡ Ok (Fields b lo m) → bits_of b * m ≤ 8 * bytes_of w
unfolding decode
decode-covers d frame o w b lo m e = go (legal frame o w) e
  where
    go : (h : Bool) → cond h (lookup d map o w) (Err InvalidAccess) ≡ Ok (Fields b lo m) → bits_of b * m ≤ 8 * bytes_of w
    go true f = lookup-covers d map o w b lo m f
    go false f = let z : ◌≡◌ {A = ℕ} 0 1 = cc in absurd (omega arith)
