-- Affinity and MPIDR: packing loses nothing, and unpacking keeps bits 39..32 and 23..0.
use Rattle.std.specs.Prelude.{ℕ, ◌+◌, ◌*◌, ◌/◌, ◌%◌, ◌^◌, ◌<◌, ◌≡◌, Bool, true, false, nat_lt}
use Rattle.std.specs.Cmp.{IsTotalOrder, nat_cmp_total, on_total, then_total}
use Rattle.std.specs.Ordering.{nat_cmp, ordering_then}
use Rattle.std.proofs.Common.{ap, arith, refl}
use Rattle.std.proofs.Math.Nat.{mul-le-mul_right}
use borrow.Author.Tests.{ltb-true, ltb-false}
use Rattle.std.specs.declared.cmp.Ordering.{Ordering}
use Rattle.attributes.specs.declared.attributes.GicAffinity.{GicAffinity}
use Rattle.attributes.specs.Affinity.{affinity, byte_at, from_mpidr, mpidr_of, by_levels}

-- four bytes, as every GicAffinity of the code is
pub record Bytes (a : GicAffinity) : Type 0 where
  pub byte3 : a.aff3 < 256
  pub byte2 : a.aff2 < 256
  pub byte1 : a.aff1 < 256
  pub byte0 : a.aff0 < 256

-- v with bits 63..40 and 31..24 dropped
abbrev pub kept : ℕ → ℕ
kept v = byte_at 32 v * 2 ^ 32 + v % 2 ^ 24

pub from_mpidr_bytes : (v : ℕ) → Bytes (from_mpidr v)
from_mpidr_bytes v = record { byte3 = omega arith; byte2 = omega arith; byte1 = omega arith; byte0 = omega arith }

pub from_mpidr_mpidr : (a : GicAffinity) → Bytes a → from_mpidr (mpidr_of a) ≡ a
from_mpidr_mpidr a b =
    let v = mpidr_of a in
    let p3 : byte_at 32 v ≡ a.aff3 = omega arith in
    let p2 : byte_at 16 v ≡ a.aff2 = omega arith in
    let p1 : byte_at 8 v ≡ a.aff1 = omega arith in
    let p0 : v % 256 ≡ a.aff0 = omega arith in
    λ i. affinity (p3 i) (p2 i) (p1 i) (p0 i)

pub mpidr_from_mpidr : (v : ℕ) → mpidr_of (from_mpidr v) ≡ kept v
mpidr_from_mpidr v = omega arith

-- Aff3 is bits 39..32, Aff2 bits 23..16, Aff1 bits 15..8 and Aff0 bits 7..0
pub mpidr_levels : (a : GicAffinity) → Bytes a → (mpidr_of a / 2 ^ 32 ≡ a.aff3) × (mpidr_of a / 2 ^ 16 % 2 ^ 16 ≡ a.aff2) × (mpidr_of a / 2 ^ 8 % 2 ^ 8 ≡ a.aff1) × (mpidr_of a % 2 ^ 8 ≡ a.aff0)
mpidr_levels a b = (omega arith, omega arith, omega arith, omega arith)

pub by_levels_total : IsTotalOrder by_levels
by_levels_total = then_total (on_total (λ a. a.aff3) nat_cmp_total) (then_total (on_total (λ a. a.aff2) nat_cmp_total) (then_total (on_total (λ a. a.aff1) nat_cmp_total) (on_total (λ a. a.aff0) nat_cmp_total)))

-- two digits in a base: the upper one decides, and the lower one where the upper ones are equal
digits : (k x y r s : ℕ) → r < k → s < k → ordering_then (nat_cmp x y) (nat_cmp r s) ≡ nat_cmp (x * k + r) (y * k + s)
digits k x y r s p q = go (nat_lt x y) (nat_lt y x) refl refl
  where
    less : (u v : ℕ) (t : Ordering) → x < y → u < v → ordering_then (nat_cmp x y) t ≡ nat_cmp u v
    less u v t h l = grind arith

    greater : (u v : ℕ) (t : Ordering) → y < x → v < u → ordering_then (nat_cmp x y) t ≡ nat_cmp u v
    greater u v t h l = grind arith

    equal : (u v : ℕ) → x ≡ y → u ≡ v → ordering_then (nat_cmp x y) (nat_cmp r s) ≡ nat_cmp (u + r) (v + s)
    equal u v e f = grind arith

    go : (a b : Bool) → nat_lt x y ≡ a → nat_lt y x ≡ b → ordering_then (nat_cmp x y) (nat_cmp r s) ≡ nat_cmp (x * k + r) (y * k + s)
    go true b e f = let h = ltb-true x y e in let m = mul-le-mul_right k h in less (x * k + r) (y * k + s) (nat_cmp r s) h (omega arith)
    go false true e f = let h = ltb-true y x f in let m = mul-le-mul_right k h in greater (x * k + r) (y * k + s) (nat_cmp r s) h (omega arith)
    go false false e f = let h : x ≡ y = omega (arith, ltb-false x y e, ltb-false y x f) in equal (x * k) (y * k) h (ap (λ (z : ℕ). z * k) h)

-- the order is that of the numbers in MPIDR
pub by_levels_mpidr : (a b : GicAffinity) → Bytes a → Bytes b → by_levels a b ≡ nat_cmp (mpidr_of a) (mpidr_of b)
by_levels_mpidr a b p q =
    let low = digits (2 ^ 8) a.aff1 b.aff1 a.aff0 b.aff0 p.byte0 q.byte0 in
    let middle = digits (2 ^ 16) a.aff2 b.aff2 (a.aff1 * 2 ^ 8 + a.aff0) (b.aff1 * 2 ^ 8 + b.aff0) (below16 a p) (below16 b q) in
    let all = digits (2 ^ 32) a.aff3 b.aff3 (a.aff2 * 2 ^ 16 + (a.aff1 * 2 ^ 8 + a.aff0)) (b.aff2 * 2 ^ 16 + (b.aff1 * 2 ^ 8 + b.aff0)) (below32 a p) (below32 b q) in
    rw (low, middle, all, packed a, packed b)
  where
    below16 : (a : GicAffinity) → Bytes a → a.aff1 * 2 ^ 8 + a.aff0 < 2 ^ 16
    below16 a p = let r = p.byte1 in let s = p.byte0 in omega arith

    below32 : (a : GicAffinity) → Bytes a → a.aff2 * 2 ^ 16 + (a.aff1 * 2 ^ 8 + a.aff0) < 2 ^ 32
    below32 a p = let r = p.byte2 in let s = p.byte1 in let t = p.byte0 in omega arith

    packed : (a : GicAffinity) → a.aff3 * 2 ^ 32 + (a.aff2 * 2 ^ 16 + (a.aff1 * 2 ^ 8 + a.aff0)) ≡ mpidr_of a
    packed a = omega arith
