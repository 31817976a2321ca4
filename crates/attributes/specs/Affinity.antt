-- A core's affinity, and its place in MPIDR and IROUTER.
use Rattle.std.specs.Prelude.{ℕ, ◌+◌, ◌*◌, ◌/◌, ◌%◌, ◌^◌}
use Rattle.std.specs.Ordering.{nat_cmp, on, then_cmp}
use Rattle.std.specs.declared.cmp.Ordering.{Ordering}
use Rattle.attributes.specs.declared.attributes.GicAffinity.{GicAffinity}

abbrev pub affinity : ℕ → ℕ → ℕ → ℕ → GicAffinity
affinity a3 a2 a1 a0 = record { aff3 = a3; aff2 = a2; aff1 = a1; aff0 = a0 }

-- the byte of v whose lowest bit is bit k
abbrev pub byte_at : ℕ → ℕ → ℕ
byte_at k v = v / 2 ^ k % 256

-- Aff3 is bits 39..32, Aff2 bits 23..16, Aff1 bits 15..8, Aff0 bits 7..0
abbrev pub from_mpidr : ℕ → GicAffinity
from_mpidr v = affinity (byte_at 32 v) (byte_at 16 v) (byte_at 8 v) (v % 256)

abbrev pub mpidr_of : GicAffinity → ℕ
mpidr_of a = a.aff3 * 2 ^ 32 + a.aff2 * 2 ^ 16 + a.aff1 * 2 ^ 8 + a.aff0

-- the order of two affinities: by level 3, then by level 2, by level 1 and by level 0
abbrev pub by_levels : GicAffinity → GicAffinity → Ordering
by_levels = then_cmp (on (λ a. a.aff3) nat_cmp) (then_cmp (on (λ a. a.aff2) nat_cmp) (then_cmp (on (λ a. a.aff1) nat_cmp) (on (λ a. a.aff0) nat_cmp)))
