-- A write that reaches a register.
use Rattle.std.specs.Prelude.{Ok, Err}
use Prim.Native.Nat.{ℕ, ◌≤◌}
use mathlib.Core.Path.{◌≡◌, refl}
use mathlib.Core.Bool.{Bool, true, false, cond}
use native.Mathlib.Omega.{arith}
use borrow.Author.Tests.{ltb-false}
use lib.Dec.{ltb}
use Rattle.identifiers.specs.declared.error.Refusal.TheVariants.{ShortList}
use Rattle.registers.specs.declared.register.AccessWidth.{AccessWidth}
use Rattle.registers.specs.declared.register.Direction.TheVariants.{Writing}
use Rattle.registers.specs.declared.register.Register.{Register}
use Rattle.decoding.specs.Decoding.{decode, write_access}

-- an access that is granted: the list is long enough, and the access is decoded to its register
pub granted : (places n frame o : ℕ) (w : AccessWidth) (g : Register) → write_access places n frame o w ≡ Ok g → (n ≤ places) × (decode Writing frame o w ≡ Ok g)
granted places n frame o w g h = go (ltb places n) refl h
  where
    go : (t : Bool) → ltb places n ≡ t → cond t (Err ShortList) (decode Writing frame o w) ≡ Ok g → (n ≤ places) × (decode Writing frame o w ≡ Ok g)
    go true e k = let z : ◌≡◌ {A = ℕ} 0 1 = cc in absurd (omega arith)
    go false e k = (ltb-false places n e, k)
