-- Rows of the register map: a test of one, and how one decides an access or is passed over.
use Prim.Native.Nat.{ℕ, suc, ◌+◌, ◌<◌}
use mathlib.Core.Path.{◌≡◌, ap, ◌∙◌}
use mathlib.Core.Bool.{Bool, true, false, ◌&&◌}
use mathlib.Core.List.{List, ◌∷◌}
use lib.Dec.{leb, ltb}
use lib.ListN.{length, get_or, drop}
use lib.Seq.{drop-cons}
use Rattle.registers.specs.declared.register.AccessWidth.{AccessWidth}
use Rattle.registers.specs.declared.register.Direction.{Direction}
use Rattle.registers.specs.declared.register.Row.{Row}
use Rattle.registers.specs.Registers.{holds, row_access, lookup}

-- a row has a step, and is at most 0x2000 bytes long
unfoldable pub sized : Row → Bool
sized r = ltb 0 r.every && leb r.end (r.from + 0x2000)

module _ (d : Direction) (o : ℕ) (w : AccessWidth) (rs : List Row) (k : ℕ) (r : Row) (h : k < length rs) where
  turn : lookup d (drop k rs) o w ≡ lookup d (get_or rs k r ∷ drop (suc k) rs) o w
  turn = ap (λ (l : List Row). lookup d l o w) (drop-cons rs k r h)

  -- the row that holds the offset decides
  pub row_decides : holds (get_or rs k r) o ≡ true → lookup d (drop k rs) o w ≡ row_access d (get_or rs k r) o w
  row_decides t = turn ∙ (rw t)

  -- one that does not is passed over
  pub row_passed : holds (get_or rs k r) o ≡ false → lookup d (drop k rs) o w ≡ lookup d (drop (suc k) rs) o w
  row_passed t = turn ∙ (rw t)
