-- How an access is decoded: refused 3 or 4, or a register; of a write, refused 5 before that.
use Rattle.std.specs.Prelude.{ℕ, ◌+◌, ◌%◌, Bool, ◌&&◌, cond, leb, ltb, eqb, Err}
use Rattle.identifiers.specs.declared.error.Refusal.TheVariants.{InvalidAccess, ShortList}
use Rattle.registers.specs.declared.register.AccessWidth.{AccessWidth}
use Rattle.registers.specs.declared.register.Direction.{Direction}
use Rattle.registers.specs.declared.register.Direction.TheVariants.{Writing}
use Rattle.registers.specs.Registers.{Access, bytes_of, map, lookup}

-- refusal 3: the access ends beyond the frame, or its offset is no multiple of its width. (The frame's size is a 64-bit number, so
-- an end beyond 2^64 - 1 is beyond the frame.)
abbrev pub legal : ℕ → ℕ → AccessWidth → Bool
legal frame offset w = leb (offset + bytes_of w) frame && eqb (offset % bytes_of w) 0

-- refusals 3 and 4, in this order, or the register
unfoldable pub decode : Direction → ℕ → ℕ → AccessWidth → Access
decode d frame offset w = cond (legal frame offset w) (lookup d map offset w) (Err InvalidAccess)

-- a write tests refusal 5 first: a lent list with fewer places than the table has SPIs
abbrev pub write_access : ℕ → ℕ → ℕ → ℕ → AccessWidth → Access
write_access places spis frame offset w = cond (ltb places spis) (Err ShortList) (decode Writing frame offset w)
