-- What each call names, in the paper's words: by offsets and numbers, and not by what an access is decoded to. If `names` held too much,
-- the theorems on order would only say less; so it is held against this.
use Rattle.std.specs.Prelude.{ℕ, ◌+◌, ◌-◌, ◌*◌, ◌/◌, ◌%◌, ◌^◌, Bool, true, false, not, ◌&&◌, cond, ltb, eqb}
use Rattle.identifiers.specs.Answer.{within}
use Rattle.place.specs.Table.{in_table}
use Rattle.controller.specs.declared.controller.ControllerConfig.{ControllerConfig}
use Rattle.registers.specs.declared.register.AccessWidth.{AccessWidth}
use Rattle.registers.specs.declared.register.Direction.{Direction}
use Rattle.registers.specs.declared.register.Direction.TheVariants.{Reading, Writing}
use Rattle.registers.specs.Registers.{bytes_of}
use Rattle.registers.specs.FrameLaws.{words, needs_another}
use Rattle.model.specs.Calls.{Call, create, read, write, is_switched_on, rollback, change, ask}
use Rattle.model.specs.RefusedWhen.{misplaced}
use Rattle.order.specs.Names.{Name, the_switch, spi}

-- ---- the paper's words

-- the INTIDs that an access covers: in a flag bank a bit for each, in IPRIORITYR a byte, in ICFGR two bits, in IROUTER eight bytes
abbrev pub covered_at : ℕ → AccessWidth → ℕ → Bool
covered_at o w i =
    cond (words 0x80 0x400 o) (within (o % 0x80 * 8) (o % 0x80 * 8 + bytes_of w * 8) i)
    (cond (within 0x400 0x7fc o) (within (o - 0x400) (o - 0x400 + bytes_of w) i)
    (cond (words 0xc00 0xd00 o) (within ((o - 0xc00) * 4) ((o - 0xc00) * 4 + bytes_of w * 4) i)
    (cond (within 0x6000 0x7fe0 o) (within ((o - 0x6000) / 8) ((o - 0x6000) / 8 + bytes_of w / 8) i)
    false)))

-- of a flag write, IGROUPR's apart, those whose bit is 1
abbrev pub set_at : ℕ → AccessWidth → ℕ → ℕ → Bool
set_at o w v i = covered_at o w i && cond (words 0x80 0x400 o) (words 0x100 0x400 o && eqb (v / 2 ^ (i - o % 0x80 * 8) % 2) 1) true

module _ (c : ControllerConfig) (n : ℕ) where
  -- an access that is refused 3 or 4 names nothing
  abbrev pub granted : Direction → ℕ → AccessWidth → Bool
  granted d o w = not (misplaced c.distributor_size o w) && not (needs_another d o w)

  abbrev pub written_by : ℕ → AccessWidth → ℕ → Name → Bool
  written_by o w v the_switch = granted Writing o w && eqb o 0x0
  written_by o w v (spi i) = granted Writing o w && (cond (eqb o 0x0) (eqb (v / 2 % 2) 1) (set_at o w v i) && in_table n i)

  -- nor does one that is refused 5, nor a host call on a number outside the table
  abbrev pub named_by : Call → Name → Bool
  named_by (create d k) m = false
  named_by (read o w) the_switch = granted Reading o w && eqb o 0x0
  named_by (read o w) (spi i) = granted Reading o w && (covered_at o w i && in_table n i)
  named_by (write o w v places) m = not (ltb places n) && written_by o w v m
  named_by is_switched_on the_switch = true
  named_by is_switched_on (spi i) = false
  named_by (rollback on) the_switch = true
  named_by (rollback on) (spi i) = false
  named_by (change h raw) the_switch = false
  named_by (change h raw) (spi i) = in_table n i && eqb i raw
  named_by (ask q raw) the_switch = false
  named_by (ask q raw) (spi i) = in_table n i && eqb i raw
