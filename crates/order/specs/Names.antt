-- Which call names what.
use Rattle.std.specs.Prelude.{ℕ, Bool, true, false, ◌&&◌, eqb, Ok, Err}
use Rattle.place.specs.Table.{in_table}
use Rattle.controller.specs.declared.controller.ControllerConfig.{ControllerConfig}
use Rattle.controller.specs.Identity.{switch_bit}
use Rattle.bank.specs.Banks.{acts, field}
use Rattle.registers.specs.declared.register.Register.TheVariants.{Identification, Ctlr, Typer, Iidr, Fields, Reserved}
use Rattle.registers.specs.declared.register.Direction.TheVariants.{Reading}
use Rattle.decoding.specs.Decoding.{decode, write_access}
use Rattle.slot.specs.BankRule.{covers}
use Rattle.model.specs.Calls.{Call, create, read, write, is_switched_on, rollback, change, ask}
use Rattle.registers.specs.Registers.{Access}

-- what a call may name: the master switch, or an SPI
pub data Name : Type 0 where
  the_switch : Name
  spi : ℕ → Name

module _ (n : ℕ) where
  -- a read: a flag read the table's SPIs in its word, the other banks those they cover, owned or not; CTLR the switch
  abbrev pub read_names : Access → Name → Bool
  read_names (Err f) m = false
  read_names (Ok (Identification k)) m = false
  read_names (Ok Ctlr) the_switch = true
  read_names (Ok Ctlr) (spi i) = false
  read_names (Ok Typer) m = false
  read_names (Ok Iidr) m = false
  read_names (Ok (Fields b lo k)) the_switch = false
  read_names (Ok (Fields b lo k)) (spi i) = covers n lo k i
  read_names (Ok Reserved) m = false

  -- a write: a flag write the SPIs whose bit is set, the other banks those they cover, owned or not, IGROUPR none; CTLR the switch,
  -- and with the on bit every SPI
  abbrev pub write_names : Access → ℕ → Name → Bool
  write_names (Err f) v m = false
  write_names (Ok (Identification k)) v m = false
  write_names (Ok Ctlr) v the_switch = true
  write_names (Ok Ctlr) v (spi i) = switch_bit v && in_table n i
  write_names (Ok Typer) v m = false
  write_names (Ok Iidr) v m = false
  write_names (Ok (Fields b lo k)) v the_switch = false
  write_names (Ok (Fields b lo k)) v (spi i) = covers n lo k i && acts b (field b v lo i)
  write_names (Ok Reserved) v m = false

  -- a host call names its SPI, if the table has it
  abbrev pub host_names : ℕ → Name → Bool
  host_names raw the_switch = false
  host_names raw (spi i) = in_table n i && eqb i raw

abbrev pub switch_names : Name → Bool
switch_names the_switch = true
switch_names (spi i) = false

module _ (c : ControllerConfig) (n : ℕ) where
  -- a call refused 3, 4 or 5 is decoded to its refusal, and names nothing; one refused 1 beyond the table names what it reaches inside
  unfoldable pub names : Call → Name → Bool
  names (create d k) m = false
  names (read offset w) m = read_names n (decode Reading c.distributor_size offset w) m
  names (write offset w v places) m = write_names n (write_access places n c.distributor_size offset w) v m
  names is_switched_on m = switch_names m
  names (rollback on) m = switch_names m
  names (change h raw) m = host_names n raw m
  names (ask q raw) m = host_names n raw m
