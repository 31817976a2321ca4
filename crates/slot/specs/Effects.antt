-- What a written field does to an SPI, a row for each bank.
use Rattle.std.specs.Prelude.{ℕ, ◌%◌, Bool, true, false, ◌&&◌, cond}
use Rattle.attributes.specs.Affinity.{from_mpidr}
use Rattle.operation.specs.declared.operation.Operation.{Operation}
use Rattle.operation.specs.declared.operation.Operation.TheVariants.{SetEnabled, SetPending, SetActive, SetPriority, SetTrigger, SetRoute, Complete}
use Rattle.bank.specs.declared.bank.Flag.{Flag}
use Rattle.bank.specs.declared.bank.Flag.TheVariants.{Enabled, Pending, Active}
use Rattle.bank.specs.declared.bank.Field.TheVariants.{Group, Priority, Configuration, Route}
use Rattle.bank.specs.declared.bank.Bank.{Bank}
use Rattle.bank.specs.declared.bank.Bank.TheVariants.{Set, Clear, Replace}
use Rattle.bank.specs.Banks.{trigger_in, acts, lists}
use Rattle.ownership.specs.declared.ownership.Ownership.{Ownership}
use Rattle.ownership.specs.Owned.{owned}

-- what is done to an SPI's record
pub data Effect : Type 0 where
  leave : Effect
  apply : Operation → Effect

-- ISENABLER, ISPENDR and ISACTIVER set a flag; ICENABLER, ICPENDR and ICACTIVER clear it
abbrev pub flag_to : Flag → Bool → Operation
flag_to Enabled on = SetEnabled on
flag_to Pending on = SetPending on
flag_to Active true = SetActive true
flag_to Active false = Complete

-- what a field that acts does to an owned SPI. After the flags come IGROUPR, IPRIORITYR, ICFGR and IROUTER; a fixed route stays
abbrev pub effect_of : Bool → Bank → ℕ → Effect
effect_of fixed (Set f) v = apply (flag_to f true)
effect_of fixed (Clear f) v = apply (flag_to f false)
effect_of fixed (Replace Group) v = leave
effect_of fixed (Replace Priority) v = apply (SetPriority (record { 0 = v % 256 }))
effect_of fixed (Replace Configuration) v = apply (SetTrigger (trigger_in v))
effect_of fixed (Replace Route) v = cond fixed leave (apply (SetRoute (from_mpidr v)))

-- a field touches an owned SPI, if it acts
abbrev pub touches : Bool → Ownership → Bank → ℕ → Bool
touches explicit o b v = acts b v && owned explicit o

-- what a field does to an SPI, and whether the SPI is listed if it is deliverable then
pub record FieldEffect : Type 0 where
  pub effect : Effect
  pub lists : Bool

abbrev pub untouched : FieldEffect
untouched = record { effect = leave; lists = false }

abbrev pub written : Bool → Ownership → Bank → ℕ → FieldEffect
written explicit o b v = cond (touches explicit o b v) (record { effect = effect_of o.fixed_route b v; lists = lists b }) untouched
