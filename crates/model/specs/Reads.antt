-- What the registers with no INTID read, in every state and after creation; the switch; and which SPIs a new Distributor has.
use Rattle.std.specs.Prelude.{ℕ, ◌+◌, ◌*◌, ◌≡◌, Bool, [], ◌∷◌, get_or, Ok}
use Rattle.std.proofs.Math.Path.{refl}
use Rattle.std.proofs.Common.{subst, arith}
use Rattle.identifiers.specs.Answer.{done}
use Rattle.controller.specs.declared.controller.ControllerConfig.{ControllerConfig}
use Rattle.controller.specs.Identity.{typer_value}
use Rattle.controller.specs.IdentityLaws.{Typer, typer_fields}
use Rattle.bank.specs.Banks.{bit}
use Rattle.registers.specs.declared.register.Register.TheVariants.{Identification, Ctlr, Iidr}
use Rattle.registers.specs.declared.register.Register.{Register}
use Rattle.model.specs.Calls.{Distributor, is_switched_on, rollback, plain, size, created, step, read_reply, reply}

module _ (d : Distributor) where
  -- ARE_NS is 1, and bit 1 is the switch
  pub ctlr_reads : read_reply d (Ok Ctlr) ≡ plain (done ((0x10 + 2 * bit d.switch) ∷ []))
  ctlr_reads = refl

  -- TYPER's fields are those of the settings and of the number of SPIs
  pub typer_reads : (v : ℕ) → (read_reply d (Ok Register.Typer)).answer ≡ done (v ∷ []) → Typer d.config (size d) v
  typer_reads v e = let z : typer_value d.config (size d) ≡ v = cc in subst (Typer d.config (size d)) z (typer_fields d.config (size d) (omega arith))

  pub iidr_reads : read_reply d (Ok Iidr) ≡ plain (done (0x43b ∷ []))
  iidr_reads = refl

  pub identification_reads : (k : ℕ) → read_reply d (Ok (Identification k)) ≡ plain (done (get_or (0x44 ∷ 0x00 ∷ 0x00 ∷ 0x00 ∷ 0x92 ∷ 0xb4 ∷ 0x3b ∷ 0x00 ∷ 0x0d ∷ 0xf0 ∷ 0x05 ∷ 0xb1 ∷ []) k 0 ∷ []))
  identification_reads k = refl

  -- the host puts the switch back to where it says, and is told where it stands
  pub rollback_sets : (on : Bool) → read_reply (step (rollback on) d) (Ok Ctlr) ≡ plain (done ((0x10 + 2 * bit on) ∷ []))
  unfolding step
  rollback_sets on = refl

  pub switch_asked : reply is_switched_on d ≡ plain (done (bit d.switch ∷ []))
  unfolding reply
  switch_asked = refl

-- a new Distributor is switched off
module _ (c : ControllerConfig) (n : ℕ) where
  pub created_off : read_reply (created c n) (Ok Ctlr) ≡ plain (done (0x10 ∷ []))
  created_off = refl
