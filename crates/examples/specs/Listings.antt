-- Which banks list: writes to an SPI that is ready, bank by bank.
use Rattle.std.specs.Prelude.{ℕ, ◌≡◌, refl, true, List, [], ◌∷◌}
use Rattle.theory.specs.Runs.{run}
use Rattle.identifiers.specs.Answer.{done}
use Rattle.attributes.specs.declared.attributes.InterruptState.TheVariants.{ActivePending}
use Rattle.interrupt.specs.Records.{deliverable_in, with_life, route_to}
use Rattle.operation.specs.declared.operation.Operation.TheVariants.{SetEnabled, SetPending, SetState}
use Rattle.registers.specs.declared.register.AccessWidth.TheVariants.{Qword}
use Rattle.decoding.specs.Decoding.{decode}
use Rattle.changes.specs.declared.change.Change.TheVariants.{Claim, Operate}
use Rattle.model.specs.Calls.{Distributor, Call, write, change, listing, reply, step}
use Rattle.examples.specs.Board.{K, lent, leaves, gives, writes}

-- 33 is owned, enabled, pending and active
abbrev Ready : Distributor
Ready = run step (change (Operate (SetEnabled true)) 33 ∷ change (Operate (SetState ActivePending)) 33 ∷ []) K

-- what a write lists
abbrev Lists : Call → List ℕ → Type 0
Lists c l = reply c Ready ≡ listing l

pub record Listings : Type 0 where
  pub enable : Lists (writes 0x104 2) (33 ∷ []) × Lists (writes 0x184 2) []
  pub pend : Lists (writes 0x204 2) (33 ∷ []) × Lists (writes 0x284 2) []
  pub activate : Lists (writes 0x304 2) [] × Lists (writes 0x384 2) (33 ∷ [])
  pub others : Lists (writes 0x84 2) [] × Lists (writes 0x420 0) [] × Lists (writes 0xc08 0) []
  pub route : Lists (write 0x6108 Qword 1 40) (33 ∷ [])
  -- two in one write, the lowest first; 34 is ready and claimed too. The other 38 places are as they were lent
  pub order : leaves (writes 0x104 6) (run step (change (Operate (SetEnabled true)) 34 ∷ change (Operate (SetPending true)) 34 ∷ change Claim 34 ∷ []) Ready) ≡ gives (done (2 ∷ [])) (33 ∷ 34 ∷ lent 38)

pub listings : Listings
unfolding reply step decode deliverable_in with_life route_to
listings =
    record {
      enable = (refl, refl);
      pend = (refl, refl);
      activate = (refl, refl);
      others = (refl, refl, refl);
      route = refl;
      order = refl;
    }
