-- The board's twelve examples, as one fact about the definitions.
use Rattle.std.specs.Prelude.{ℕ, ◌-◌, ◌^◌, ◌≡◌, refl, true, false, List, [], ◌∷◌, replicate}
use Rattle.std.specs.Int.Count.{count_leading_zeros}
use Rattle.theory.specs.Runs.{run}
use Rattle.identifiers.specs.Answer.{Answer, done, refused}
use Rattle.attributes.specs.Affinity.{affinity}
use Rattle.interrupt.specs.Records.{fresh, route_in, deliverable_in, with_life, line_pulsed, priority_to, trigger_to, route_to, unrouted}
use Rattle.operation.specs.declared.operation.Operation.TheVariants.{SetEnabled, SetLevel, Pulse}
use Rattle.controller.specs.declared.controller.ControllerConfig.{ControllerConfig}
use Rattle.controller.specs.declared.controller.GicV3SpiOwnership.{GicV3SpiOwnership}
use Rattle.controller.specs.declared.controller.GicV3SpiOwnership.TheVariants.{AllGuestOwned, Explicit}
use Rattle.registers.specs.declared.register.AccessWidth.TheVariants.{Byte, Dword, Qword}
use Rattle.decoding.specs.Decoding.{decode}
use Rattle.changes.specs.declared.change.Change.TheVariants.{Claim, ClaimTo, Release, Operate}
use Rattle.spi.specs.declared.question.Question.TheVariants.{Pending}
use Rattle.model.specs.Calls.{Distributor, Call, create, read, write, change, ask, Outcome, outcome, reply, step, created}
use Rattle.examples.specs.Ends.{ends_same}

-- frame 0x10000, no ITS, the flags clear
abbrev plain_config : GicV3SpiOwnership → ControllerConfig
plain_config o = record { spi_ownership = o; distributor_size = 0x10000; exposes_guest_lpis = false; its = false; lpi_limit = 0; affinity_level_3 = false; range_selector = false }

-- K: 40 SPIs, explicit claims; 33 and 64 claimed by software, 65 physically with affinity 0.0.0.1
abbrev pub K : Distributor
K = run step (change Claim 33 ∷ change Claim 64 ∷ change (ClaimTo (affinity 0 0 0 1)) 65 ∷ []) (created (plain_config Explicit) 40)

-- a lent list of n places
abbrev pub lent : ℕ → List ℕ
lent n = replicate n 0xa5a5

-- what the caller of a write has then, if he lends the 40 places
abbrev pub leaves : Call → Distributor → Outcome
leaves c d = outcome (reply c d) (lent 40)

abbrev pub told : Call → Distributor → Answer
told c d = (reply c d).answer

-- what a call is told after the calls
abbrev pub then : List Call → Call → Distributor → Answer
then calls c d = told c (run step calls d)

-- refused, or done, with what the list holds then
abbrev pub gives : Answer → List ℕ → Outcome
gives a l = record { answer = a; list = l }

-- accesses to K by Dword, and to IROUTER by Qword
abbrev reads : ℕ → Distributor → Answer
reads offset d = told (read offset Dword) d

abbrev pub writes : ℕ → ℕ → Call
writes offset v = write offset Dword v 40

abbrev routes : ℕ → ℕ → Call
routes offset v = write offset Qword v 40

-- 988 SPIs, all guest-owned
abbrev pub Full : Distributor
Full = created (plain_config AllGuestOwned) 988

abbrev sets : Call
sets = write 0x7f8 Qword 0x8877665544332211 988

-- the paper's table, row by row
pub record Board : Type 0 where
  pub case1 : (told (create (plain_config Explicit) 988) K ≡ done []) × (told (create (plain_config Explicit) 989) K ≡ refused 1 (1020 ∷ []))
  pub case2 : (told (read 0xffe8 Dword) K ≡ done (0x3b ∷ [])) × (told (read 0xffe8 Byte) K ≡ refused 4 [])
  pub case3 : (told (read 0xffe9 Byte) K ≡ done (0 ∷ [])) × (told (read 0x102 Dword) K ≡ refused 3 [])
  pub case4 : told (read (2 ^ 64 - 4) Dword) K ≡ refused 3 []
  pub case5 : reads 0x4 K ≡ done (0x780002 ∷ [])
  -- the list is as it was lent, and the state is K's with 64 and 65 enabled
  pub case6 : (leaves (writes 0x108 0x1ff) K ≡ gives (refused 1 (72 ∷ [])) (lent 40)) × (step (writes 0x108 0x1ff) K ≡ run step (change (Operate (SetEnabled true)) 64 ∷ change (Operate (SetEnabled true)) 65 ∷ []) K)
  -- the whole state is K's
  pub case7 : (leaves (writes 0x17c 0xf0000000) K ≡ gives (done (0 ∷ [])) (lent 40)) × (step (writes 0x17c 0xf0000000) K ≡ K)
  pub case8 : told (read 0x6108 Qword) (step (routes 0x6108 0x180020304) K) ≡ done (0x100020304 ∷ [])
  pub case9 : told (read 0x6208 Qword) (step (routes 0x6208 2) K) ≡ done (1 ∷ [])
  pub case10 : told (ask Pending 33) (run step (change (Operate (SetLevel true)) 33 ∷ writes 0x284 2 ∷ []) K) ≡ done (0 ∷ [])
  -- one candidate, in the first place; the other 39 are as they were lent
  pub case11 : leaves (writes 0x0 2) (run step (change (Operate (SetEnabled true)) 33 ∷ change (Operate Pulse) 33 ∷ change Release 33 ∷ []) K) ≡ gives (done (1 ∷ [])) (33 ∷ lent 39)
  pub case12 : told (read 0x7f8 Qword) (step sets Full) ≡ done (0x44332211 ∷ [])

pub board : Board
unfolding reply step decode count_leading_zeros fresh route_in deliverable_in with_life line_pulsed trigger_to route_to unrouted priority_to
board =
    record {
      case1 = (refl, refl);
      case2 = (refl, refl);
      case3 = (refl, refl);
      case4 = refl;
      case5 = refl;
      case6 = (refl, ends_same K (writes 0x108 0x1ff ∷ []) (change (Operate (SetEnabled true)) 64 ∷ change (Operate (SetEnabled true)) 65 ∷ []) refl refl);
      case7 = (refl, ends_same K (writes 0x17c 0xf0000000 ∷ []) [] refl refl);
      case8 = refl;
      case9 = refl;
      case10 = refl;
      case11 = refl;
      case12 = refl;
    }
