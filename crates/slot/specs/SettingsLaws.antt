-- What may be handed over as an SPI's settings, and when something stays wherever one of them is set.
use Rattle.std.specs.Prelude.{ℕ, ◌<◌, ◌≡◌, Some, None}
use Rattle.std.proofs.Common.{arith}
use Rattle.attributes.specs.Affinity.{affinity}
use Rattle.attributes.specs.AffinityLaws.{Bytes}
use Rattle.attributes.specs.declared.attributes.GicAffinity.{GicAffinity}
use Rattle.attributes.specs.declared.attributes.Priority.{Priority}
use Rattle.attributes.specs.declared.attributes.TriggerMode.{TriggerMode}
use Rattle.operation.specs.declared.operation.Operation.TheVariants.{SetPriority, SetRoute}
use Rattle.operation.specs.Laws.{Settings}
use Rattle.changes.specs.declared.change.Change.{Change}
use Rattle.changes.specs.declared.change.Change.TheVariants.{ClaimTo, SetCpuTargetMask, Operate}

-- four changes hand a priority, an affinity or a target mask over, and the code's types say that these are bytes
pub record TypedChange (h : Change) : Type 0 where
  pub priority : (p : Priority) → h ≡ Operate (SetPriority p) → p.0 < 256
  pub route : (a : GicAffinity) → h ≡ Operate (SetRoute a) → Bytes a
  pub claim : (a : GicAffinity) → h ≡ ClaimTo a → Bytes a
  pub mask : (m : ℕ) → h ≡ SetCpuTargetMask m → m < 256

pub zero_bytes : Bytes (affinity 0 0 0 0)
zero_bytes = record { byte3 = omega arith; byte2 = omega arith; byte1 = omega arith; byte0 = omega arith }

-- P stays where one of the settings is set, to bytes
pub record Stays (P : Settings → Type 0) : Type 0 where
  pub priority : (p : Priority) (s : Settings) → p.0 < 256 → P s → P (p, s.1, s.2, s.3)
  pub trigger : (t : TriggerMode) (s : Settings) → P s → P (s.0, t, s.2, s.3)
  pub route : (a : GicAffinity) (s : Settings) → Bytes a → P s → P (s.0, s.1, Some a, None)
  pub unroute : (s : Settings) → P s → P (s.0, s.1, None, s.3)
  pub mask : (m : ℕ) (s : Settings) → m < 256 → P s → P (s.0, s.1, None, Some m)
