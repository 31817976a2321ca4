-- The corners of target masks and of releases, as examples.
use Rattle.std.specs.Prelude.{◌≡◌, refl, true, [], ◌∷◌}
use Rattle.identifiers.specs.Answer.{done}
use Rattle.attributes.specs.Affinity.{affinity}
use Rattle.interrupt.specs.Records.{fresh, route_in, mask_in, with_life, trigger_to, route_to, unrouted, mask_to}
use Rattle.attributes.specs.declared.attributes.TriggerMode.TheVariants.{Edge}
use Rattle.operation.specs.declared.operation.Operation.TheVariants.{SetEnabled, SetTrigger}
use Rattle.changes.specs.declared.change.Change.TheVariants.{ClaimTo, Release, SetCpuTargetMask, Operate}
use Rattle.spi.specs.declared.question.Question.{Question}
use Rattle.spi.specs.declared.question.Question.TheVariants.{Enabled, Trigger, CpuTargetMask}
use Rattle.model.specs.Calls.{change, ask, reply, step}
use Rattle.examples.specs.Ends.{ends_same}
use Rattle.examples.specs.Board.{K, told, then}

pub record Masks : Type 0 where
  -- a physical claim drops the target mask, and an unset one reads 1; a mask on a fixed route succeeds and changes nothing
  pub masks : (then (change (SetCpuTargetMask 3) 34 ∷ []) (ask CpuTargetMask 34) K ≡ done (3 ∷ [])) × (then (change (SetCpuTargetMask 3) 34 ∷ change (ClaimTo (affinity 0 0 0 2)) 34 ∷ []) (ask CpuTargetMask 34) K ≡ done (1 ∷ [])) × (told (change (SetCpuTargetMask 3) 65) K ≡ done []) × (step (change (SetCpuTargetMask 3) 65) K ≡ K)

pub record Releases : Type 0 where
  -- release succeeds on an unclaimed SPI; on a claimed one it clears the route, sets level and keeps enabled
  pub releases : (told (change Release 34) K ≡ done []) × (step (change Release 34) K ≡ K) × (then (change Release 65 ∷ []) (ask Question.Route 65) K ≡ done []) × (then (change (Operate (SetTrigger Edge)) 64 ∷ change (Operate (SetEnabled true)) 64 ∷ change Release 64 ∷ []) (ask Trigger 64) K ≡ done (0 ∷ [])) × (then (change (Operate (SetTrigger Edge)) 64 ∷ change (Operate (SetEnabled true)) 64 ∷ change Release 64 ∷ []) (ask Enabled 64) K ≡ done (1 ∷ []))

pub claim_masks : Masks
unfolding reply step mask_in route_to mask_to
claim_masks = record { masks = (refl, refl, refl, ends_same K (change (SetCpuTargetMask 3) 65 ∷ []) [] refl refl) }

pub releases_keep : Releases
unfolding reply step fresh route_in with_life trigger_to unrouted
releases_keep = record { releases = (refl, ends_same K (change Release 34 ∷ []) [] refl refl, refl, refl, refl) }
