-- Which SPIs count as the guest's: all of them, or those that the host has claimed.
use Rattle.std.specs.Prelude.{Bool, true, false, cond}
use Rattle.controller.specs.declared.controller.GicV3SpiOwnership.{GicV3SpiOwnership}
use Rattle.controller.specs.declared.controller.GicV3SpiOwnership.TheVariants.{AllGuestOwned, Explicit}

abbrev pub explicit : GicV3SpiOwnership → Bool
explicit AllGuestOwned = false
explicit Explicit = true

abbrev pub ownership_of : Bool → GicV3SpiOwnership
ownership_of claims = cond claims Explicit AllGuestOwned
