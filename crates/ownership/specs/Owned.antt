-- Whether the guest owns an SPI: the host's claim and the fixed mark, and what they let the guest see.
use Rattle.std.specs.Prelude.{ℕ, Bool, true, false, not, ◌||◌, cond}
use Rattle.ownership.specs.declared.ownership.Ownership.{Ownership}

abbrev pub unclaimed : Ownership
unclaimed = record { explicitly_owned = false; fixed_route = false }

-- claimed by software; and physically, which fixes the route
abbrev pub claimed_by_software : Ownership
claimed_by_software = record { explicitly_owned = true; fixed_route = false }

abbrev pub claimed_physically : Ownership
claimed_physically = record { explicitly_owned = true; fixed_route = true }

-- with all guest-owned every SPI counts as owned; otherwise the claim decides
abbrev pub owned : Bool → Ownership → Bool
owned explicit o = not explicit || o.explicitly_owned

-- what the guest sees of a field: 0 where the SPI is not owned
abbrev pub visible : Bool → Ownership → ℕ → ℕ
visible explicit o v = cond (owned explicit o) v 0
