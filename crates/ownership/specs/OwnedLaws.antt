-- Who owns an SPI, and what an unowned one shows, in the paper's words.
use Rattle.std.specs.Prelude.{ℕ, ◌≡◌, refl, true, false}
use Rattle.ownership.specs.declared.ownership.Ownership.{Ownership}
use Rattle.ownership.specs.Owned.{unclaimed, claimed_by_software, claimed_physically, owned, visible}

-- with all guest-owned every SPI counts as owned, claimed or not
pub owned_all : (o : Ownership) → owned false o ≡ true
owned_all o = refl

-- otherwise the claim decides, of either kind
pub owned_by_claim : (owned true unclaimed ≡ false) × (owned true claimed_by_software ≡ true) × (owned true claimed_physically ≡ true)
owned_by_claim = (refl, refl, refl)

-- an owned SPI shows its field, and an unowned one 0
pub seen_if_owned : (v : ℕ) (o : Ownership) → (visible false o v ≡ v) × (visible true unclaimed v ≡ 0) × (visible true claimed_by_software v ≡ v)
seen_if_owned v o = (refl, refl, refl)
