-- The order of calls. What becomes of an SPI, or of the switch, rests on the calls that name it; and calls may change places unless
-- they name an SPI, or the switch, in common. Of every call of the Distributor, refused calls included.
use Rattle.std.specs.Prelude.{ℕ, ◌≤◌, ◌<◌, ◌≡◌, Bool, List, length}
use Rattle.std.proofs.Math.ListN.{get_elem?}
use Rattle.theory.specs.Runs.{run, answers, naming, Matching}
use Rattle.controller.specs.declared.controller.ControllerConfig.{ControllerConfig}
use Rattle.slot.specs.BankRule.{slot_of}
use Rattle.model.specs.Calls.{Distributor, Call, size, step, reply}
use Rattle.order.specs.Names.{Name, the_switch, spi, names}

-- what a call names, by the settings and the count of a Distributor, which no call changes
abbrev pub named : Distributor → Call → Name → Bool
named d = names d.config (size d)

-- from the state d
pub record Ordered (d : Distributor) : Type 0 where
  -- REPLAY. After any calls, the slot of an SPI (its record, its claim and its fixed mark) is what running only the calls that name
  -- it gives; and so is the switch
  pub replay_spi : (calls : List Call) (i : ℕ) → 32 ≤ i
      → slot_of (run step calls d).slots i ≡ slot_of (run step (naming (named d) (spi i) calls) d).slots i
  pub replay_switch : (calls : List Call) → (run step calls d).switch ≡ (run step (naming (named d) the_switch calls) d).switch
  -- REORDERING. Two lists of calls, matched one to one, each call with the same call, so that every two calls that name an SPI or the
  -- switch in common keep their order: the end states are equal, and each call gets the reply that its partner gets. (A write comes
  -- with the number of places lent. What the list holds then: `first_places` and `other_places` of model's Replies)
  pub reordering : (xs ys : List Call) (m : Matching (named d) xs ys)
      → (run step xs d ≡ run step ys d)
      × ((i : ℕ) → i < length xs → get_elem? (answers step reply xs d) i ≡ get_elem? (answers step reply ys d) (m.to i))

-- the states with the settings and the count of one creation
module _ (c : ControllerConfig) (n : ℕ) where
  pub record Settled (d : Distributor) : Type 0 where
    pub config : d.config ≡ c
    pub count : d.count ≡ n
