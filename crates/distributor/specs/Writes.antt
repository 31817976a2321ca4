-- What the parts of a write promise: the whole next state, the answer and the list, for an access that is decoded already.
use Rattle.std.specs.Prelude.{ℕ, ◌≡◌, List}
use Rattle.answers.specs.Answers.{told_write}
use Rattle.model.specs.Calls.{after_write, outcome, write_reply}
use Rattle.distributor.specs.declared.distributor.DistributorState.{DistributorState}
use Rattle.distributor.specs.declared.distributor.After.{After}
use Rattle.distributor.specs.Model.{model_of}
use Rattle.registers.specs.Registers.{Access}

-- the write gives r, and leaves the list `left` where the list `lent` was
abbrev pub ResultOfWrite : DistributorState → Access → ℕ → List ℕ → After ℕ → List ℕ → Type 0
ResultOfWrite d a v lent r left = (model_of r.state ≡ after_write (model_of d) a v) × (record { answer = told_write r.answer; list = left } ≡ outcome (write_reply (model_of d) a v) lent)
