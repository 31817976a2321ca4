-- What running a call of five numbers promises: the whole next state, the answer in numbers, and the room that places are lent from.
use Rattle.std.specs.Prelude.{ℕ, ◌≡◌, List}
use Rattle.theory.specs.Lists.{laid}
use Rattle.place.specs.Table.{created_count}
use Rattle.model.specs.Calls.{Distributor, Call, create, read, write, is_switched_on, rollback, change, ask, created, step, reply}
use Rattle.distributor.specs.declared.distributor.DistributorState.{DistributorState}
use Rattle.distributor.specs.Model.{model_of}
use Rattle.harness_numbers.specs.Numbers.{Meaning, identifier, unknown, calls, no_call, numbers_of}
use Rattle.harness_calls.specs.declared.run.Ran.{Ran}

-- the Distributor after a call. A creation makes a new one, with no SPIs where it is refused; any other call is a step
abbrev pub after : Call → Distributor → Distributor
after (create c n) d = created c (created_count n)
after (read offset w) d = step (read offset w) d
after (write offset w v places) d = step (write offset w v places) d
after is_switched_on d = step is_switched_on d
after (rollback on) d = step (rollback on) d
after (change h raw) d = step (change h raw) d
after (ask q raw) d = step (ask q raw) d

-- the call k on d gave r, and left the list `left` where `room` was: the candidates in its first places, the others untouched
pub record Performed (k : Call) (d : DistributorState) (room : List ℕ) (r : Ran) (left : List ℕ) : Type 0 where
  pub state : model_of r.state ≡ after k (model_of d)
  pub answer : r.answer ≡ numbers_of k (reply k (model_of d)).answer
  pub lent : left ≡ laid (reply k (model_of d)).candidates room

-- what is no call of a Distributor changes none
pub record Spared (d : DistributorState) (room : List ℕ) (r : Ran) (left : List ℕ) : Type 0 where
  pub state : r.state ≡ d
  pub lent : left ≡ room

-- of a call by what its numbers mean. What a maker of identifiers answers is left to its own contract
abbrev pub RanAs : Meaning → DistributorState → List ℕ → Ran → List ℕ → Type 0
RanAs identifier d room r left = Spared d room r left
RanAs unknown d room r left = Spared d room r left × (r.answer ≡ no_call)
RanAs (calls k) d room r left = Performed k d room r left
