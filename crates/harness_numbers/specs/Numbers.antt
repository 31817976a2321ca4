-- What the numbers of a call mean (docs/ORACLE.md, "The calls"), and how its answer is told in numbers.
use Rattle.std.specs.Prelude.{ℕ, ◌+◌, ◌/◌, ◌%◌, ◌^◌, min, Bool, cond, List, [], ◌∷◌, eqb, get_or}
use Rattle.identifiers.specs.Answer as told
use Rattle.identifiers.specs.Answer.{within}
use Rattle.attributes.specs.Affinity.{from_mpidr}
use Rattle.attributes.specs.States.{state_of}
use Rattle.attributes.specs.declared.attributes.InterruptState.{InterruptState}
use Rattle.attributes.specs.declared.attributes.TriggerMode.{TriggerMode}
use Rattle.attributes.specs.declared.attributes.TriggerMode.TheVariants.{Edge, Level}
use Rattle.operation.specs.declared.operation.Operation.TheVariants.{SetEnabled, SetPending, SetActive, SetState, ClearDeliveryState, MarkInflight, CancelInflight, FinishInflight, DeactivateInflight, SetPriority, SetTrigger, SetRoute, ClearRoute, SetLevel, Pulse, Complete}
use Rattle.changes.specs.declared.change.Change.TheVariants.{Claim, ClaimTo, Release, SetCpuTargetMask, SynchronizeInflight, Operate}
use Rattle.spi.specs.declared.question.Question.{Question}
use Rattle.spi.specs.declared.question.Question.TheVariants.{Intid, Enabled, Pending, Active, State, HasDeliveryState, CpuTargetMask, Deliverable, IsClaimed, HasFixedRoute}
use Rattle.registers.specs.declared.register.AccessWidth.{AccessWidth}
use Rattle.registers.specs.declared.register.AccessWidth.TheVariants.{Byte, Word, Dword, Qword}
use Rattle.controller.specs.declared.controller.ControllerConfig.{ControllerConfig}
use Rattle.controller.specs.declared.controller.GicV3SpiOwnership.TheVariants.{AllGuestOwned, Explicit}
use Rattle.model.specs.Calls as model
use Rattle.harness_numbers.specs.declared.answer.Answer.{Answer}
use Rattle.harness_numbers.specs.declared.call.Call.{Call}
use Rattle.harness_numbers.specs.declared.call.Family.{Family}
use Rattle.harness_numbers.specs.declared.call.Family.TheVariants.{Identifier, Creation, Read, Write, Switch, Rollback, Change, Asking, Unknown}

-- ---- the arguments

abbrev pub odd : ℕ → Bool
odd n = eqb (n % 2) 1

-- an INTID, N and the LPI limit are the low 32 bits; a mask and a priority the low 8
abbrev pub low_word : ℕ → ℕ
low_word n = n % 2 ^ 32

abbrev pub low_byte : ℕ → ℕ
low_byte n = n % 256

-- a trigger is 1 for edge
abbrev pub trigger_by : ℕ → TriggerMode
trigger_by n = cond (odd n) Edge Level

-- a state is pending + 2 * active
abbrev pub state_by : ℕ → InterruptState
state_by n = state_of (odd n) (odd (n / 2))

abbrev pub width_by : ℕ → AccessWidth
width_by bytes = cond (eqb bytes 1) Byte (cond (eqb bytes 2) Word (cond (eqb bytes 4) Dword Qword))

-- ---- the calls

pub record Row : Type 0 where
  pub op : ℕ
  pub family : Family

abbrev pub row : ℕ → Family → Row
row op f = record { op = op; family = f }

-- THE CALLS, by number, with the argument b
abbrev pub rows : ℕ → List Row
rows b =
    row 0x10 Creation
    ∷ row 0x11 Read
    ∷ row 0x12 Write
    ∷ row 0x13 Switch
    ∷ row 0x14 Rollback
    ∷ row 0x15 (Change Claim)
    ∷ row 0x16 (Change (ClaimTo (from_mpidr b)))
    ∷ row 0x17 (Change Release)
    ∷ row 0x18 (Change (SetCpuTargetMask (low_byte b)))
    ∷ row 0x19 (Asking CpuTargetMask)
    ∷ row 0x20 (Asking Intid)
    ∷ row 0x21 (Asking Enabled)
    ∷ row 0x22 (Change (Operate (SetEnabled (odd b))))
    ∷ row 0x23 (Asking Pending)
    ∷ row 0x24 (Change (Operate (SetPending (odd b))))
    ∷ row 0x25 (Asking Active)
    ∷ row 0x26 (Change (Operate (SetActive (odd b))))
    ∷ row 0x27 (Asking State)
    ∷ row 0x28 (Change (Operate (SetState (state_by b))))
    ∷ row 0x29 (Asking HasDeliveryState)
    ∷ row 0x2a (Change (Operate ClearDeliveryState))
    ∷ row 0x2b (Change (Operate MarkInflight))
    ∷ row 0x2c (Change (SynchronizeInflight (state_by b)))
    ∷ row 0x2d (Change (Operate CancelInflight))
    ∷ row 0x2e (Change (Operate FinishInflight))
    ∷ row 0x2f (Change (Operate (DeactivateInflight (odd b))))
    ∷ row 0x30 (Asking Question.Priority)
    ∷ row 0x31 (Change (Operate (SetPriority (record { 0 = low_byte b }))))
    ∷ row 0x32 (Asking Question.Trigger)
    ∷ row 0x33 (Change (Operate (SetTrigger (trigger_by b))))
    ∷ row 0x34 (Asking Question.Route)
    ∷ row 0x35 (Change (Operate (SetRoute (from_mpidr b))))
    ∷ row 0x36 (Change (Operate ClearRoute))
    ∷ row 0x37 (Change (Operate (SetLevel (odd b))))
    ∷ row 0x38 (Change (Operate Pulse))
    ∷ row 0x39 (Change (Operate Complete))
    ∷ row 0x3a (Asking Deliverable)
    ∷ []

abbrev pub find : ℕ → List Row → Family
find op [] = Unknown
find op (r ∷ rs) = cond (eqb op r.op) r.family (find op rs)

-- 1 to 8 make identifiers, affinities and records, and need no Distributor
abbrev pub family_of : ℕ → ℕ → Family
family_of op b = cond (within 0x01 0x09 op) Identifier (find op (rows b))

-- what a call of five numbers is: one that makes an identifier, an affinity or a record, and needs no Distributor; none at all; or a call
-- of a Distributor
pub data Meaning : Type 0 where
  identifier : Meaning
  unknown : Meaning
  calls : model.Call → Meaning

-- the settings: ownership, then the LPI, ITS, level-3 and range flags, from the lowest bit up
abbrev pub settings_by : ℕ → ℕ → ℕ → ControllerConfig
settings_by flags frame limit = record { spi_ownership = cond (odd flags) Explicit AllGuestOwned; distributor_size = frame; exposes_guest_lpis = odd (flags / 2); its = odd (flags / 4); lpi_limit = low_word limit; affinity_level_3 = odd (flags / 8); range_selector = odd (flags / 16) }

-- a write is lent as many of the places that there are as d says, or all of them
abbrev pub meaning_of : Family → Call → ℕ → Meaning
meaning_of Identifier k places = identifier
meaning_of Creation k places = calls (model.create (settings_by k.b k.c k.d) (low_word k.a))
meaning_of Read k places = calls (model.read k.a (width_by k.b))
meaning_of Write k places = calls (model.write k.a (width_by k.b) k.c (min k.d places))
meaning_of Switch k places = calls model.is_switched_on
meaning_of Rollback k places = calls (model.rollback (odd k.a))
meaning_of (Change h) k places = calls (model.change h (low_word k.a))
meaning_of (Asking q) k places = calls (model.ask q (low_word k.a))
meaning_of Unknown k places = unknown

-- THE CALL that five numbers mean, where there are so many places to lend
abbrev pub call_of : Call → ℕ → Meaning
call_of k places = meaning_of (family_of k.op k.b) k places

-- ---- the answers

abbrev pub numbers : ℕ → ℕ → ℕ → Answer
numbers kind payload count = record { kind = kind; payload = payload; count = count }

-- a call that no number means
abbrev pub no_call : Answer
no_call = numbers 0xff 0 0

-- a refusal's number and what it carries; or kind 0 and what the values are told as
abbrev pub told_by : (List ℕ → Answer) → told.Answer → Answer
told_by f (told.done vs) = f vs
told_by f (told.refused n vs) = numbers n (get_or vs 0 0) 0

-- the value, 0 where there is none
abbrev pub valued : told.Answer → Answer
valued = told_by (λ vs. numbers 0 (get_or vs 0 0) 0)

-- a write tells how many candidates it lists
abbrev pub listed : told.Answer → Answer
listed = told_by (λ vs. numbers 0 0 (get_or vs 0 0))

-- a route is told with 2^40 added, so that 0.0.0.0 is not an absent one
abbrev pub route_payload : List ℕ → ℕ
route_payload [] = 0
route_payload (v ∷ vs) = 2 ^ 40 + v

abbrev pub asked_payload : Question → List ℕ → ℕ
asked_payload Intid vs = get_or vs 0 0
asked_payload Enabled vs = get_or vs 0 0
asked_payload Pending vs = get_or vs 0 0
asked_payload Active vs = get_or vs 0 0
asked_payload State vs = get_or vs 0 0
asked_payload HasDeliveryState vs = get_or vs 0 0
asked_payload Question.Priority vs = get_or vs 0 0
asked_payload Question.Trigger vs = get_or vs 0 0
asked_payload Question.Route vs = route_payload vs
asked_payload CpuTargetMask vs = get_or vs 0 0
asked_payload Deliverable vs = get_or vs 0 0
asked_payload IsClaimed vs = get_or vs 0 0
asked_payload HasFixedRoute vs = get_or vs 0 0

abbrev pub asked : Question → told.Answer → Answer
asked q = told_by (λ vs. numbers 0 (asked_payload q vs) 0)

-- THE NUMBERS of what a call answers
abbrev pub numbers_of : model.Call → told.Answer → Answer
numbers_of (model.create c n) a = valued a
numbers_of (model.read offset w) a = valued a
numbers_of (model.write offset w v places) a = listed a
numbers_of model.is_switched_on a = valued a
numbers_of (model.rollback on) a = valued a
numbers_of (model.change h raw) a = valued a
numbers_of (model.ask q raw) a = asked q a
