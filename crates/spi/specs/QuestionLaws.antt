-- What the host is answered: of each question what the guest sees or what the host did, and of each change when it is refused.
use Rattle.std.specs.Prelude.{ℕ, ◌+◌, ◌*◌, ◌/◌, ◌≡◌, Bool, true, false, not, ◌&&◌, ◌||◌, cond, [], ◌∷◌, Ok, Err, Some, None, Option}
use Rattle.std.proofs.Math.Path.{refl, ap}
use Rattle.std.proofs.Common.{◌∙◌}
use Rattle.std.proofs.Math.Bool.{or-true}
use Rattle.identifiers.specs.declared.error.Refusal.{Refusal}
use Rattle.identifiers.specs.Answer.{Answer, done, refused, told_refusal, raw_of}
use Rattle.attributes.specs.declared.attributes.GicAffinity.{GicAffinity}
use Rattle.attributes.specs.declared.attributes.TriggerMode.{TriggerMode}
use Rattle.attributes.specs.declared.attributes.TriggerMode.TheVariants.{Edge, Level}
use Rattle.attributes.specs.declared.attributes.InterruptState.{InterruptState}
use Rattle.attributes.specs.Affinity.{mpidr_of}
use Rattle.attributes.specs.States.{level_of, state_of, state_number}
use Rattle.interrupt.specs.declared.interrupt.InterruptRecord.{InterruptRecord}
use Rattle.interrupt.specs.Records.{fresh, with_life, line_pulsed, state_in, deliverable_in, trigger_to, route_to, unrouted, mask_to, route_in, mask_in}
use Rattle.operation.specs.declared.operation.Operation.{Operation}
use Rattle.operation.specs.declared.operation.Operation.TheVariants.{SetActive, ClearDeliveryState, MarkInflight, Pulse, SetTrigger, SetRoute, ClearRoute}
use Rattle.operation.specs.Operation.{applied}
use Rattle.operation.specs.Laws.{intid_kept, mask_intid, synchronized_intid}
use Rattle.bank.specs.declared.bank.Flag.{Flag}
use Rattle.bank.specs.declared.bank.Field.{Field}
use Rattle.bank.specs.declared.bank.Bank.{Bank}
use Rattle.bank.specs.declared.bank.Bank.TheVariants.{Set, Replace}
use Rattle.bank.specs.Banks.{bit, edge_field, route_bits, shown}
use Rattle.slot.specs.Effects.{Effect, leave, apply, written}
use Rattle.changes.specs.declared.change.Change.{Change}
use Rattle.changes.specs.declared.change.Change.TheVariants.{Claim, ClaimTo, Release, SetCpuTargetMask, SynchronizeInflight, Operate}
use Rattle.slot.specs.declared.slot.Slot.{Slot}
use Rattle.changes.specs.Changes.{happens, record_after}
use Rattle.slot.specs.Slots.{fresh_spi, after_effect, field_written, changed}
use Rattle.spi.specs.declared.question.Question.{Question}
use Rattle.spi.specs.declared.question.Question.TheVariants.{Intid, Enabled, Pending, Active, State, HasDeliveryState, Priority, Trigger, CpuTargetMask, Deliverable, IsClaimed, HasFixedRoute}
use Rattle.spi.specs.Questions.{route_values, question_answer, told_question}
use Rattle.spi.specs.ChangeAnswers.{change_answer}

-- what a question to an SPI of the table is told, and an answer of one number
abbrev asked : Question → Slot → Answer
asked q s = told_question (question_answer q (Ok s))

abbrev number : ℕ → Answer
number n = done (n ∷ [])

-- the number of an answer, and 0 where it has none
abbrev number_or_zero : Answer → ℕ
number_or_zero (done []) = 0
number_or_zero (done (n ∷ l)) = n
number_or_zero (refused n l) = 0

-- a slot with this record, claimed or not, with or without the fixed mark
abbrev spi : InterruptRecord → Bool → Bool → Slot
spi r claim mark = record { interrupt = r; ownership = record { explicitly_owned = claim; fixed_route = mark } }

-- without an SPI every question gets the refusal
pub no_spi_lem : (q : Question) (f : Refusal) → told_question (question_answer q (Err f)) ≡ told_refusal f
no_spi_lem q f = refl

-- ---- what the guest sees

trigger_bit : (t : TriggerMode) → bit (not (level_of t)) ≡ edge_field t / 2
trigger_bit Edge = refl
trigger_bit Level = refl

route_number_lem : (a : Option GicAffinity) → number_or_zero (done (route_values a)) ≡ route_bits a
route_number_lem (Some a) = refl
route_number_lem None = refl

state_sum : (p a : Bool) → state_number (state_of p a) ≡ bit p + 2 * bit a
state_sum false false = refl
state_sum true false = refl
state_sum false true = refl
state_sum true true = refl

both_bits : (e p : Bool) → bit (e && p) ≡ bit e * bit p
both_bits true true = refl
both_bits true false = refl
both_bits false true = refl
both_bits false false = refl

module _ (s : Slot) where
  -- what ISENABLER, ISPENDR, ISACTIVER and IPRIORITYR show to a guest that owns the SPI
  pub as_shown :
      (asked Enabled s ≡ number (shown (Set Flag.Enabled) s.interrupt)) ×
      (asked Pending s ≡ number (shown (Set Flag.Pending) s.interrupt)) ×
      (asked Active s ≡ number (shown (Set Flag.Active) s.interrupt)) ×
      (asked Priority s ≡ number (shown (Replace Field.Priority) s.interrupt))
  as_shown = (refl, refl, refl, refl)

  -- the trigger is the upper of the two bits that ICFGR shows
  pub trigger_shown : asked Trigger s ≡ number (shown (Replace Field.Configuration) s.interrupt / 2)
  trigger_shown = ap number (trigger_bit s.interrupt.trigger)

  -- the route is what IROUTER shows; where none is set there is no number, and IROUTER shows 0
  pub route_answered : number_or_zero (asked Question.Route s) ≡ shown (Replace Field.Route) s.interrupt
  route_answered = route_number_lem (route_in s.interrupt)

  -- the state is 1 for pending and 2 for active
  pub state_shown : asked State s ≡ number (shown (Set Flag.Pending) s.interrupt + 2 * shown (Set Flag.Active) s.interrupt)
  unfolding state_in
  state_shown = ap number (state_sum s.interrupt.life.pending s.interrupt.life.active)

  -- deliverable exactly when enabled and pending
  pub deliverable_answered : asked Deliverable s ≡ number (shown (Set Flag.Enabled) s.interrupt * shown (Set Flag.Pending) s.interrupt)
  unfolding deliverable_in
  deliverable_answered = ap number (both_bits s.interrupt.life.enabled s.interrupt.life.pending)

-- ---- what the host did

-- a new SPI is unclaimed, level-sensitive and disabled, with priority 0x80, no route, and core 0 as its target
pub fresh-answers : (raw : ℕ) → let s = fresh_spi raw in
    (asked Intid s ≡ number raw) ×
    (asked IsClaimed s ≡ number 0) ×
    (asked HasFixedRoute s ≡ number 0) ×
    (asked HasDeliveryState s ≡ number 0) ×
    (asked Enabled s ≡ number 0) ×
    (asked Trigger s ≡ number 0) ×
    (asked Priority s ≡ number 0x80) ×
    (asked Question.Route s ≡ done []) ×
    (asked CpuTargetMask s ≡ number 1)
unfolding fresh route_in mask_in
fresh-answers raw = (refl, refl, refl, refl, refl, refl, refl, refl, refl)

module _ (r : InterruptRecord) (claim mark : Bool) where
  -- after a claim the SPI is claimed. Only a physical claim fixes the route, and it leaves no target mask
  pub after_claim : (a : GicAffinity) → let s = spi r false mark in
      (asked IsClaimed (changed Claim s) ≡ number 1) ×
      (asked HasFixedRoute (changed Claim s) ≡ number 0) ×
      (asked IsClaimed (changed (ClaimTo a) s) ≡ number 1) ×
      (asked HasFixedRoute (changed (ClaimTo a) s) ≡ number 1) ×
      (asked Question.Route (changed (ClaimTo a) s) ≡ number (mpidr_of a)) ×
      (asked CpuTargetMask (changed (ClaimTo a) s) ≡ number 1)
  unfolding route_to route_in mask_in
  after_claim a = (refl, refl, refl, refl, refl, refl)

  -- after a release the SPI is unclaimed and level-sensitive, with no route
  pub after_release : let s = changed Release (spi r claim mark) in
      (asked IsClaimed s ≡ number 0) × (asked HasFixedRoute s ≡ number 0) × (asked Question.Route s ≡ done []) × (asked Trigger s ≡ number 0)
  unfolding unrouted trigger_to route_in
  after_release = (refl, refl, refl, refl)

  -- a target mask is what was set, and takes the route's place, unless the route is fixed
  pub after_mask : (m : ℕ) →
      (asked CpuTargetMask (changed (SetCpuTargetMask m) (spi r claim false)) ≡ number m) ×
      (asked Question.Route (changed (SetCpuTargetMask m) (spi r claim false)) ≡ done []) ×
      (changed (SetCpuTargetMask m) (spi r claim true) ≡ spi r claim true)
  unfolding mask_to route_in mask_in
  after_mask m = (refl, refl, refl)

  -- an operation changes neither claim nor mark
  pub after_operation : (o : Operation) → let s = spi r claim mark in
      (asked IsClaimed (changed (Operate o) s) ≡ asked IsClaimed s) × (asked HasFixedRoute (changed (Operate o) s) ≡ asked HasFixedRoute s)
  after_operation o = (refl, refl)

  -- what was pulsed, set active or taken has delivery state, enabled or not; what was cleared has none
  pub after_delivery : let after : Operation → Answer = λ o. asked HasDeliveryState (changed (Operate o) (spi r claim mark)) in
      (after Pulse ≡ number 1) × (after (SetActive true) ≡ number 1) × (after MarkInflight ≡ number 1) × (after ClearDeliveryState ≡ number 0)
  unfolding with_life line_pulsed
  after_delivery = (refl, rw (or-true r.life.pending), rw (or-true (r.life.pending || r.life.active)), refl)

-- ---- the INTID stays

pub record_intid : (h : Change) (r : InterruptRecord) → (record_after h r).intid ≡ r.intid
record_intid Claim r = refl
record_intid (ClaimTo a) r = intid_kept (SetRoute a) r
record_intid Release r = intid_kept (SetTrigger Level) (applied ClearRoute r) ∙ intid_kept ClearRoute r
record_intid (SetCpuTargetMask m) r = mask_intid m r
record_intid (SynchronizeInflight t) r = synchronized_intid t r
record_intid (Operate o) r = intid_kept o r

pub effect_intid : (x : Effect) (r : InterruptRecord) → (after_effect x r).intid ≡ r.intid
effect_intid leave r = refl
effect_intid (apply o) r = intid_kept o r

-- no change of the host and no field that a guest writes makes it another interrupt
pub intid_stays : (s : Slot) (h : Change) (explicit : Bool) (b : Bank) (v : ℕ) → (asked Intid (changed h s) ≡ asked Intid s) × (asked Intid (field_written explicit b v s) ≡ asked Intid s)
intid_stays s h explicit b v = (go (happens h s.ownership) _ (record_intid h s.interrupt), ap (λ i. number (raw_of i)) (effect_intid (written explicit s.ownership b v).effect s.interrupt))
  where
    go : (happened : Bool) (t : Slot) → t.interrupt.intid ≡ s.interrupt.intid → asked Intid (cond happened t s) ≡ asked Intid s
    go true t e = ap (λ i. number (raw_of i)) e
    go false t e = refl

-- ---- what a change answers

-- a claim is refused 2 exactly when the SPI is claimed
pub claim_answers : (r : InterruptRecord) (mark : Bool) (a : GicAffinity) →
    (change_answer Claim (spi r true mark) ≡ refused 2 []) ×
    (change_answer (ClaimTo a) (spi r true mark) ≡ refused 2 []) ×
    (change_answer Claim (spi r false mark) ≡ done []) ×
    (change_answer (ClaimTo a) (spi r false mark) ≡ done [])
claim_answers r mark a = (refl, refl, refl, refl)

-- every other change is done; a synchronisation answers the state that it leaves
pub other-answers : (s : Slot) (m : ℕ) (o : Operation) (t : InterruptState) →
    (change_answer Release s ≡ done []) ×
    (change_answer (SetCpuTargetMask m) s ≡ done []) ×
    (change_answer (Operate o) s ≡ done []) ×
    (change_answer (SynchronizeInflight t) s ≡ asked State (changed (SynchronizeInflight t) s))
other-answers s m o t = (refl, refl, refl, refl)
