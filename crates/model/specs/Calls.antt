-- Every call on a Distributor: what it does to each slot and to the switch, and what it answers.
use Rattle.std.specs.Prelude.{ℕ, ◌+◌, Bool, false, ◌&&◌, cond, List, [], ◌∷◌, eqb, length, get_or, Ok, Err}
use Rattle.theory.specs.Lists.{map_at, tabulate, laid, passing}
use Rattle.identifiers.specs.Answer.{Answer, done, refused, told_refusal, unless}
use Rattle.interrupt.specs.Records.{deliverable_in}
use Rattle.place.specs.Table.{capacity, create_answer, table_size, in_table}
use Rattle.controller.specs.declared.controller.ControllerConfig.{ControllerConfig}
use Rattle.controller.specs.Modes.{explicit}
use Rattle.controller.specs.Identity.{component_id, iidr_value, switch_bit, ctlr_value, typer_value}
use Rattle.bank.specs.Banks.{bit}
use Rattle.registers.specs.declared.register.AccessWidth.{AccessWidth}
use Rattle.registers.specs.declared.register.Register.TheVariants.{Identification, Ctlr, Typer, Iidr, Fields, Reserved}
use Rattle.registers.specs.declared.register.Direction.TheVariants.{Reading}
use Rattle.decoding.specs.Decoding.{decode, write_access}
use Rattle.slot.specs.declared.slot.Slot.{Slot}
use Rattle.slot.specs.Slots.{fresh_spi, changed}
use Rattle.slot.specs.BankRule.{slot_of, bank_value, bank_slot, bank_candidates, read_beyond, write_beyond}
use Rattle.changes.specs.declared.change.Change.{Change}
use Rattle.spi.specs.declared.question.Question.{Question}
use Rattle.spi.specs.ChangeAnswers.{change_answer}
use Rattle.spi.specs.Questions.{value_of, told_value}
use Rattle.registers.specs.Registers.{Access}

-- a Distributor: its settings, the master switch, how many SPIs it was made for, and their slots, INTID 32's first
pub record Distributor : Type 0 where
  pub config : ControllerConfig
  pub switch : Bool
  pub count : ℕ
  pub slots : List Slot

-- how many SPIs it has: as many as were asked for, at most 988
abbrev pub size : Distributor → ℕ
size d = table_size d.count

-- a call. Numbers are as handed over: INTIDs, offsets, values. A write comes with the number of places that are lent, and not with
-- what they hold
pub data Call : Type 0 where
  create : ControllerConfig → ℕ → Call
  read : ℕ → AccessWidth → Call
  write : ℕ → AccessWidth → ℕ → ℕ → Call
  is_switched_on : Call
  rollback : Bool → Call
  change : Change → ℕ → Call
  ask : Question → ℕ → Call

-- what a call gives back: the answer in the paper's terms, and the candidates that it lists
pub record Reply : Type 0 where
  pub answer : Answer
  pub candidates : List ℕ

abbrev pub plain : Answer → Reply
plain a = record { answer = a; candidates = [] }

-- what the caller of a write has then: the answer, and the lent list with the candidates in its first places
pub record Outcome : Type 0 where
  pub answer : Answer
  pub list : List ℕ

abbrev pub outcome : Reply → List ℕ → Outcome
outcome r lent = record { answer = r.answer; list = laid r.candidates lent }

-- the number of the candidates is the answer
abbrev pub listing : List ℕ → Reply
listing candidates = record { answer = done (length candidates ∷ []); candidates = candidates }

-- a write that is refused beyond the table, at the lowest such INTID, lists none
abbrev pub listing_unless : List ℕ → List ℕ → Reply
listing_unless [] candidates = listing candidates
listing_unless (i ∷ is) candidates = plain (refused 1 (i ∷ []))

-- ---- creation

-- each place holds its own SPI, those past the last SPI too, where nobody looks
abbrev pub created : ControllerConfig → ℕ → Distributor
created c n = record { config = c; switch = false; count = n; slots = tabulate (λ p. fresh_spi (32 + p)) 0 capacity }

-- ---- what a call does

module _ (c : ControllerConfig) (n : ℕ) where
  -- a guest write, as it reaches the slot of INTID i
  abbrev pub written_at : Access → ℕ → ℕ → Slot → Slot
  written_at (Err f) v i s = s
  written_at (Ok (Identification k)) v i s = s
  written_at (Ok Ctlr) v i s = s
  written_at (Ok Typer) v i s = s
  written_at (Ok Iidr) v i s = s
  written_at (Ok (Fields b lo m)) v i s = bank_slot (explicit c.spi_ownership) n b v lo m i s
  written_at (Ok Reserved) v i s = s

  -- a host's change of the SPI raw, and of no other
  abbrev pub changed_at : Change → ℕ → ℕ → Slot → Slot
  changed_at h raw i s = cond (in_table n i && eqb i raw) (changed h s) s

  -- the slot of INTID i after a call
  abbrev pub slot_after : Call → ℕ → Slot → Slot
  slot_after (create d m) i s = s
  slot_after (read offset w) i s = s
  slot_after (write offset w v places) i s = written_at (write_access places n c.distributor_size offset w) v i s
  slot_after is_switched_on i s = s
  slot_after (rollback on) i s = s
  slot_after (change h raw) i s = changed_at h raw i s
  slot_after (ask q raw) i s = s

  abbrev pub switched : Access → ℕ → Bool → Bool
  switched (Err f) v on = on
  switched (Ok (Identification k)) v on = on
  switched (Ok Ctlr) v on = switch_bit v
  switched (Ok Typer) v on = on
  switched (Ok Iidr) v on = on
  switched (Ok (Fields b lo m)) v on = on
  switched (Ok Reserved) v on = on

  -- the switch after a call
  abbrev pub switch_after : Call → Bool → Bool
  switch_after (create d m) on = on
  switch_after (read offset w) on = on
  switch_after (write offset w v places) on = switched (write_access places n c.distributor_size offset w) v on
  switch_after is_switched_on on = on
  switch_after (rollback to) on = to
  switch_after (change h raw) on = on
  switch_after (ask q raw) on = on

-- the Distributor after a call: settings and count stay, and every slot is as `slot_after` says
unfoldable pub step : Call → Distributor → Distributor
step k d = record { config = d.config; switch = switch_after d.config (size d) k d.switch; count = d.count; slots = map_at (λ p. slot_after d.config (size d) k (32 + p)) d.slots }

-- the Distributor after a write, once the write is decoded to an access
abbrev pub after_write : Distributor → Access → ℕ → Distributor
after_write d a v = record { config = d.config; switch = switched d.config (size d) a v d.switch; count = d.count; slots = map_at (λ p. written_at d.config (size d) a v (32 + p)) d.slots }

-- ---- what a call answers

-- the record of INTID i is deliverable
abbrev pub deliverable_at : List Slot → ℕ → Bool
deliverable_at slots i = deliverable_in (slot_of slots i).interrupt

module _ (d : Distributor) where
  -- a host call on an SPI outside the table is refused 1
  abbrev pub on_spi : ℕ → (Slot → Answer) → Reply
  on_spi raw f = plain (cond (in_table (size d) raw) (f (slot_of d.slots raw)) (refused 1 (raw ∷ [])))

  abbrev pub read_reply : Access → Reply
  read_reply (Err f) = plain (told_refusal f)
  read_reply (Ok (Identification k)) = plain (done (get_or component_id k 0 ∷ []))
  read_reply (Ok Ctlr) = plain (done (ctlr_value d.switch ∷ []))
  read_reply (Ok Typer) = plain (done (typer_value d.config (size d) ∷ []))
  read_reply (Ok Iidr) = plain (done (iidr_value ∷ []))
  read_reply (Ok (Fields b lo m)) =
      plain
      (unless (read_beyond (explicit d.config.spi_ownership) (size d) b lo m)
      (done (bank_value (explicit d.config.spi_ownership) (size d) b lo m d.slots ∷ [])))
  read_reply (Ok Reserved) = plain (done (0 ∷ []))

  -- turned on, the switch lists every deliverable SPI, owned or not, by the base's rule
  abbrev pub switch_candidates : ℕ → List ℕ
  switch_candidates v = cond (switch_bit v) (passing (deliverable_at d.slots) 32 (size d)) []

  abbrev pub write_reply : Access → ℕ → Reply
  write_reply (Err f) v = plain (told_refusal f)
  write_reply (Ok (Identification k)) v = listing []
  write_reply (Ok Ctlr) v = listing (switch_candidates v)
  write_reply (Ok Typer) v = listing []
  write_reply (Ok Iidr) v = listing []
  write_reply (Ok (Fields b lo m)) v =
      listing_unless (write_beyond (explicit d.config.spi_ownership) (size d) b v lo m)
      (bank_candidates (explicit d.config.spi_ownership) (size d) b v lo m d.slots)
  write_reply (Ok Reserved) v = listing []

unfoldable pub reply : Call → Distributor → Reply
reply (create c n) d = plain (create_answer n)
reply (read offset w) d = read_reply d (decode Reading d.config.distributor_size offset w)
reply (write offset w v places) d = write_reply d (write_access places (size d) d.config.distributor_size offset w) v
reply is_switched_on d = plain (done (bit d.switch ∷ []))
reply (rollback on) d = plain (done [])
reply (change h raw) d = on_spi d raw (change_answer h)
reply (ask q raw) d = on_spi d raw (λ s. done (told_value (value_of q s)))
