-- What the guest reads, and what a write does, of every SPI: a row that is wrong breaks one of these laws even if the code has the same
-- mistake.
use Rattle.std.specs.Prelude.{ℕ, ◌^◌, ◌<◌, ◌≡◌, refl, Bool, true, false, ◌&&◌, cond, [], ◌∷◌, map}
use Rattle.std.proofs.Common.{ap, ◌∙◌}
use Rattle.std.proofs.Math.Bool.{and-true, and-false}
use Rattle.attributes.specs.Affinity.{mpidr_of}
use Rattle.attributes.specs.declared.attributes.GicAffinity.{GicAffinity}
use Rattle.attributes.specs.declared.attributes.Priority as attributes
use Rattle.attributes.specs.declared.attributes.TriggerMode.{TriggerMode}
use Rattle.life.specs.Life.{line}
use Rattle.interrupt.specs.Records.{fresh, is_level, route_in}
use Rattle.operation.specs.declared.operation.Operation.{Operation}
use Rattle.operation.specs.declared.operation.Operation.TheVariants.{SetEnabled, SetActive, SetPriority, SetTrigger, SetRoute, SetLevel, Pulse}
use Rattle.operation.specs.Laws.{flags_after, settings_after}
use Rattle.bank.specs.declared.bank.Flag.{Flag}
use Rattle.bank.specs.declared.bank.Bank.{Bank}
use Rattle.bank.specs.declared.bank.Bank.TheVariants.{Set, Clear}
use Rattle.bank.specs.Banks.{bit, bits_of, shown, acts}
use Rattle.bank.specs.RowLaws.{banks, ISENABLER, ISPENDR, ISACTIVER, IGROUPR, IPRIORITYR, ICFGR, IROUTER, route_shown, deliverable-shown}
use Rattle.ownership.specs.Owned.{owned}
use Rattle.changes.specs.declared.change.Change.TheVariants.{Operate}
use Rattle.slot.specs.declared.slot.Slot.{Slot}
use Rattle.slot.specs.Effects.{touches}
use Rattle.slot.specs.Slots.{fresh_spi, showing, field_written, field_listed, changed}
use Rattle.slot.specs.Guest.{shows_then, can_list, reads_deliverable}
use Rattle.slot.proofs.GuestRows.{made, shown-after, record_row, effect_chosen, lists_chosen, can_list_lem}

-- what a new SPI shows, bank by bank in the order of Arm's map: it is the guest's where all SPIs are, and its priority is 0x80
pub fresh_shows : (raw : ℕ) → map (λ b. showing false b (fresh_spi raw)) banks ≡ 1 ∷ 0 ∷ 0 ∷ 0 ∷ 0 ∷ 0 ∷ 0 ∷ 0x80 ∷ 0 ∷ 0 ∷ []
unfolding fresh route_in
fresh_shows raw = refl

-- with explicit claims it is not
pub fresh_unowned : (raw : ℕ) → owned true (fresh_spi raw).ownership ≡ false
fresh_unowned raw = refl

module _ (e : Bool) (s : Slot) where
  -- a field touches an owned SPI, if it acts
  touched : (a : Bank) (v : ℕ) {c : Bool} → owned e s.ownership ≡ c → touches e s.ownership a v ≡ (acts a v && c)
  touched a v h = ap (λ (x : Bool). acts a v && x) h

  -- ---- every SPI

  -- GICD_IS..R<n> and GICD_IC..R<n> show the same
  pub pair_shows_one : (f : Flag) → showing e (Set f) s ≡ showing e (Clear f) s
  pair_shows_one f = refl

  -- GICD_IGROUPR<n> shows which SPIs are owned
  pub group_shows_owned : showing e IGROUPR s ≡ bit (owned e s.ownership)
  group_shows_owned = go (owned e s.ownership)
    where
      go : (b : Bool) → cond b 1 0 ≡ bit b
      go true = refl
      go false = refl

  -- a write lists an SPI exactly when it is one that can list, and the guest reads afterwards that the SPI is enabled and pending; an
  -- unowned SPI shows 0, and is never listed
  pub listed_exactly : (a : Bank) (v : ℕ) → field_listed e a v s ≡ (can_list a v && reads_deliverable e (field_written e a v s))
  listed_exactly a v = go (owned e s.ownership) refl
    where
      go : (b : Bool) → owned e s.ownership ≡ b → field_listed e a v s ≡ (can_list a v && reads_deliverable e (field_written e a v s))
      go true mine = rw (touched a v mine, and-true (acts a v), lists_chosen (acts a v), mine, can_list_lem a v, deliverable-shown)
      go false unowned = rw (touched a v unowned, and-false (acts a v), unowned, and-false (can_list a v))

  -- ---- an SPI that is not owned

  module _ (unowned : owned e s.ownership ≡ false) where
    pub unowned_shows_0 : (b : Bank) → showing e b s ≡ 0
    unowned_shows_0 b = rw unowned

    pub unowned_ignores : (a : Bank) (v : ℕ) → field_written e a v s ≡ s
    unowned_ignores a v = rw (touched a v unowned, and-false (acts a v))

  -- ---- an owned SPI

  module _ (mine : owned e s.ownership ≡ true) where
    -- what every bank shows after a write to every bank
    pub read_after_write : (a : Bank) (v : ℕ) (b : Bank) → v < 2 ^ bits_of a
        → showing e b (field_written e a v s) ≡ shows_then (line s.interrupt.life) (is_level s.interrupt) s.ownership.fixed_route a v b (showing e b s)
    read_after_write a v b fits = rw (touched a v mine, and-true (acts a v), effect_chosen (acts a v), mine) (record_row s.ownership.fixed_route a v b s.interrupt fits)

    -- ---- what a shown value means: it is what the host set

    operated : (b : Bank) (o : Operation) → showing e b (changed (Operate o) s) ≡ shown b (made (flags_after o (is_level s.interrupt) s.interrupt.life) (settings_after o s.interrupt) s.interrupt)
    operated b o = rw mine (shown-after b o s.interrupt)

    pub enabled_shows : (on : Bool) → showing e ISENABLER (changed (Operate (SetEnabled on)) s) ≡ bit on
    enabled_shows on = operated ISENABLER (SetEnabled on)

    pub pulse_shows : showing e ISPENDR (changed (Operate Pulse) s) ≡ 1
    pulse_shows = operated ISPENDR Pulse

    pub line_shows : showing e ISPENDR (changed (Operate (SetLevel true)) s) ≡ 1
    line_shows = operated ISPENDR (SetLevel true)

    pub active_shows : (on : Bool) → showing e ISACTIVER (changed (Operate (SetActive on)) s) ≡ bit on
    active_shows on = operated ISACTIVER (SetActive on)

    pub priority_shows : (p : attributes.Priority) → showing e IPRIORITYR (changed (Operate (SetPriority p)) s) ≡ p.0
    priority_shows p = operated IPRIORITYR (SetPriority p)

    pub edge_shows : showing e ICFGR (changed (Operate (SetTrigger TriggerMode.Edge)) s) ≡ 2
    edge_shows = operated ICFGR (SetTrigger TriggerMode.Edge)

    pub route_shows : (a : GicAffinity) → showing e IROUTER (changed (Operate (SetRoute a)) s) ≡ mpidr_of a
    route_shows a = operated IROUTER (SetRoute a) ∙ route_shown (made s.interrupt.life (settings_after (SetRoute a) s.interrupt) s.interrupt)
