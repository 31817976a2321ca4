-- What is held under a name. It changes in one call by what is held there alone, and the names hold all of the state.
use Prim.Native.Nat.{ℕ, ◌+◌, ◌-◌, ◌≤◌}
use Rattle.std.specs.Prelude.{◌≡◌, Bool, true, false, cond, List, leb}
use Rattle.std.proofs.Math.Path.{refl, ap}
use Rattle.std.proofs.Common.{sym, ◌∙◌, arith, le-leb}
use Rattle.std.proofs.Math.Option.{Option, none, map}
use Rattle.std.proofs.Math.ListN.{get_elem?}
use Rattle.theory.specs.Elements.{get_or-at, at_all, at-map_at}
use Rattle.controller.specs.declared.controller.ControllerConfig.{ControllerConfig}
use Rattle.slot.specs.declared.slot.Slot.{Slot}
use Rattle.place.specs.Table.{table_size}
use Rattle.slot.specs.NoSlot.{no_slot}
use Rattle.slot.specs.BankRule.{slot_of}
use Rattle.model.specs.Calls.{Distributor, Call, slot_after, switch_after, step}
use Rattle.order.specs.Names.{Name, the_switch, spi}

-- ---- what is held under a name

-- the slot of INTID i, if the table has a place for it
abbrev pub slot_at : List Slot → ℕ → Option Slot
slot_at slots i = cond (leb 32 i) (get_elem? slots (i - 32)) none

abbrev pub Contents : Name → Type 0
Contents the_switch = Bool
Contents (spi i) = Option Slot

abbrev pub contents : (m : Name) → Distributor → Contents m
contents the_switch d = d.switch
contents (spi i) d = slot_at d.slots i

-- ---- what is held under a name changes by what is held there alone

module _ (c : ControllerConfig) (n : ℕ) where
  -- a state, by what calls change of it
  abbrev pub state_with : Bool → List Slot → Distributor
  state_with on slots = record { config = c; switch = on; count = n; slots = slots }

  pub local_state : (k : Call) (m : Name) (on on' : Bool) (l l' : List Slot) → contents m (state_with on l) ≡ contents m (state_with on' l')
      → contents m (step k (state_with on l)) ≡ contents m (step k (state_with on' l'))
  unfolding step
  local_state k the_switch on on' l l' e = ap (switch_after c (table_size n) k) e
  local_state k (spi i) on on' l l' e = go (leb 32 i) e
    where
      f : ℕ → Slot → Slot
      f p = slot_after c (table_size n) k (32 + p)

      go : (b : Bool) → cond b (get_elem? l (i - 32)) none ≡ cond b (get_elem? l' (i - 32)) none
          → cond b (get_elem? (step k (state_with on l)).slots (i - 32)) none ≡ cond b (get_elem? (step k (state_with on' l')).slots (i - 32)) none
      go true q = at-map_at f l (i - 32) ∙ ap (map (f (i - 32))) q ∙ sym (at-map_at f l' (i - 32))
      go false q = refl

-- ---- the names hold all of the state

-- a place of the table has a name
at_slot : (l : List Slot) (p : ℕ) → slot_at l (32 + p) ≡ get_elem? l p
at_slot l p =
    let low : leb 32 (32 + p) ≡ true = le-leb 32 (32 + p) (omega arith) in
    let back : 32 + p - 32 ≡ p = omega arith in
    ap (λ (b : Bool). cond b (get_elem? l (32 + p - 32)) none) low ∙ ap (get_elem? l) back

slots_same : (l l' : List Slot) → ((i : ℕ) → slot_at l i ≡ slot_at l' i) → l ≡ l'
slots_same l l' h = at_all l l' (λ p. sym (at_slot l p) ∙ h (32 + p) ∙ at_slot l' p)

module _ (c : ControllerConfig) (n : ℕ) where
  pub whole_state : (on on' : Bool) (l l' : List Slot) → ((m : Name) → contents m (state_with c n on l) ≡ contents m (state_with c n on' l')) → state_with c n on l ≡ state_with c n on' l'
  whole_state on on' l l' h =
      let p : on ≡ on' = h the_switch in
      let q : l ≡ l' = slots_same l l' (λ i. h (spi i)) in
      λ j. state_with c n (p j) (q j)

-- what is held under an SPI's name is its slot
pub slot_same : (l l' : List Slot) (i : ℕ) → 32 ≤ i → slot_at l i ≡ slot_at l' i → slot_of l i ≡ slot_of l' i
slot_same l l' i h e = let low : leb 32 i ≡ true = le-leb 32 i h in get_or-at l l' (i - 32) no_slot (rw low at e)
