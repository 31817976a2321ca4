-- How many candidates a write lists, and what becomes of the lent list.
use Rattle.std.specs.Prelude.{ℕ, ◌+◌, ◌≤◌, ◌<◌, ◌≡◌, refl, Bool, true, false, cond, List, [], ◌∷◌, ltb, length, Ok, Err}
use Rattle.std.proofs.Common.{arith, ltb-false}
use Rattle.std.proofs.Math.ListN.{get_elem?}
use Rattle.theory.specs.Lists.{passing}
use Rattle.theory.specs.Elements.{laid-first, laid_past}
use Rattle.theory.specs.ListLaws.{passing_few, passing_most}
use Rattle.identifiers.specs.Answer.{Answer, refused, number_of, carried_by}
use Rattle.registers.specs.declared.register.AccessWidth.{AccessWidth}
use Rattle.bank.specs.declared.bank.Bank.{Bank}
use Rattle.registers.specs.declared.register.Register.TheVariants.{Identification, Ctlr, Typer, Iidr, Fields, Reserved}
use Rattle.decoding.specs.Decoding.{write_access}
use Rattle.controller.specs.Modes.{explicit}
use Rattle.controller.specs.Identity.{switch_bit}
use Rattle.slot.specs.BankRule.{candidate, bank_candidates, write_beyond}
use Rattle.slot.specs.BankRuleLaws.{candidate_in}
use Rattle.model.specs.Calls.{Distributor, write, Reply, plain, size, deliverable_at, outcome, listing, listing_unless, switch_candidates, write_reply, reply}
use Rattle.registers.specs.Registers.{Access}

module _ (d : Distributor) (offset : ℕ) (w : AccessWidth) (v places : ℕ) where
  -- a write is refused and lists none, or done and tells how many it lists: at most as many as there are SPIs
  pub data Lists : Reply → Type 0 where
    turned_down : (n : ℕ) (c : List ℕ) → Lists (plain (refused n c))
    listed : (candidates : List ℕ) → length candidates ≤ size d → Lists (listing candidates)

  bank_few : (b : Bank) (lo m : ℕ) → length (bank_candidates (explicit d.config.spi_ownership) (size d) b v lo m d.slots) ≤ size d
  bank_few b lo m =
      let few = passing_few (candidate (explicit d.config.spi_ownership) (size d) b v lo m d.slots) 32 (32 + size d) (candidate_in (explicit d.config.spi_ownership) (size d) b v lo m d.slots) lo m in
      omega arith

  switch_few : length (switch_candidates d v) ≤ size d
  switch_few = go (switch_bit v)
    where
      go : (b : Bool) → length (cond b (passing (deliverable_at d.slots) 32 (size d)) []) ≤ size d
      go true = passing_most (deliverable_at d.slots) 32 (size d)
      go false = omega arith

  access_lists : (a : Access) → Lists (write_reply d a v)
  access_lists (Err f) = turned_down (number_of f) (carried_by f)
  access_lists (Ok (Identification k)) = listed [] (omega arith)
  access_lists (Ok Ctlr) = listed (switch_candidates d v) switch_few
  access_lists (Ok Typer) = listed [] (omega arith)
  access_lists (Ok Iidr) = listed [] (omega arith)
  access_lists (Ok (Fields b lo m)) = go (write_beyond (explicit d.config.spi_ownership) (size d) b v lo m)
    where
      go : (l : List ℕ) → Lists (listing_unless l (bank_candidates (explicit d.config.spi_ownership) (size d) b v lo m d.slots))
      go [] = listed (bank_candidates (explicit d.config.spi_ownership) (size d) b v lo m d.slots) (bank_few b lo m)
      go (i ∷ is) = turned_down 1 (i ∷ [])
  access_lists (Ok Reserved) = listed [] (omega arith)

  pub write_lists : Lists (reply (write offset w v places) d)
  unfolding reply
  write_lists = access_lists (write_access places (size d) d.config.distributor_size offset w)

  -- a list that is too short is refused 5
  short : ltb places (size d) ≡ true → (reply (write offset w v places) d).candidates ≡ []
  unfolding reply
  short e = rw e

  -- so the list has a place for each
  pub candidates_fit : length (reply (write offset w v places) d).candidates ≤ places
  candidates_fit = go (ltb places (size d)) refl
    where
      few : (r : Reply) → Lists r → length r.candidates ≤ size d
      few r (turned_down n c) = omega arith
      few r (listed cs h) = h

      go : (t : Bool) → ltb places (size d) ≡ t → length (reply (write offset w v places) d).candidates ≤ places
      go true e = let z = short e in rw z (omega arith)
      go false e = let h : size d ≤ places = ltb-false _ _ e in let k = few (reply (write offset w v places) d) write_lists in omega arith

-- after a write to which `lent` was lent: the places before the count hold the candidates, and those past it what they held
module _ (d : Distributor) (offset : ℕ) (w : AccessWidth) (v : ℕ) (lent : List ℕ) where
  abbrev given : Reply
  given = reply (write offset w v (length lent)) d

  pub first_places : (k : ℕ) → k < length given.candidates → get_elem? (outcome given lent).list k ≡ get_elem? given.candidates k
  first_places k h = laid-first given.candidates lent k h

  pub other_places : (k : ℕ) → length given.candidates ≤ k → get_elem? (outcome given lent).list k ≡ get_elem? lent k
  other_places k h = laid_past given.candidates lent k (candidates_fit d offset w v (length lent)) h

-- a call that lists none leaves the list as it was lent
pub list_untouched : (a : Answer) (lent : List ℕ) → (outcome (plain a) lent).list ≡ lent
list_untouched a lent = refl
