-- Laws of the bank rule.
use Rattle.std.specs.Prelude.{ℕ, ◌+◌, ◌≤◌, ◌<◌, ◌≡◌, Bool, true, false, List}
use Rattle.std.proofs.Math.Bool.{and-false}
use Rattle.std.proofs.Common.{arith}
use Rattle.theory.specs.Bools.{both, refuted}
use Rattle.identifiers.specs.Answer.{within}
use Rattle.place.specs.Table.{in_table}
use Rattle.place.specs.TableLaws.{in_range}
use Rattle.bank.specs.declared.bank.Bank.{Bank}
use Rattle.slot.specs.declared.slot.Slot.{Slot}
use Rattle.slot.specs.BankRule.{covers, shown_at, bank_slot, candidate}

-- a candidate is in the table
pub candidate_in : (explicit : Bool) (n : ℕ) (b : Bank) (v lo m : ℕ) (slots : List Slot) (i : ℕ) → candidate explicit n b v lo m slots i ≡ true → (32 ≤ i) × (i < 32 + n)
candidate_in explicit n b v lo m slots i e =
    let covered : covers n lo m i ≡ true = (both (covers n lo m i) _ e).0 in
    in_range n i (both (within lo (lo + m) i) _ covered).1

-- what is no SPI of the table, INTIDs under 32 and from 1020 up among them, shows 0 and ignores what is written
module _ (explicit : Bool) (n : ℕ) (b : Bank) (i : ℕ) (out : in_table n i ≡ false) where
  pub outside_shows_0 : (slots : List Slot) → shown_at explicit n b slots i ≡ 0
  outside_shows_0 slots = rw out

  pub outside_ignores : (v lo m : ℕ) (s : Slot) → bank_slot explicit n b v lo m i s ≡ s
  outside_ignores v lo m s = rw (out, and-false (within lo (lo + m) i))

pub no_table_there : (n i : ℕ) → i < 32 → in_table n i ≡ false
no_table_there n i h = refuted (in_table n i) (λ e. let r = in_range n i e in omega arith)
