-- Examples of the order of calls: what calls name, that calls may change places, and that it matters which may.
use Rattle.std.specs.Prelude.{ℕ, ◌+◌, ◌-◌, ◌<◌, ◌≡◌, refl, Bool, true, false, ◌&&◌, List, [], ◌∷◌, reverse}
use Rattle.std.proofs.Common.{sym, ap, ◌∙◌, true≢false, arith, eqb-true}
use Rattle.std.proofs.lemmas.Bool.{false≢true}
use Rattle.std.proofs.Math.Option.{some}
use Rattle.std.proofs.Math.ListN.{get_elem?}
use Rattle.theory.specs.Bools.{both}
use Rattle.theory.specs.Lists.{tabulate, passing}
use Rattle.theory.specs.ListLaws.{everywhere}
use Rattle.theory.specs.Elements.{element_of_tabulate}
use Rattle.theory.specs.Runs.{run, answers, Share, Matching}
use Rattle.theory.specs.Matchings.{swap, reversal}
use Rattle.identifiers.specs.Answer.{done, refused, within}
use Rattle.interrupt.specs.Records.{fresh, with_life, route_to}
use Rattle.operation.specs.declared.operation.Operation.TheVariants.{SetEnabled}
use Rattle.place.specs.Table.{in_table}
use Rattle.place.specs.TableLaws.{in_range}
use Rattle.registers.specs.declared.register.AccessWidth.TheVariants.{Byte, Dword, Qword}
use Rattle.decoding.specs.Decoding.{decode}
use Rattle.slot.specs.BankRule.{covers}
use Rattle.changes.specs.declared.change.Change.{Change}
use Rattle.changes.specs.declared.change.Change.TheVariants.{Release, Operate}
use Rattle.spi.specs.declared.question.Question.TheVariants.{Enabled}
use Rattle.model.specs.Calls.{Distributor, Call, create, read, write, is_switched_on, rollback, change, ask, step, reply, plain, size}
use Rattle.order.specs.Names.{the_switch, spi, names}
use Rattle.order.specs.Order.{named}
use Rattle.order.proofs.Order.{ordered}
use Rattle.examples.specs.Board.{K, writes}

-- ---- what calls on K name

-- the SPIs that a call names
abbrev spis : Call → List ℕ
spis k = passing (λ i. named K k (spi i)) 0 1024

-- the SPIs, and whether it names the switch
abbrev names_of : Call → List ℕ × Bool
names_of k = (spis k, named K k the_switch)

-- m INTIDs from lo on
abbrev from : ℕ → ℕ → List ℕ
from lo m = tabulate (λ i. i) lo m

pub record NamedOnK : Type 0 where
  pub flag_read : (spis (read 0x104 Dword) ≡ from 32 32) × (spis (read 0x108 Dword) ≡ from 64 8)
  -- refused 1 (72), and names what it has written
  pub flag_write : spis (writes 0x108 0x1f9) ≡ 64 ∷ from 67 5
  pub priority : (spis (read 0x424 Dword) ≡ from 36 4) × (spis (writes 0x424 0) ≡ from 36 4)
  pub configuration : spis (writes 0xc0c 0) ≡ from 48 16
  pub route : (spis (read 0x6108 Qword) ≡ from 33 1) × (spis (write 0x6110 Qword 0 40) ≡ from 34 1)
  pub group_write : spis (writes 0x84 0xffffffff) ≡ []
  pub host : (spis (change Release 34) ≡ from 34 1) × (spis (change Release 72) ≡ [])
  pub refused_3_4_5 : (spis (read 0x106 Dword) ≡ []) × (spis (read 0x104 Byte) ≡ []) × (spis (write 0x104 Dword 2 39) ≡ [])
  pub control : (spis (writes 0 2) ≡ from 32 40) × (spis (writes 0 1) ≡ []) × (spis (read 0 Dword) ≡ [])
  pub switch : (named K (writes 0 2) the_switch ≡ true) × (named K (writes 0 1) the_switch ≡ true) × (named K (read 0 Dword) the_switch ≡ true) × (named K is_switched_on the_switch ≡ true) × (named K (rollback true) the_switch ≡ true)
  pub no_switch : (named K (read 0x104 Dword) the_switch ≡ false) × (named K (writes 0x104 2) the_switch ≡ false) × (named K (read 0 Byte) the_switch ≡ false)
  -- the rollback call and the question whether the switch is on name no SPI
  pub switch_alone : (spis is_switched_on ≡ []) × (spis (rollback true) ≡ [])
  -- registers with no INTID, an offset with no register, and the creation of another Distributor
  pub rest_reads : (names_of (read 0xffe8 Dword) ≡ ([], false)) × (names_of (read 0x4 Dword) ≡ ([], false)) × (names_of (read 0x8 Dword) ≡ ([], false)) × (names_of (read 0x800 Dword) ≡ ([], false))
  pub rest_writes : (names_of (writes 0xffe8 2) ≡ ([], false)) × (names_of (writes 0x4 2) ≡ ([], false)) × (names_of (writes 0x8 2) ≡ ([], false)) × (names_of (writes 0x800 2) ≡ ([], false))
  pub rest_create : names_of (create K.config 988) ≡ ([], false)

pub named_on_k : NamedOnK
unfolding names step decode
named_on_k =
    record {
      flag_read = (refl, refl);
      flag_write = refl;
      priority = (refl, refl);
      configuration = refl;
      route = (refl, refl);
      group_write = refl;
      host = (refl, refl);
      refused_3_4_5 = (refl, refl, refl);
      control = (refl, refl, refl);
      switch = (refl, refl, refl, refl, refl);
      no_switch = (refl, refl, refl);
      switch_alone = (refl, refl);
      rest_reads = (refl, refl, refl, refl);
      rest_writes = (refl, refl, refl, refl);
      rest_create = refl;
    }

-- ---- calls that may change places

-- a host's change of the SPI at the place p, and one of each SPI from 32 on
abbrev nth : (ℕ → Change) → ℕ → Call
nth h p = change (h p) (32 + p)

abbrev each : (ℕ → Change) → ℕ → List Call
each h n = tabulate (nth h) 0 n

each-apart : (d : Distributor) (h : ℕ → Change) (i j : ℕ) → i < j → ¬ Share (named d) (nth h i) (nth h j)
unfolding names
each-apart d h i j l (the_switch, p, q) = false≢true p
each-apart d h i j l (spi a, p, q) =
    let u = eqb-true a (32 + i) (both (in_table (size d) a) _ p).1 in
    let v = eqb-true a (32 + j) (both (in_table (size d) a) _ q).1 in
    omega arith

-- changes of different SPIs may be done the last first: the whole list backward
pub backward : (d : Distributor) (h : ℕ → Change) (n : ℕ) → Matching (named d) (each h n) (reverse (each h n))
backward d h n =
    reversal (named d) (each h n)
    (λ i j k l p q below.
    let u : nth h i ≡ k = ap (nth h) (omega arith) ∙ element_of_tabulate (nth h) 0 n i k p in
    let v : nth h j ≡ l = ap (nth h) (omega arith) ∙ element_of_tabulate (nth h) 0 n j l q in
    rw (← u, ← v) (each-apart d h i j below))

-- so both orders end in one state
pub backward_same : (d : Distributor) (h : ℕ → Change) (n : ℕ) → run step (each h n) d ≡ run step (reverse (each h n)) d
backward_same d h n = ((ordered d).reordering (each h n) (reverse (each h n)) (backward d h n)).0

-- an SPI that the two writes below would share
abbrev both_name : ℕ → Bool
both_name i = named K (writes 0x104 2) (spi i) && named K (writes 0x104 4) (spi i)

bits-apart : ¬ Share (named K) (writes 0x104 2) (writes 0x104 4)
unfolding names step decode
bits-apart (the_switch, p, q) = false≢true p
bits-apart (spi i, p, q) =
    let (low, high) = in_range 32 i (both (within 32 64 i) _ (both (covers 40 32 32 i) _ p).0).0 in
    let none : both_name (32 + (i - 32)) ≡ false = everywhere (λ k. both_name (32 + k)) (λ k. false) 32 refl (i - 32) (omega arith) in
    let z : 32 + (i - 32) ≡ i = omega arith in
    true≢false (sym (both_true p q) ∙ ap both_name (sym z) ∙ none)
  where
    both_true : {a b : Bool} → a ≡ true → b ≡ true → (a && b) ≡ true
    both_true p q = rw (p, q)

-- two writes to one register of flags, each with a bit of its own, may be swapped: 33 and 34 enabled, then any calls
pub swapped : (calls : List Call) → Matching (named K) (writes 0x104 2 ∷ writes 0x104 4 ∷ calls) (writes 0x104 4 ∷ writes 0x104 2 ∷ calls)
swapped calls = swap (named K) (writes 0x104 2) (writes 0x104 4) calls bits-apart

-- ---- calls that may not

abbrev enable : Call
enable = change (Operate (SetEnabled true)) 33

abbrev question : Call
question = ask Enabled 33

-- two calls on one SPI: their order changes an answer, and they have no matching
pub order_matters : (answers step reply (enable ∷ question ∷ []) K ≡ plain (done []) ∷ plain (done (1 ∷ [])) ∷ [])
    × (answers step reply (question ∷ enable ∷ []) K ≡ plain (done (0 ∷ [])) ∷ plain (done []) ∷ [])
unfolding step reply fresh with_life
order_matters = (refl, refl)

pub unmatched : ¬ Matching (named K) (enable ∷ question ∷ []) (question ∷ enable ∷ [])
unfolding names step
unmatched m =
    let first : m.to 0 < m.to 1 = m.kept 0 1 enable question refl refl (spi 33, refl, refl) (omega arith) in
    let inside = m.to_in 1 (omega arith) in
    let z : m.to 0 ≡ 0 = omega arith in
    let same : get_elem? (question ∷ enable ∷ []) 0 ≡ some enable = ap (get_elem? (question ∷ enable ∷ [])) (sym z) ∙ m.same 0 (omega arith) in
    let no : ◌≡◌ {A = ℕ} 0 1 = cc in
    omega arith

-- a write that is refused 1 counts: before it 64 and 65 read as disabled, after it as enabled
pub refused_matters : (answers step reply (read 0x108 Dword ∷ writes 0x108 0x1ff ∷ read 0x108 Dword ∷ []) K
    ≡ plain (done (0 ∷ [])) ∷ plain (refused 1 (72 ∷ [])) ∷ plain (done (3 ∷ [])) ∷ [])
unfolding step reply decode fresh with_life route_to
refused_matters = refl
