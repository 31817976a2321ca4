-- What CTLR, TYPER, IIDR and the identification registers read as, field by field, with Arm's names of the fields.
use Rattle.std.specs.Prelude.{ℕ, zero, suc, ◌+◌, ◌-◌, ◌*◌, ◌/◌, ◌%◌, ◌^◌, ◌≤◌, ◌<◌, max, ◌≡◌, refl, Bool, true, false, cond, List, [], ◌∷◌, ltb, eqb, length, get_or}
use Rattle.std.proofs.Math.Logic.{by_cases}
use Rattle.std.proofs.Common.{pow-suc, le_of_suc-le-suc, arith, pow_mono, ltb-true, ne_eqb}
use Rattle.std.proofs.Math.Nat.{div-eq_of_lt}
use Rattle.std.proofs.Math.Decide.{dec_le}
use Rattle.std.specs.Int.Count.{count_leading_zeros}
use Rattle.std.proofs.lemmas.Nat.{leading_length}
use mir.Val.{bool_byte}
use Rattle.std.proofs.Math.Pow.{are_bytes}
use Rattle.theory.specs.Bools.{both, bit_fits}
use Rattle.theory.specs.Lists.{tabulate}
use Rattle.theory.specs.ListLaws.{everywhere}
use Rattle.place.specs.Table.{in_table}
use Rattle.place.specs.TableLaws.{has, in_range}
use Rattle.controller.specs.declared.controller.ControllerConfig.{ControllerConfig}
use Rattle.controller.specs.Identity.{component_id, iidr_value, switch_bit, ctlr_value, largest_int_id, id_bits, typer_value}

-- bits hi..lo of a value
abbrev pub bits : ℕ → ℕ → ℕ → ℕ
bits hi lo v = v / 2 ^ lo % 2 ^ (suc hi - lo)

-- ---- CTLR

-- bit 1 is the switch, bit 4 (ARE_NS) is 1, and every other bit is 0
pub ctlr_bits : (on : Bool) (k : ℕ) → ctlr_value on / 2 ^ k % 2 ≡ cond (eqb k 1) (bool_byte on) (bool_byte (eqb k 4))
ctlr_bits on k = by_cases (dec_le 5 k) (above on) (λ h. below on (omega arith))
  where
    below : (b : Bool) → k < 5 → ctlr_value b / 2 ^ k % 2 ≡ cond (eqb k 1) (bool_byte b) (bool_byte (eqb k 4))
    below true = everywhere (λ j. ctlr_value true / 2 ^ j % 2) (λ j. cond (eqb j 1) 1 (bool_byte (eqb j 4))) 5 refl k
    below false = everywhere (λ j. ctlr_value false / 2 ^ j % 2) (λ j. cond (eqb j 1) 0 (bool_byte (eqb j 4))) 5 refl k

    above : (b : Bool) → 5 ≤ k → ctlr_value b / 2 ^ k % 2 ≡ cond (eqb k 1) (bool_byte b) (bool_byte (eqb k 4))
    above b h =
        let small : ctlr_value b < 2 ^ k = let f = bit_fits b in let p : 2 ^ 5 ≤ 2 ^ k = pow_mono h in omega arith in
        rw (div-eq_of_lt small, ne_eqb k 1 (omega arith), ne_eqb k 4 (omega arith))

-- after a write of v, bit 1 of v is read back, and no other bit of v
pub ctlr_written : (v : ℕ) → ctlr_value (switch_bit v) ≡ 0x10 + 2 * (v / 2 % 2)
ctlr_written v = go (v / 2 % 2) (omega arith)
  where
    go : (b : ℕ) → b < 2 → ctlr_value (eqb b 1) ≡ 0x10 + 2 * b
    go zero h = refl
    go (suc zero) h = refl
    go (suc (suc b)) h = absurd (omega arith)

-- ---- TYPER

-- k binary digits hold v, and no fewer do
pub record Digits (v k : ℕ) : Type 0 where
  pub enough : v < 2 ^ k
  pub fewest : (j : ℕ) → v < 2 ^ j → k ≤ j

pub needed : (v : ℕ) → v < 2 ^ 32 → Digits v (32 - count_leading_zeros 32 v)
needed v h =
    let (m, sum, holds, tight) = leading_length 32 v h in
    let e : 32 - count_leading_zeros 32 v ≡ m = omega arith in
    rw e (record {
      enough = holds;
      fewest = λ j below.
          by_cases (dec_le m j) (λ p. p)
          (λ p. let q : 2 ^ suc j ≤ 2 ^ m = pow_mono (omega arith) in let r : 2 ^ suc j ≡ 2 ^ j * 2 = pow-suc 2 j in omega arith);
    })

-- the bits of an INTID are that number, and at least 16
pub id_bits_needed : (c : ControllerConfig) (n k : ℕ) → largest_int_id c n < 2 ^ 32 → Digits (largest_int_id c n) k → id_bits c n ≡ max k 16
id_bits_needed c n k h d =
    let e = needed (largest_int_id c n) h in
    let p : 32 - count_leading_zeros 32 (largest_int_id c n) ≡ k = let a = e.fewest k d.enough in let b = d.fewest _ e.enough in omega arith in
    rw p

-- without an ITS the largest INTID is the last SPI's
pub largest_spi : (c : ControllerConfig) (n : ℕ) → c.its ≡ false → ((i : ℕ) → in_table n i ≡ true → i ≤ largest_int_id c n) × (0 < n → in_table n (largest_int_id c n) ≡ true)
largest_spi c n e = rw e ((λ i t. let r = in_range n i t in omega arith), (λ h. (has n (31 + n)).1 (omega arith)))

-- with one it is the LPI limit, whatever the table
pub largest_lpi : (c : ControllerConfig) (n : ℕ) → c.its ≡ true → largest_int_id c n ≡ c.lpi_limit
largest_lpi c n e = rw e

pub id_bits_range : (c : ControllerConfig) (n : ℕ) → (16 ≤ id_bits c n) × (id_bits c n ≤ 32)
id_bits_range c n = omega arith

-- SPIs alone need no more than the 16
pub id_bits_spis : (c : ControllerConfig) (n : ℕ) → c.its ≡ false → n ≤ 988 → id_bits c n ≡ 16
id_bits_spis c n e h = rw e (let d = needed (31 + n) (omega arith) in let few = d.fewest 16 (omega arith) in omega arith)

-- TYPER's fields. ITLinesNumber says for how many INTIDs there are registers: 32 times one more, the fewest that hold 32 + n. LPIS
-- is bit 17, IDbits one less than the bits of an INTID, A3V bit 24, No1N bit 25, RSS bit 26. All other bits are 0
pub record Typer (c : ControllerConfig) (n v : ℕ) : Type 0 where
  pub lines_enough : 32 + n ≤ 32 * (bits 4 0 v + 1)
  pub lines_fewest : (l : ℕ) → 32 + n ≤ 32 * (l + 1) → bits 4 0 v ≤ l
  pub clear_5 : bits 16 5 v ≡ 0
  pub lpis : bits 17 17 v ≡ bool_byte c.exposes_guest_lpis
  pub clear_18 : bits 18 18 v ≡ 0
  pub id_bits_lem : bits 23 19 v + 1 ≡ id_bits c n
  pub a3v : bits 24 24 v ≡ bool_byte c.affinity_level_3
  pub no1n : bits 25 25 v ≡ 0
  pub rss : bits 26 26 v ≡ bool_byte c.range_selector
  pub clear_27 : v < 2 ^ 27

pub typer_fields : (c : ControllerConfig) (n : ℕ) → n ≤ 988 → Typer c n (typer_value c n)
typer_fields c n h =
    let p = bit_fits c.exposes_guest_lpis in
    let q = bit_fits c.affinity_level_3 in
    let r = bit_fits c.range_selector in
    let (low, high) = id_bits_range c n in
    record {
      lines_enough = omega arith;
      lines_fewest = λ l e. omega arith;
      clear_5 = omega arith;
      lpis = omega arith;
      clear_18 = omega arith;
      id_bits_lem = omega arith;
      a3v = omega arith;
      no1n = omega arith;
      rss = omega arith;
      clear_27 = omega arith;
    }

-- ---- IIDR and the identification registers

-- what the identification register at an offset reads
abbrev pub id_at : ℕ → ℕ
id_at offset = get_or component_id ((offset - 0xffd0) / 4) 0

-- PIDR0 to PIDR3 lie from 0xffe0 on, after PIDR4 to PIDR7; CIDR0 to CIDR3 follow them
abbrev pub pidr : ℕ → ℕ
pidr k = id_at (cond (ltb k 4) (0xffe0 + 4 * k) (0xffd0 + 4 * (k - 4)))

abbrev pub cidr : ℕ → ℕ
cidr k = id_at (0xfff0 + 4 * k)

pub pidr_bytes : tabulate pidr 0 8 ≡ 0x92 ∷ 0xb4 ∷ 0x3b ∷ 0x00 ∷ 0x44 ∷ 0x00 ∷ 0x00 ∷ 0x00 ∷ []
pidr_bytes = refl

pub cidr_bytes : tabulate cidr 0 4 ≡ 0x0d ∷ 0xf0 ∷ 0x05 ∷ 0xb1 ∷ []
cidr_bytes = refl

-- PIDR2: ArchRev is 3 for GICv3, and the designer is given by a JEDEC code
pub gic_v3 : (bits 7 4 (pidr 2) ≡ 3) × (bits 3 3 (pidr 2) ≡ 1)
gic_v3 = (refl, refl)

-- IIDR.Implementer is Arm's code 0x43b, and the other fields are 0
pub iidr_arm : (bits 11 0 iidr_value ≡ 0x43b) × (iidr_value < 2 ^ 12)
iidr_arm = (refl, omega arith)

-- the same designer as in the identification registers: Arm's code is the continuation 4 of PIDR4 and the 0x3b of PIDR2 and PIDR1
pub same_designer : (bits 11 8 iidr_value ≡ bits 3 0 (pidr 4)) × (bits 6 4 iidr_value ≡ bits 2 0 (pidr 2)) × (bits 3 0 iidr_value ≡ bits 7 4 (pidr 1))
same_designer = (refl, refl, refl)

pub id_fits : (k : ℕ) → get_or component_id k 0 < 256
id_fits = go component_id refl
  where
    go : (l : List ℕ) → are_bytes l ≡ true → (k : ℕ) → get_or l k 0 < 256
    go [] e k = omega arith
    go (x ∷ l) e zero = ltb-true x 256 (both (ltb x 256) _ e).0
    go (x ∷ l) e (suc k) = go l (both (ltb x 256) _ e).1 k

-- there are twelve
pub past_end : (k : ℕ) → 12 ≤ k → 0 ≡ get_or component_id k 0
past_end k h = go component_id k h
  where
    go : (l : List ℕ) (j : ℕ) → length l ≤ j → 0 ≡ get_or l j 0
    go [] j h = refl
    go (x ∷ l) zero h = absurd (omega arith)
    go (x ∷ l) (suc j) h = go l j (le_of_suc-le-suc h)
