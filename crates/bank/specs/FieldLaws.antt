-- What a bank shows fits its fields.
use Rattle.std.specs.Prelude.{IfSome, ℕ, zero, suc, ◌+◌, ◌-◌, ◌*◌, ◌/◌, ◌%◌, ◌^◌, ◌≤◌, ◌<◌, ◌≡◌, Bool, true, false, cond, Some, None, Option}
use Rattle.std.proofs.Common.{sym, ap, ◌∙◌, mul_comm, mul-le-mul_right, mul-suc, suc-mul, mul-zero, pow-suc, div-one, arith, pow-add}
use Rattle.std.proofs.Math.Logic.{by_cases}
use Rattle.std.proofs.Math.Decide.{dec_lt}
use Rattle.std.proofs.Math.Nat.{pow-zero, div-div-eq-div-mul}
use Rattle.std.proofs.Math.Pow as pow
use Rattle.theory.specs.Bools.{bit_fits}
use Rattle.attributes.specs.AffinityLaws.{Bytes}
use Rattle.attributes.specs.declared.attributes.TriggerMode.{TriggerMode}
use Rattle.interrupt.specs.Records.{route_in}
use Rattle.interrupt.specs.declared.interrupt.InterruptRecord.{InterruptRecord}
use Rattle.bank.specs.declared.bank.Bank.{Bank}
use Rattle.bank.specs.declared.bank.Field.{Field}
use Rattle.bank.specs.declared.bank.Field.TheVariants.{Group, Priority, Configuration}
use Rattle.bank.specs.declared.bank.Bank.TheVariants.{Set, Clear, Replace}
use Rattle.bank.specs.Banks.{bits_of, field, route_bits, flag_in, edge_field, shown, packed}
use Rattle.attributes.specs.declared.attributes.GicAffinity.{GicAffinity}

pub pow-pow : (a m : ℕ) → (2 ^ a) ^ m ≡ 2 ^ (a * m)
pow-pow a zero = rw (mul-zero a, pow-zero (2 ^ a))
pow-pow a (suc m) = rw (pow-suc (2 ^ a) m, pow-pow a m, mul-suc a m, pow-add 2 (a * m) a)

pub digit_fits : (p q t b : ℕ) → p < q → t < b → p * b + t < q * b
digit_fits p q t b h k = let e : suc p * b ≤ q * b = mul-le-mul_right b h in let f : suc p * b ≡ p * b + b = suc-mul p b in omega arith

pub packed_fits : (b : Bank) (t : ℕ → ℕ) → ((i : ℕ) → t i < 2 ^ bits_of b) → (lo m : ℕ) → packed b t lo m < (2 ^ bits_of b) ^ m
packed_fits b t h lo zero = rw (pow-zero (2 ^ bits_of b)) (omega arith)
packed_fits b t h lo (suc m) =
    rw (pow-suc (2 ^ bits_of b) m) (digit_fits (packed b t (suc lo) m) ((2 ^ bits_of b) ^ m) (t lo) (2 ^ bits_of b) (packed_fits b t h (suc lo) m) (h lo))

-- the field of an INTID is what was packed for it
pub packed-field : (b : Bank) (t : ℕ → ℕ) → ((i : ℕ) → t i < 2 ^ bits_of b) → (lo m i : ℕ) → lo ≤ i → i < lo + m → field b (packed b t lo m) lo i ≡ t i
packed-field b t h lo zero i low high = absurd (omega arith)
packed-field b t h lo (suc m) i low high =
    by_cases (dec_lt lo i)
    (λ p.
    let x = bits_of b in
    let rest = packed b t (suc lo) m in
    let one : i - lo ≡ suc (i - suc lo) = omega arith in
    let first : (rest * 2 ^ x + t lo) / (2 ^ x) ^ (i - lo) ≡ (rest * 2 ^ x + t lo) / 2 ^ x / (2 ^ x) ^ (i - suc lo) =
    rw (one, pow-suc (2 ^ x) (i - suc lo), mul_comm ((2 ^ x) ^ (i - suc lo)) (2 ^ x)) (sym (div-div-eq-div-mul (rest * 2 ^ x + t lo) (2 ^ x) ((2 ^ x) ^ (i - suc lo)))) in
    ap (λ (q : ℕ). q % 2 ^ x) first ∙ ap (λ (q : ℕ). q / (2 ^ x) ^ (i - suc lo) % 2 ^ x) (pow.high rest x (h lo)) ∙ packed-field b t h (suc lo) m i (omega arith) (omega arith))
    (λ p.
    let x = bits_of b in
    let z : i ≡ lo = omega arith in
    let none : i - lo ≡ 0 = omega arith in
    rw (none, pow-zero (2 ^ x), div-one (packed b t (suc lo) m * 2 ^ x + t lo), z) (pow.low (packed b t (suc lo) m) x (h lo)))

pub edge_fits : (t : TriggerMode) → edge_field t < 4
edge_fits TriggerMode.Edge = omega arith
edge_fits TriggerMode.Level = omega arith

route_fits : (r : InterruptRecord) → IfSome r.route Bytes → shown (Replace Field.Route) r < 2 ^ 64
unfolding route_in
route_fits r h = go r.route h
  where
    go : (o : Option GicAffinity) → IfSome o Bytes → route_bits o < 2 ^ 64
    go (Some a) b = omega arith
    go None b = omega arith

pub shown_fits : (b : Bank) (r : InterruptRecord) → r.priority.0 < 256 → IfSome r.route Bytes → shown b r < 2 ^ bits_of b
shown_fits (Set f) r p h = bit_fits (flag_in f r)
shown_fits (Clear f) r p h = bit_fits (flag_in f r)
shown_fits (Replace Group) r p h = omega arith
shown_fits (Replace Priority) r p h = p
shown_fits (Replace Configuration) r p h = edge_fits r.trigger
shown_fits (Replace Field.Route) r p h = route_fits r h
