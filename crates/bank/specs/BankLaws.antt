-- Laws of packed fields, and of what is answered beyond the table.
use Rattle.std.specs.Prelude.{ℕ, zero, suc, ◌+◌, ◌-◌, ◌^◌, ◌≤◌, ◌<◌, min, ◌≡◌, refl, Option, Some, None}
use Rattle.std.proofs.Common.{ap, zero-mul, arith}
use Rattle.std.proofs.Math.Logic.{by_cases}
use Rattle.std.proofs.Math.Decide.{dec_le}
use Rattle.bank.specs.declared.bank.Bank.{Bank}
use Rattle.bank.specs.Banks.{bits_of, packed, told_beyond}

-- packed fields rest on the fields that are packed
pub packed_same : (b : Bank) (t u : ℕ → ℕ) (lo m : ℕ) → ((i : ℕ) → lo ≤ i → i < lo + m → t i ≡ u i) → packed b t lo m ≡ packed b u lo m
packed_same b t u lo zero h = refl
packed_same b t u lo (suc m) h =
    let here : t lo ≡ u lo = h lo (omega arith) (omega arith) in
    let rest : packed b t (suc lo) m ≡ packed b u (suc lo) m = packed_same b t u (suc lo) m (λ i p q. h i (omega arith) (omega arith)) in
    rw (here, rest)

packed_none : (b : Bank) (t : ℕ → ℕ) (lo m : ℕ) → ((i : ℕ) → lo ≤ i → i < lo + m → t i ≡ 0) → packed b t lo m ≡ 0
packed_none b t lo zero h = refl
packed_none b t lo (suc m) h =
    let here : t lo ≡ 0 = h lo (omega arith) (omega arith) in
    let rest : packed b t (suc lo) m ≡ 0 = packed_none b t (suc lo) m (λ i p q. h i (omega arith) (omega arith)) in
    rw (here, rest, zero-mul (2 ^ bits_of b))

-- fields that are 0 from INTID e on add nothing
pub packed-below : (b : Bank) (t : ℕ → ℕ) (e lo m : ℕ) → ((i : ℕ) → e ≤ i → t i ≡ 0) → packed b t lo m ≡ packed b t lo (min (lo + m) e - lo)
packed-below b t e lo m h = by_cases (dec_le (lo + m) e)
    (λ p. let z : min (lo + m) e - lo ≡ m = omega arith in rw z)
    (λ p. cut lo m (min (lo + m) e - lo) (omega arith) (omega arith))
  where
    cut : (l k j : ℕ) → j ≤ k → e ≤ l + j → packed b t l k ≡ packed b t l j
    cut l k zero p q = packed_none b t l k (λ i x y. h i (omega arith))
    cut l zero (suc j) p q = absurd (omega arith)
    cut l (suc k) (suc j) p q = let r = cut (suc l) k j (omega arith) (omega arith) in rw r

-- and so does an access that covers only INTIDs under 32, if those show 0
pub packed_under : (b : Bank) (t : ℕ → ℕ) (lo m : ℕ) → ((i : ℕ) → i < 32 → t i ≡ 0) → lo + m ≤ 32 → packed b t lo m ≡ 0
packed_under b t lo m h l = packed_none b t lo m (λ i p q. h i (omega arith))

-- no two answers of the search beyond the table are told alike
pub told_beyond_lem : (a b : Option ℕ) → told_beyond a ≡ told_beyond b → a ≡ b
told_beyond_lem None None e = refl
told_beyond_lem None (Some j) e = cc
told_beyond_lem (Some i) None e = cc
told_beyond_lem (Some i) (Some j) e = let p : i ≡ j = cc in ap Some p
