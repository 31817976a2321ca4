-- The loop that looks for the first INTID beyond the table over which a write is refused.
use Prim.Native.Nat.{ℕ, suc, ◌+◌, ◌-◌, ◌/◌, ◌%◌, ◌^◌, ◌<◌}
use mathlib.Core.Path.{◌≡◌, refl, sym, ap, ◌∙◌}
use mathlib.Core.Bool.{Bool, true, false, not, ◌&&◌, ◌||◌, and-false}
use mathlib.Core.List.{[], ◌∷◌}
use native.Mathlib.Numerals.{add-one}
use native.Mathlib.Omega.{arith}
use borrow.Author.Tests.{leb-true, lt-leb}
use lib.Dec.{leb}
use Rattle.theory.specs.Lists.{passing}
use Rattle.theory.specs.ListLaws.{passing_more, passing_split, passing_same, passing_agree, passing_never}
use Rattle.bank.specs.declared.bank.Field.{Field}
use Rattle.bank.specs.declared.bank.Field.TheVariants.{Group, Priority, Configuration}
use Rattle.bank.specs.declared.bank.Bank.TheVariants.{Set, Clear, Replace}
use Rattle.bank.specs.declared.bank.Bank.{Bank}
use Rattle.place.specs.Table.{beyond_table}
use Rattle.bank.specs.Banks.{bits_of, read_refuses, write_refuses, field, refused_over, first_of}
use Rattle.bank.proofs.Digits.{field_at}

pub refuses : (b : Bank) (value lo j v f n : ℕ) (e x y : Bool)
    → v ≡ value / (2 ^ bits_of b) ^ j → f ≡ v % 2 ^ bits_of b → x ≡ write_refuses b f → y ≡ beyond_table e n (lo + j)
    → (x && y) ≡ refused_over e n b value lo (lo + j)
refuses b value lo j v f n e x y hv hf hx hy =
    let q : f ≡ field b value lo (lo + j) = hf ∙ field_at b value v lo j hv in
    rw (hx, hy, q)

module _ (t : ℕ → Bool) (lo j : ℕ) (none : passing t lo j ≡ []) where
  pub none_more : t (lo + j) ≡ false → passing t lo (j + 1) ≡ []
  none_more e = rw (add-one j) (passing_more t lo j ∙ (rw (none, e)))

  pub first_found : (m : ℕ) → j < m → t (lo + j) ≡ true → first_of (passing t lo m) ≡ (lo + j) ∷ []
  first_found m h e =
      let z : m ≡ j + suc (m - suc j) = omega arith in
      let p : passing t lo m ≡ (lo + j) ∷ passing t (suc (lo + j)) (m - suc j) = ap (passing t lo) z ∙ passing_split t lo j (suc (m - suc j)) ∙ (rw (none, e)) in
      ap first_of p

-- a bank whose reads are refused beyond the table refuses every write there
pub reads_as : (b : Bank) (e : Bool) (n lo m : ℕ) → read_refuses b ≡ true
    → first_of (passing (refused_over e n b 0 lo) lo m) ≡ first_of (passing (λ i. read_refuses b && beyond_table e n i) lo m)
reads_as b e n lo m h = ap first_of (passing_same (refused_over e n b 0 lo) (λ i. read_refuses b && beyond_table e n i) lo m (λ i. ap (λ (x : Bool). x && beyond_table e n i) (go b (field b 0 lo i) h ∙ sym h)))
  where
    go : (b : Bank) (f : ℕ) → read_refuses b ≡ true → write_refuses b f ≡ true
    go (Set x) f q = cc
    go (Clear x) f q = cc
    go (Replace Group) f q = cc
    go (Replace Priority) f q = refl
    go (Replace Configuration) f q = refl
    go (Replace Field.Route) f q = cc

pub reads_free : (b : Bank) (e : Bool) (n lo m : ℕ) → read_refuses b ≡ false → [] ≡ first_of (passing (λ i. read_refuses b && beyond_table e n i) lo m)
reads_free b e n lo m h = sym (ap first_of (passing_never (λ i. read_refuses b && beyond_table e n i) lo m (λ i. rw h)))

-- nothing is refused with all guest-owned, or over INTIDs of the table
pub none_refused : (e : Bool) (n : ℕ) (b : Bank) (v lo m : ℕ) → (not e || leb (lo + m) (32 + n)) ≡ true → [] ≡ first_of (passing (refused_over e n b v lo) lo m)
none_refused e n b v lo m h =
    sym (ap first_of (passing_agree (refused_over e n b v lo) (λ i. false) lo m (λ i p q. not_there i q e h) ∙ passing_never (λ i. false) lo m (λ i. refl)))
  where
    not_there : (i : ℕ) → i < lo + m → (e : Bool) → (not e || leb (lo + m) (32 + n)) ≡ true → refused_over e n b v lo i ≡ false
    not_there i q true k =
        let l = leb-true (lo + m) (32 + n) k in
        let under : leb (32 + n) i ≡ false = lt-leb (32 + n) i (omega arith) in
        rw under (and-false (write_refuses b (field b v lo i)))
    not_there i q false k = and-false (write_refuses b (field b v lo i))
