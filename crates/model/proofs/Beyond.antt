-- What is answered where an access may be refused beyond the table.
use Rattle.std.specs.Prelude.{Option, Some, None}
use Prim.Native.Nat.{ℕ}
use mathlib.Core.Path.{◌≡◌, refl}
use mathlib.Core.Bool.{Bool, false, ◌&&◌}
use mathlib.Core.List.{List, [], ◌∷◌}
use lib.ListN.{length}
use Rattle.theory.specs.Lists.{passing}
use Rattle.theory.specs.ListLaws.{passing_never}
use Rattle.identifiers.specs.Answer.{Answer, done, unless}
use Rattle.bank.specs.Banks.{first_of, told_beyond, lists_unless}
use Rattle.model.specs.Calls.{Reply, listing_unless}

-- an answer that waits on the lowest INTID beyond the table
pub unless_beyond : (x : Option ℕ) (l : List ℕ) (a : Answer) → told_beyond x ≡ first_of l → unless (told_beyond x) a ≡ unless l a
unless_beyond None [] a e = refl
unless_beyond None (i ∷ is) a e = cc
unless_beyond (Some k) [] a e = cc
unless_beyond (Some k) (i ∷ is) a e = let z : k ≡ i = cc in rw z

-- the same of a write and its candidates: where it is refused, the loop was told to list nothing
pub listing_beyond : (x : Option ℕ) (l : List ℕ) (t : ℕ → Bool) (lo m : ℕ) → told_beyond x ≡ first_of l
    → ◌≡◌ {A = Reply} (record { answer = unless (told_beyond x) (done (length (passing (λ i. lists_unless x && t i) lo m) ∷ [])); candidates = passing (λ i. lists_unless x && t i) lo m }) (listing_unless l (passing t lo m))
listing_beyond None [] t lo m e = refl
listing_beyond None (i ∷ is) t lo m e = cc
listing_beyond (Some k) [] t lo m e = cc
listing_beyond (Some k) (i ∷ is) t lo m e =
    let z : k ≡ i = cc in
    let none : passing (λ j. false) lo m ≡ [] = passing_never (λ j. false) lo m (λ j. refl) in
    rw (z, none)
