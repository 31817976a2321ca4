-- The making of a table: what a slice of n elements is whose every place is known.
use Rattle.std.specs.Prelude.{ℕ, ◌+◌, ◌<◌, ◌≡◌, List, length}
use Rattle.std.proofs.Common.{ap, sym, ◌∙◌, slice_index_or, arith}
use Rattle.std.proofs.lemmas.List.{ext_get_or}
use Rattle.theory.specs.Lists.{tabulate}
use Rattle.theory.specs.ListLaws.{length-tabulate, get_or-tabulate}

pub tabled : {A : Type 0} (f : ℕ → A) (n : ℕ) (xs : List A) → length xs ≡ n → ((i : ℕ) (d : A) → i < n → slice_index_or xs i d ≡ f i) → xs ≡ tabulate f 0 n
tabled f n xs e h =
    let d = f 0 in
    ext_get_or d xs (tabulate f 0 n) (e ∙ sym (length-tabulate f 0 n))
    (λ i l. let m : i < n = rw e at l in let z : 0 + i ≡ i = omega arith in h i d m ∙ sym (get_or-tabulate f 0 n i d m ∙ ap f z))
