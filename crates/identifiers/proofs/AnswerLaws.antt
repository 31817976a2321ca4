-- An answer in the paper's terms says all that the code's answer says: no two answers are told alike, so that a promise about
-- what is told leaves no second answer.
use Rattle.std.specs.Prelude.{ℕ, ◌≡◌, refl, cond, eqb, List, get_or, Result, Ok, Err}
use Rattle.std.proofs.Common.{sym, ap, ◌∙◌}
use Rattle.identifiers.specs.declared.error.Refusal.{Refusal}
use Rattle.identifiers.specs.declared.error.Refusal.TheVariants.{InvalidIntId, ResourceConflict, InvalidAccess, InvalidWidth, ShortList}
use Rattle.identifiers.specs.declared.types.IntId.{IntId}
use Rattle.identifiers.specs.Answer.{Answer, done, refused, kind_of, raw_of, told, told_refusal, told_sgi, told_ppi, told_spi, told_lpi, told_int_id}
use Rattle.identifiers.specs.declared.types.SgiId.{SgiId}
use Rattle.identifiers.specs.declared.types.PpiId.{PpiId}
use Rattle.identifiers.specs.declared.types.SpiId.{SpiId}
use Rattle.identifiers.specs.declared.types.LpiId.{LpiId}

-- the refusal that is told by a number and what it carries
refusal_of : Answer → Refusal
refusal_of (done vs) = ShortList
refusal_of (refused n vs) =
    cond (eqb n 1) (InvalidIntId (get_or vs 0 0))
    (cond (eqb n 2) ResourceConflict (cond (eqb n 3) InvalidAccess (cond (eqb n 4) InvalidWidth ShortList)))

refusal_of-told : (f : Refusal) → refusal_of (told_refusal f) ≡ f
unfolding refusal_of
refusal_of-told (InvalidIntId raw) = refl
refusal_of-told ResourceConflict = refl
refusal_of-told InvalidAccess = refl
refusal_of-told InvalidWidth = refl
refusal_of-told ShortList = refl

pub told-refusal : (f g : Refusal) → told_refusal f ≡ told_refusal g → f ≡ g
told-refusal f g e = sym (refusal_of-told f) ∙ ap refusal_of e ∙ refusal_of-told g

-- answers are told apart where what is handed out is
pub told_once : {A : Type 0} (values : A → List ℕ) → ((x y : A) → values x ≡ values y → x ≡ y) → (a b : Result A Refusal) → told values a ≡ told values b → a ≡ b
told_once values same (Ok x) (Ok y) e = let p : values x ≡ values y = cc in ap Ok (same x y p)
told_once values same (Ok x) (Err g) e = cc
told_once values same (Err f) (Ok y) e = cc
told_once values same (Err f) (Err g) e = ap Err (told-refusal f g e)

pub told-sgi : (a b : Result SgiId Refusal) → told_sgi a ≡ told_sgi b → a ≡ b
told-sgi = told_once _ (λ i j e. let p : i.0 ≡ j.0 = cc in ap (λ (n : ℕ). record { 0 = n }) p)

pub told_ppi_lem : (a b : Result PpiId Refusal) → told_ppi a ≡ told_ppi b → a ≡ b
told_ppi_lem = told_once _ (λ i j e. let p : i.0 ≡ j.0 = cc in ap (λ (n : ℕ). record { 0 = n }) p)

pub told-spi : (a b : Result SpiId Refusal) → told_spi a ≡ told_spi b → a ≡ b
told-spi = told_once _ (λ i j e. let p : i.0 ≡ j.0 = cc in ap (λ (n : ℕ). record { 0 = n }) p)

pub told_lpi_lem : (a b : Result LpiId Refusal) → told_lpi a ≡ told_lpi b → a ≡ b
told_lpi_lem = told_once _ (λ i j e. let p : i.0 ≡ j.0 = cc in ap (λ (n : ℕ). record { 0 = n }) p)

-- an INTID of any kind is its kind and its number
int_id_of : ℕ → ℕ → IntId
int_id_of k n =
    cond (eqb k 0) (IntId.Sgi (record { 0 = n }))
    (cond (eqb k 1) (IntId.Ppi (record { 0 = n })) (cond (eqb k 2) (IntId.Spi (record { 0 = n })) (IntId.Lpi (record { 0 = n }))))

int_id_of_told : (i : IntId) → int_id_of (kind_of i) (raw_of i) ≡ i
unfolding int_id_of
int_id_of_told (IntId.Sgi i) = refl
int_id_of_told (IntId.Ppi i) = refl
int_id_of_told (IntId.Spi i) = refl
int_id_of_told (IntId.Lpi i) = refl

pub told_intid : (a b : Result IntId Refusal) → told_int_id a ≡ told_int_id b → a ≡ b
told_intid = told_once _ (λ i j e. let p : kind_of i ≡ kind_of j = cc in let q : raw_of i ≡ raw_of j = cc in cc (int_id_of_told i, int_id_of_told j))
