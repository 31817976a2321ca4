-- No two states of the code are the same Distributor, and no two answers are told alike: a promise leaves no second result.
use Rattle.std.specs.Prelude.{◌≡◌, refl, Bool, true, false, [], ◌∷◌}
use Rattle.std.proofs.Common.{ap}
use Rattle.identifiers.specs.Answer.{done}
use Rattle.bank.specs.Banks.{bit}
use Rattle.model.specs.Calls.{Reply}
use Rattle.distributor.specs.declared.distributor.DistributorState.{DistributorState}
use Rattle.distributor.specs.Model.{model_of, switch_reply}

pub one_state : (d e : DistributorState) → model_of d ≡ model_of e → d ≡ e
one_state d e p = λ j. record { config = (p j).config; enabled = (p j).switch; spi_count = (p j).count; slots = (p j).slots }

bit_same : (x y : Bool) → bit x ≡ bit y → x ≡ y
bit_same true true e = refl
bit_same true false e = cc
bit_same false true e = cc
bit_same false false e = refl

pub told_switch : (x y : Bool) → switch_reply x ≡ switch_reply y → x ≡ y
told_switch x y e =
    let q : done (bit x ∷ []) ≡ done (bit y ∷ []) = ap (λ (r : Reply). r.answer) e in
    let p : bit x ≡ bit y = cc in
    bit_same x y p
