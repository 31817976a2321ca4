-- The promise of a call leaves no second result: state, answer and room are determined.
use Rattle.std.specs.Prelude.{ℕ, ◌≡◌, List}
use Rattle.std.proofs.Common.{sym, ◌∙◌}
use Rattle.model.specs.Calls.{Call}
use Rattle.distributor.specs.declared.distributor.DistributorState.{DistributorState}
use Rattle.distributor.specs.ModelLaws.{one_state}
use Rattle.harness_numbers.specs.Numbers.{unknown}
use Rattle.harness_calls.specs.declared.run.Ran.{Ran}
use Rattle.harness_calls.specs.Ran.{Performed, RanAs}

module _ (d : DistributorState) (room : List ℕ) (r s : Ran) (left rest : List ℕ) where
  pub one_result : (k : Call) → Performed k d room r left → Performed k d room s rest → (r ≡ s) × (left ≡ rest)
  one_result k p q =
      let x = one_state r.state s.state (p.state ∙ sym q.state) in
      let y = p.answer ∙ sym q.answer in
      ((λ j. record { state = x j; answer = y j }), p.lent ∙ sym q.lent)

  pub one_unknown : RanAs unknown d room r left → RanAs unknown d room s rest → (r ≡ s) × (left ≡ rest)
  one_unknown p q =
      let x = p.0.state ∙ sym q.0.state in
      let y = p.1 ∙ sym q.1 in
      ((λ j. record { state = x j; answer = y j }), p.0.lent ∙ sym q.0.lent)
