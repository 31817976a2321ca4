-- Refused or not, the fields are written; refused, none is listed.
use Rattle.std.proofs.Common.{◌≡◌, ap, ◌∙◌, [], ◌∷◌}
use Rattle.place.specs.Table.{table_size}
use Rattle.controller.specs.Modes.{explicit}
use Rattle.bank.specs.Banks.{first_of, told_beyond}
use Rattle.slot.specs.BankRule.{candidate, write_beyond}
use Rattle.answers.specs.Answers.{told_write}
use Rattle.answers.specs.AnswerLaws.{told_answered}
use Rattle.distributor.specs.Model.{model_of}
use Rattle.distributor.proofs.Replying.{bank_told}
use Rattle.distributor.proofs.distributor.DistributorState.write_bank.Goals as goal

pub returns : goal.returns
returns c =
    let a = c.args in
    let E = explicit a.self.config.spi_ownership in
    let n = table_size a.self.spi_count in
    let l = write_beyond E n a.fields.bank a.value a.fields.first a.fields.count in
    let t = candidate E n a.fields.bank a.value a.fields.first a.fields.count a.self.slots in
    let x = c.write_beyond-beyond.result in
    let e : told_beyond x ≡ first_of l = c.write_beyond-beyond.ensures ∙ (rw (c.is_explicit.ensures, c.size.ensures)) in
    let w = c.write_fields-w.ensures in
    (ap model_of w.0, bank_told x l t a.fields.first a.fields.count a.list.now _ c.write_fields-w.result.count _ c.lists_unless.result e c.lists_unless.ensures w.1 (ap told_write c.unless_beyond.ensures ∙ told_answered (λ n. n ∷ []) x c.write_fields-w.result.count))
