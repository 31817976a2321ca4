-- The first places of the room are lent, and the others are untouched.
use Rattle.std.proofs.Common.{ap, ◌∙◌}
use Rattle.answers.specs.Answers.{told_write}
use Rattle.harness_numbers.specs.Numbers.{width_by}
use Rattle.harness_calls.proofs.Performing.{of, lent_performed}
use Rattle.harness_calls.proofs.run.write.Goals as goal

pub returns : goal.returns
returns c =
    let a = c.args in
    let w = c.write-wrote in
    lent_performed a.d a.room.now a.call.a c.width.result (width_by a.call.b) a.call.c a.call.d c.lent-places.result c.kept.result w.result.state (told_write w.result.answer) _
    c.lent-places.ensures c.width.ensures (c.kept.ensures ∙ ap (of w.result.state) c.written.ensures) w.ensures.state w.ensures.answer
