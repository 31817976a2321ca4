-- The slot at the SPI's place is changed, or the call is refused.
use Rattle.std.proofs.Common.{set, refl, ap, ◌∙◌, Err}
use Rattle.place.specs.Table.{table_size, place_answer}
use Rattle.place.specs.TableLaws.{at_place, off_place}
use Rattle.identifiers.specs.Answer.{told_refusal}
use Rattle.distributor.specs.Loops.{with_slots}
use Rattle.distributor.proofs.Hosting.{changed_in, changed_out}
use Rattle.distributor.proofs.distributor.DistributorState.change.Goals as goal

pub returns-in-Ok : goal.returns-in-Ok
returns-in-Ok c =
    let a = c.args in
    let k = at_place (table_size a.self.spi_count) a.spi.0 c.in-Ok.place
    (c.in-Ok.ensures ∙ ap (place_answer (table_size a.self.spi_count)) c.raw.ensures) in
    changed_in a.self a.spi.0 a.what c.index-p.result c.changed.result (record { state = with_slots a.self (set a.self.slots c.index-p.result c.changed.result); answer = c.change_answer.result }) k.0 (c.index-p.ensures ∙ k.1) c.changed.ensures refl c.change_answer.ensures

pub returns-in-Err : goal.returns-in-Err
returns-in-Err c =
    let a = c.args in
    let k = off_place (table_size a.self.spi_count) a.spi.0 c.in-Err.refusal
    (c.in-Err.ensures ∙ ap (place_answer (table_size a.self.spi_count)) c.raw.ensures) in
    changed_out a.self a.spi.0 a.what (record { state = a.self; answer = Err c.in-Err.refusal }) k.0 refl (ap told_refusal k.1)
