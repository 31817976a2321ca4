-- The header is bad, the table has not the SPI, or its record is changed.
use Rattle.std.proofs.Common.{◌∙◌, rules}
use Rattle.place.specs.Table.{table_size}
use Rattle.place.specs.TableLaws.{off_place}
use Rattle.image.specs.Bytes.{Bytes}
use Rattle.image.specs.Header.{header_of}
use Rattle.face.proofs.Hosting.{header_good, header_bad, seen_bad, placed, seen_out, seen_in}
use Rattle.face.proofs.calls.change_image.Goals as goal

pub change_at-requires : goal.change_at-requires
change_at-requires c =
    let a = c.args in
    let bytes : Bytes a.image.now = record { byte = λ i. search rules } in
    (placed a.image.now c.in-Some.header a.intid c.in-Ok.place bytes c.in-Some.ensures c.in-Ok.ensures).room

pub returns-in-Ok : goal.returns-in-Ok
returns-in-Ok c =
    let a = c.args in
    let bytes : Bytes a.image.now = record { byte = λ i. search rules } in
    let at = placed a.image.now c.in-Some.header a.intid c.in-Ok.place bytes c.in-Some.ensures c.in-Ok.ensures in
    c.change_at.ensures ∙ seen_in a.what a.intid a.image.now bytes at.good c.in-Ok.place at.has at.place

pub returns-in-Err : goal.returns-in-Err
returns-in-Err c =
    let a = c.args in
    let bytes : Bytes a.image.now = record { byte = λ i. search rules } in
    let headed = header_good a.image.now c.in-Some.header c.in-Some.ensures in
    let (out, what) = off_place (table_size (header_of a.image.now).spi_count) a.intid c.in-Err.refusal (rw headed.header at c.in-Err.ensures) in
    rw (c.refused.ensures, what) (seen_out a.what a.intid a.image.now bytes headed.good out)

pub returns-in_default : goal.returns-in_default
returns-in_default c =
    let a = c.args in
    seen_bad a.what a.intid a.image.now (header_bad a.image.now c.in_default.ensures)
