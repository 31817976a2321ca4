-- A write that is ignored leaves all as it was.
use Rattle.std.proofs.Common.{rules}
use Rattle.image.specs.Bytes.{Bytes}
use Rattle.face.proofs.Guesting.{ignored_at}
use Rattle.face.proofs.guest.write_register.Goals as goal

pub returns-in-Identification : goal.returns-in-Identification
returns-in-Identification c =
    let a = c.args in
    let bytes : Bytes a.image.now = record { byte = λ i. search rules } in
    ignored_at a.image.now bytes c.requires.0.good a.list.now a.value c.done.result a.register c.in-Identification.is c.done.ensures
