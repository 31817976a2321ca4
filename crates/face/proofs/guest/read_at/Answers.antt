use Rattle.std.proofs.Common.{refl, sym, ap, ◌∙◌, rules, Err}
use Rattle.image.specs.Bytes.{Bytes}
use Rattle.registers.specs.declared.register.Direction.TheVariants.{Reading}
use Rattle.decoding.proofs.Bounding.{decode_bounded, decode_whole}
use Rattle.face.specs.Guest.{read_told}
use Rattle.face.proofs.Guesting.{read_plain}
use Rattle.face.proofs.guest.read_at.Goals as goal

pub read_register-requires : goal.read_register-requires
read_register-requires c =
    let a = c.args in
    let e = sym c.in-Ok.ensures in
    (c.requires, decode_bounded Reading a.header.config.distributor_size a.offset a.width _ e, decode_whole a.header.config.distributor_size a.offset a.width _ e)

pub returns-in-Err : goal.returns-in-Err
returns-in-Err c =
    let a = c.args in
    let bytes : Bytes a.image.now = record { byte = λ i. search rules } in
    c.refused.ensures ∙ read_plain a.image.now bytes c.requires.good (Err c.in-Err.refusal) (λ i. refl)
    ∙ ap (read_told a.image.now) c.in-Err.ensures
