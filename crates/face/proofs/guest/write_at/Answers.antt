use Rattle.std.proofs.Common.{◌/◌, length, refl, sym, ap, ◌∙◌, arith, rules, Err}
use Rattle.image.specs.Bytes.{Bytes}
use Rattle.registers.specs.declared.register.Direction.TheVariants.{Writing}
use Rattle.identifiers.specs.Answer.{told_refusal}
use Rattle.decoding.proofs.Bounding.{decode_bounded}
use Rattle.image_model.specs.declared.told.Told.{Told}
use Rattle.face.specs.Guest.{write_seen}
use Rattle.model.proofs.Granting.{granted}
use Rattle.face.proofs.Guesting.{write_plain}
use Rattle.face.proofs.guest.write_at.Goals as goal
use Rattle.registers.specs.Registers.{Access}

pub write_register-requires : goal.write_register-requires
write_register-requires c =
    let a = c.args in
    let ok = granted (length a.list.now / 4) a.header.spi_count a.header.config.distributor_size a.offset a.width c.in-Ok.register (sym c.in-Ok.ensures) in
    (c.requires, decode_bounded Writing a.header.config.distributor_size a.offset a.width _ ok.1, omega (arith, ok.0))

pub returns-in-Err : goal.returns-in-Err
returns-in-Err c =
    let a = c.args in
    let bytes : Bytes a.image.now = record { byte = λ i. search rules } in
    ap (λ (t : Told). record { told = t; image = a.image.now; list = a.list.now }) c.refused.ensures
    ∙ write_plain a.image.now bytes c.requires.good a.list.now (Err c.in-Err.refusal) a.value (told_refusal c.in-Err.refusal) (λ i. refl) refl refl
    ∙ ap (λ (x : Access). write_seen a.image.now a.list.now x a.value) c.in-Err.ensures
