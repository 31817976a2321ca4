use Rattle.std.proofs.Common.{ap, ◌∙◌}
use Rattle.registers.specs.declared.register.Direction.TheVariants.{Reading}
use Rattle.decoding.specs.Decoding.{decode}
use Rattle.image.specs.declared.header.Header.{Header}
use Rattle.face.specs.Guest.{read_told}
use Rattle.face.proofs.Guesting.{seen_read, no_width_read, bad_read}
use Rattle.face.proofs.Hosting.{header_good, header_bad}
use Rattle.face.proofs.guest.read_image.Goals as goal

pub returns : goal.returns
returns c =
    let a = c.args in
    let image = a.image.now in
    let headed = header_good image c.in-Some.header c.in-Some.ensures in
    c.read_at.ensures ∙ ap (λ (h : Header). read_told image (decode Reading h.config.distributor_size a.offset c.in-Ok.width)) headed.header
    ∙ seen_read image a.offset a.width c.in-Ok.width headed.good c.in-Ok.ensures

pub returns-in_default-try_from : goal.returns-in_default-try_from
returns-in_default-try_from c =
    let a = c.args in
    let headed = header_good a.image.now c.in-Some.header c.in-Some.ensures in
    no_width_read a.image.now a.offset a.width headed.good c.in_default-try_from.ensures

pub returns-in_default : goal.returns-in_default
returns-in_default c =
    let a = c.args in
    bad_read a.image.now a.offset a.width (header_bad a.image.now c.in_default.ensures)
