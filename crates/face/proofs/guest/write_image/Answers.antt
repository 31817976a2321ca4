use Rattle.std.proofs.Common.{ℕ, ◌/◌, length, sym, ap, ◌∙◌, rules}
use Rattle.image.specs.Bytes.{Bytes}
use Rattle.decoding.specs.Decoding.{write_access}
use Rattle.place.specs.TableLaws.{size-asked}
use Rattle.image.specs.declared.header.Header.{Header}
use Rattle.image.specs.Header.{header_of}
use Rattle.face.specs.Guest.{write_seen}
use Rattle.face.proofs.Guesting.{most, seen_write, no_width_write, bad_write}
use Rattle.face.proofs.Hosting.{header_good, header_bad}
use Rattle.face.proofs.guest.write_image.Goals as goal

pub returns : goal.returns
returns c =
    let a = c.args in
    let image = a.image.now in
    let bytes : Bytes image = record { byte = λ i. search rules } in
    let x = c.in-Ok.width in
    let headed = header_good image c.in-Some.header c.in-Some.ensures in
    let n = (header_of image).spi_count in
    c.write_at.ensures
    ∙ ap (λ (h : Header). write_seen image a.list.now (write_access (length a.list.now / 4) h.spi_count h.config.distributor_size a.offset x) a.value) headed.header
    ∙ ap (λ (k : ℕ). write_seen image a.list.now (write_access (length a.list.now / 4) k (header_of image).config.distributor_size a.offset x) a.value) (sym (size-asked n (most image bytes headed.good)))
    ∙ seen_write image a.offset a.width a.value a.list.now x headed.good c.in-Ok.ensures

pub returns-in_default-try_from : goal.returns-in_default-try_from
returns-in_default-try_from c =
    let a = c.args in
    let headed = header_good a.image.now c.in-Some.header c.in-Some.ensures in
    no_width_write a.image.now a.offset a.width a.value a.list.now headed.good c.in_default-try_from.ensures

pub returns-in_default : goal.returns-in_default
returns-in_default c =
    let a = c.args in
    bad_write a.image.now a.offset a.width a.value a.list.now (header_bad a.image.now c.in_default.ensures)
