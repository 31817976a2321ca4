use mathlib.Core.Path.{subst⁻¹}
use Rattle.std.proofs.Common.{[], ◌∷◌, sym, ap, ◌∙◌, rules}
use Rattle.image.specs.Bytes.{Bytes}
use Rattle.answers.specs.Answers.{told_write}
use Rattle.answers.specs.AnswerLaws.{told_answered}
use Rattle.controller.specs.Modes.{explicit}
use Rattle.image.specs.declared.header.Header.{Header}
use Rattle.face.specs.Sweeps.{Sized}
use Rattle.face.proofs.Guesting.{write_done, write_bad}
use Rattle.face.proofs.Rewriting.{good-sized}
use Rattle.face.proofs.guest.write_bank.Goals as goal

pub are_good-requires : goal.are_good-requires
are_good-requires c =
    let image = c.args.image.now in
    let hd = c.requires.0 in
    let bytes : Bytes image = record { byte = λ i. search rules } in
    subst⁻¹ (λ (h : Header). Sized h.spi_count image) hd.header (good-sized image bytes hd.good)

pub write_fields-listed-requires : goal.write_fields-listed-requires
write_fields-listed-requires c =
    let image = c.args.image.now in
    let hd = c.requires.0 in
    let bytes : Bytes image = record { byte = λ i. search rules } in
    (subst⁻¹ (λ (h : Header). Sized h.spi_count image) hd.header (good-sized image bytes hd.good), c.requires.1, sym c.are_good.ensures ∙ c.if-not-are_good.false)

pub returns : goal.returns
returns c =
    let a = c.args in
    let hd = c.requires.0 in
    let bytes : Bytes a.image.now = record { byte = λ i. search rules } in
    let left : Bytes c.write_fields-listed.new.image = record { byte = λ i. search rules } in
    write_done a.image.now bytes hd.good a.fields.bank a.fields.first a.fields.count a.value a.list.now c.is_explicit-explicit.result a.header.spi_count c.write_beyond-beyond.result c.lists_unless.result
    c.write_fields-listed.result c.unless_beyond.result c.of.result c.write_fields-listed.new.image c.write_fields-listed.new.list
    (c.is_explicit-explicit.ensures ∙ ap (λ (h : Header). explicit h.config.spi_ownership) hd.header) (ap (λ (h : Header). h.spi_count) hd.header)
    left (sym c.are_good.ensures ∙ c.if-not-are_good.false)
    c.write_fields-listed.ensures.image c.write_fields-listed.ensures.list c.lists_unless.ensures c.write_beyond-beyond.ensures (ap told_write c.unless_beyond.ensures ∙ told_answered (λ n. n ∷ []) c.write_beyond-beyond.result c.write_fields-listed.result) c.of.ensures

pub returns-then-not-are_good : goal.returns-then-not-are_good
returns-then-not-are_good c =
    let a = c.args in
    let hd = c.requires.0 in
    let bytes : Bytes a.image.now = record { byte = λ i. search rules } in
    write_bad a.image.now bytes hd.good a.fields.bank a.fields.first a.fields.count a.value a.list.now a.header.spi_count c.are_good.result
    (ap (λ (h : Header). h.spi_count) hd.header) c.are_good.ensures c.if-not-are_good.true
