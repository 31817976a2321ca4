use mathlib.Core.Path.{subst⁻¹}
use Rattle.std.proofs.Common.{[], ◌∷◌, ap, ◌∙◌, rules}
use Rattle.answers.specs.Answers.{told_read}
use Rattle.answers.specs.AnswerLaws.{told_answered}
use Rattle.controller.specs.Modes.{explicit}
use Rattle.image.specs.Bytes.{Bytes}
use Rattle.image.specs.declared.header.Header.{Header}
use Rattle.face.specs.Sweeps.{Sized}
use Rattle.face.proofs.Guesting.{read_done, read_bad}
use Rattle.face.proofs.Rewriting.{good-sized}
use Rattle.face.proofs.guest.read_bank.Goals as goal

pub read_fields-requires : goal.read_fields-requires
read_fields-requires c =
    let image = c.args.image.now in
    let hd = c.requires.0 in
    let bytes : Bytes image = record { byte = λ i. search rules } in
    let sized = good-sized image bytes hd.good in
    (subst⁻¹ (λ (h : Header). Sized h.spi_count image) hd.header sized, c.requires.1)

pub returns : goal.returns
returns c =
    let a = c.args in
    let hd = c.requires.0 in
    let bytes : Bytes a.image.now = record { byte = λ i. search rules } in
    read_done a.image.now bytes hd.good a.fields.bank a.fields.first a.fields.count c.is_explicit-explicit.result a.header.spi_count c.read_beyond-beyond.result c.in-Some.value
    c.unless_beyond.result c.of.result
    (c.is_explicit-explicit.ensures ∙ ap (λ (h : Header). explicit h.config.spi_ownership) hd.header) (ap (λ (h : Header). h.spi_count) hd.header)
    c.in-Some.ensures c.read_beyond-beyond.ensures (ap told_read c.unless_beyond.ensures ∙ told_answered (λ n. n ∷ []) c.read_beyond-beyond.result c.in-Some.value) c.of.ensures

pub returns-in_default : goal.returns-in_default
returns-in_default c =
    let a = c.args in
    let hd = c.requires.0 in
    let bytes : Bytes a.image.now = record { byte = λ i. search rules } in
    read_bad a.image.now bytes hd.good a.fields.bank a.fields.first a.fields.count c.is_explicit-explicit.result a.header.spi_count
    (c.is_explicit-explicit.ensures ∙ ap (λ (h : Header). explicit h.config.spi_ownership) hd.header) (ap (λ (h : Header). h.spi_count) hd.header)
    c.in_default.ensures
