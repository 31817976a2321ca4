use mathlib.Core.Path.{subst⁻¹}
use Rattle.std.proofs.Common.{sym, ap, ◌∙◌, arith, rules}
use Rattle.image.specs.Bytes.{Bytes}
use Rattle.image.specs.declared.header.Header.{Header}
use Rattle.face.specs.Sweeps.{Sized}
use Rattle.face.proofs.Guesting.{switched_on, switch_bad, switched_off}
use Rattle.face.proofs.Rewriting.{good-sized}
use Rattle.face.proofs.guest.write_ctlr.Goals as goal

pub all_good-requires : goal.all_good-requires
all_good-requires c =
    let image = c.args.image.now in
    let hd = c.requires.0 in
    let bytes : Bytes image = record { byte = λ i. search rules } in
    subst⁻¹ (λ (h : Header). Sized h.spi_count image) hd.header (good-sized image bytes hd.good)

pub list_deliverable-listed-requires : goal.list_deliverable-listed-requires
list_deliverable-listed-requires c =
    let image = c.args.image.now in
    let hd = c.requires.0 in
    let bytes : Bytes image = record { byte = λ i. search rules } in
    (subst⁻¹ (λ (h : Header). Sized h.spi_count image) hd.header (good-sized image bytes hd.good), c.requires.1, sym c.all_good.ensures ∙ c.if-not-all_good.false)

pub bounds-image-0 : goal.bounds-image-0
bounds-image-0 c =
    let bytes : Bytes c.args.image.now = record { byte = λ i. search rules } in
    let z = (good-sized c.args.image.now bytes c.requires.0.good).size in
    omega (arith, z)

pub returns : goal.returns
returns c =
    let a = c.args in
    let hd = c.requires.0 in
    let bytes : Bytes a.image.now = record { byte = λ i. search rules } in
    switched_on a.image.now bytes hd.good a.value a.list.now a.header.spi_count c.list_deliverable-listed.result c.done-2.result c.list_deliverable-listed.new.list
    (ap (λ (h : Header). h.spi_count) hd.header) (sym c.switch_bit.ensures ∙ c.if-not-switch_bit.false) (sym c.all_good.ensures ∙ c.if-not-all_good.false) c.list_deliverable-listed.ensures c.done-2.ensures

pub returns-then-not-all_good : goal.returns-then-not-all_good
returns-then-not-all_good c =
    let a = c.args in
    let hd = c.requires.0 in
    let bytes : Bytes a.image.now = record { byte = λ i. search rules } in
    switch_bad a.image.now bytes hd.good a.value a.list.now a.header.spi_count c.all_good.result
    (ap (λ (h : Header). h.spi_count) hd.header) (sym c.switch_bit.ensures ∙ c.if-not-switch_bit.false) c.all_good.ensures c.if-not-all_good.true

pub bounds-image-0-2 : goal.bounds-image-0-2
bounds-image-0-2 c =
    let bytes : Bytes c.args.image.now = record { byte = λ i. search rules } in
    let z = (good-sized c.args.image.now bytes c.requires.0.good).size in
    omega (arith, z)

pub returns-then-not-switch_bit : goal.returns-then-not-switch_bit
returns-then-not-switch_bit c =
    let a = c.args in
    let hd = c.requires.0 in
    let bytes : Bytes a.image.now = record { byte = λ i. search rules } in
    switched_off a.image.now bytes hd.good a.value a.list.now c.done.result (sym c.switch_bit.ensures ∙ c.if-not-switch_bit.true) c.done.ensures
