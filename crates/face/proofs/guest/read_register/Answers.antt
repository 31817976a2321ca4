-- An arm for each register. Those that are no bank name no record.
use Rattle.std.proofs.Common.{ℕ, [], ◌∷◌, refl, ap, ◌∙◌, rules, Ok}
use Rattle.image.specs.Bytes.{Bytes}
use Rattle.image.specs.declared.header.Header.{Header}
use Rattle.identifiers.specs.Answer.{done}
use Rattle.place.specs.Table.{table_size}
use Rattle.controller.specs.Identity.{ctlr_value, typer_value}
use Rattle.registers.specs.declared.register.Register.TheVariants.{Identification, Ctlr, Typer, Iidr, Reserved}
use Rattle.image_model.specs.Told.{told}
use Rattle.face.proofs.Guesting.{read_plain}
use Rattle.face.proofs.guest.read_register.Goals as goal

pub returns-in-Identification : goal.returns-in-Identification
returns-in-Identification c =
    let image = c.args.image.now in
    let bytes : Bytes image = record { byte = λ i. search rules } in
    rw c.in-Identification.is
    (c.done.ensures ∙ ap (λ (z : ℕ). told (done (z ∷ []))) c.component_id.ensures ∙ read_plain image bytes c.requires.0.good (Ok (Identification c.in-Identification.k)) (λ i. refl))

pub returns-in-Ctlr : goal.returns-in-Ctlr
returns-in-Ctlr c =
    let image = c.args.image.now in
    let bytes : Bytes image = record { byte = λ i. search rules } in
    rw c.in-Ctlr.is
    (c.done-in-Ctlr.ensures ∙ ap (λ (z : ℕ). told (done (z ∷ []))) (c.ctlr.ensures ∙ ap (λ (h : Header). ctlr_value h.enabled) c.requires.0.header) ∙ read_plain image bytes c.requires.0.good (Ok Ctlr) (λ i. refl))

pub returns-in-Typer : goal.returns-in-Typer
returns-in-Typer c =
    let image = c.args.image.now in
    let bytes : Bytes image = record { byte = λ i. search rules } in
    rw c.in-Typer.is
    (c.done-in-Typer.ensures ∙ ap (λ (z : ℕ). told (done (z ∷ []))) (c.typer.ensures ∙ ap (λ (h : Header). typer_value h.config (table_size h.spi_count)) c.requires.0.header) ∙ read_plain image bytes c.requires.0.good (Ok Typer) (λ i. refl))

pub returns-in-Iidr : goal.returns-in-Iidr
returns-in-Iidr c =
    let image = c.args.image.now in
    let bytes : Bytes image = record { byte = λ i. search rules } in
    rw c.in-Iidr.is (c.done-in-Iidr.ensures ∙ read_plain image bytes c.requires.0.good (Ok Iidr) (λ i. refl))

pub returns-in-Reserved : goal.returns-in-Reserved
returns-in-Reserved c =
    let image = c.args.image.now in
    let bytes : Bytes image = record { byte = λ i. search rules } in
    rw c.in-Reserved.is (c.done-in-Reserved.ensures ∙ read_plain image bytes c.requires.0.good (Ok Reserved) (λ i. refl))
