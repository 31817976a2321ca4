-- The access is decoded, and its register written; refused, nothing is changed.
use Rattle.std.proofs.Common.{ℕ, length, sym, ap, ◌∙◌}
use Rattle.place.specs.Table.{table_size}
use Rattle.registers.specs.declared.register.Direction.TheVariants.{Writing}
use Rattle.decoding.specs.Decoding.{write_access}
use Rattle.decoding.proofs.Bounding.{decode_bounded}
use Rattle.model.proofs.Granting.{granted}
use Rattle.distributor.proofs.Replying.{written_so, refused_writes}
use Rattle.distributor.proofs.distributor.DistributorState.write.Goals as goal

pub write_register-requires : goal.write_register-requires
write_register-requires c =
    let a = c.args in
    let same = ap (λ (n : ℕ). write_access (length a.list.now) n a.self.config.distributor_size a.offset a.width) (sym c.size.ensures) in
    let k = granted (length a.list.now) (table_size a.self.spi_count) a.self.config.distributor_size a.offset a.width _ (same ∙ sym c.in-Ok.ensures) in
    (decode_bounded Writing a.self.config.distributor_size a.offset a.width _ k.1, k.0)

pub returns-in-Ok : goal.returns-in-Ok
returns-in-Ok c =
    let a = c.args in
    let same = ap (λ (n : ℕ). write_access (length a.list.now) n a.self.config.distributor_size a.offset a.width) (sym c.size.ensures) in
    let done = written_so a.self a.offset a.width a.value a.list.now _ c.write_register.result _ (same ∙ sym c.in-Ok.ensures) c.write_register.ensures in
    record { state = done.0; answer = done.1 }

pub returns-in-Err : goal.returns-in-Err
returns-in-Err c =
    let a = c.args in
    let same = ap (λ (n : ℕ). write_access (length a.list.now) n a.self.config.distributor_size a.offset a.width) (sym c.size.ensures) in
    let done =
    written_so a.self a.offset a.width a.value a.list.now _ c.keeping.result _ (same ∙ sym c.in-Err.ensures)
    (refused_writes a.self a.value a.list.now c.keeping.result _ c.keeping.ensures) in
    record { state = done.0; answer = done.1 }
