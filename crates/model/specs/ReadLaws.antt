-- A read fits its width.
use Rattle.std.specs.Prelude.{ℕ, ◌*◌, ◌^◌, ◌≤◌, ◌<◌, Bool, true, false, cond, Ok, Err}
use Rattle.std.proofs.Math.Path.{◌≡◌, refl}
use mathlib.Core.List.{List, [], ◌∷◌}
use Rattle.std.proofs.Common.{arith, pow_mono, pow_pos}
use Rattle.std.proofs.Math.ListN.{get_or}
use Rattle.identifiers.specs.Answer.{done, unless}
use Rattle.registers.specs.declared.register.AccessWidth.{AccessWidth}
use Rattle.registers.specs.declared.register.AccessWidth.TheVariants.{Byte, Word, Dword, Qword}
use Rattle.bank.specs.declared.bank.Bank.{Bank}
use Rattle.registers.specs.declared.register.Register.TheVariants.{Identification, Ctlr, Typer, Iidr, Fields, Reserved}
use Rattle.registers.specs.declared.register.Direction.TheVariants.{Reading}
use Rattle.place.specs.Table.{in_table}
use Rattle.bank.specs.Banks.{bits_of, shown}
use Rattle.registers.specs.Registers.{Access, bytes_of}
use Rattle.decoding.specs.Decoding.{decode}
use Rattle.controller.specs.Modes.{explicit}
use Rattle.ownership.specs.Owned.{owned}
use Rattle.slot.specs.BankRule.{slot_of, shown_at, bank_value, read_beyond}
use Rattle.controller.specs.Identity.{component_id, ctlr_value, typer_value}
use Rattle.model.specs.Calls.{Distributor, read, size, reply, read_reply}
use Rattle.model.specs.Typed.{Typed}
use Rattle.theory.specs.Bools.{bit_fits}
use Rattle.bank.specs.FieldLaws.{packed_fits, pow-pow, shown_fits}
use Rattle.controller.specs.IdentityLaws.{id_fits}
use Rattle.decoding.specs.WidthLaws.{decode_sound}

module _ (d : Distributor) (ok : Typed d) where
  pub shown_at_fits : (b : Bank) (i : ℕ) → shown_at (explicit d.config.spi_ownership) (size d) b d.slots i < 2 ^ bits_of b
  shown_at_fits b i = go (in_table (size d) i) (owned (explicit d.config.spi_ownership) (slot_of d.slots i).ownership)
    where
      positive : (k : ℕ) → 0 < 2 ^ k
      positive k = pow_pos k

      go : (t o : Bool) → cond t (cond o (shown b (slot_of d.slots i).interrupt) 0) 0 < 2 ^ bits_of b
      go true true = shown_fits b _ (ok.bytes i).priority (ok.bytes i).route
      go true false = positive (bits_of b)
      go false o = positive (bits_of b)

  bank_fits : (b : Bank) (lo m : ℕ) (w : AccessWidth) → bits_of b * m ≤ 8 * bytes_of w → bank_value (explicit d.config.spi_ownership) (size d) b lo m d.slots < 2 ^ (8 * bytes_of w)
  bank_fits b lo m w h =
      let p = packed_fits b (shown_at (explicit d.config.spi_ownership) (size d) b d.slots) (shown_at_fits b) lo m in
      let q = pow-pow (bits_of b) m in
      let r : 2 ^ (bits_of b * m) ≤ 2 ^ (8 * bytes_of w) = pow_mono h in
      omega arith

  -- ---- the registers that have no INTID

  byte_fits : (v : ℕ) (w : AccessWidth) → v < 256 → v < 2 ^ (8 * bytes_of w)
  byte_fits v Byte h = omega arith
  byte_fits v Word h = omega arith
  byte_fits v Dword h = omega arith
  byte_fits v Qword h = omega arith

  dword_fits : (v : ℕ) (w : AccessWidth) → w ≡ Dword → v < 2 ^ 32 → v < 2 ^ (8 * bytes_of w)
  dword_fits v w e h = rw e h

  typer_fits : typer_value d.config (size d) < 2 ^ 32
  typer_fits =
      let x = bit_fits d.config.exposes_guest_lpis in
      let y = bit_fits d.config.affinity_level_3 in
      let z = bit_fits d.config.range_selector in
      omega arith

  -- a value that is read has no bits past the width of the read
  pub read_fits : (offset : ℕ) (w : AccessWidth) (v : ℕ) → (reply (read offset w) d).answer ≡ done (v ∷ []) → v < 2 ^ (8 * bytes_of w)
  unfolding reply
  read_fits offset w v e = go (decode Reading d.config.distributor_size offset w) refl e
    where
      go : (a : Access) → decode Reading d.config.distributor_size offset w ≡ a → (read_reply d a).answer ≡ done (v ∷ []) → v < 2 ^ (8 * bytes_of w)
      go (Err f) p q = let z : ◌≡◌ {A = ℕ} 0 1 = cc in absurd (omega arith)
      go (Ok (Identification k)) p q = let z : get_or component_id k 0 ≡ v = cc in rw z at (byte_fits _ w (id_fits k))
      go (Ok Ctlr) p q = let z : ctlr_value d.switch ≡ v = cc in let b = bit_fits d.switch in byte_fits v w (omega arith)
      go (Ok Typer) p q = let z : typer_value d.config (size d) ≡ v = cc in dword_fits v w (decode_sound _ offset w Typer p) (rw z at typer_fits)
      go (Ok Iidr) p q = let z : 0x43b ≡ v = cc in dword_fits v w (decode_sound _ offset w Iidr p) (omega arith)
      go (Ok (Fields b lo m)) p q = fields (read_beyond (explicit d.config.spi_ownership) (size d) b lo m) q
        where
          fields : (l : List ℕ) → unless l (done (bank_value (explicit d.config.spi_ownership) (size d) b lo m d.slots ∷ [])) ≡ done (v ∷ []) → v < 2 ^ (8 * bytes_of w)
          fields [] r = let z : bank_value (explicit d.config.spi_ownership) (size d) b lo m d.slots ≡ v = cc in rw z at (bank_fits b lo m w (decode_sound _ offset w (Fields b lo m) p))
          fields (i ∷ is) r = let z : ◌≡◌ {A = ℕ} 0 1 = cc in absurd (omega arith)
      go (Ok Reserved) p q = let z : ◌≡◌ {A = ℕ} 0 v = cc in byte_fits v w (omega arith)
