-- What lies at every offset, in the paper's words, and the INTIDs that an access to it covers.
use Rattle.std.specs.Prelude.{ℕ, ◌-◌, ◌*◌, ◌/◌, ◌%◌, ◌≤◌, ◌<◌, ◌≡◌, true, false, cond, eqb}
use Rattle.std.proofs.Common.{ne_eqb}
use native.Mathlib.Omega.{arith}
use Rattle.theory.specs.Bools.{refuted}
use Rattle.identifiers.specs.Answer.{within}
use Rattle.place.specs.TableLaws.{within_both}
use Rattle.bank.specs.declared.bank.Bank.TheVariants.{Replace}
use Rattle.bank.specs.declared.bank.Field.{Field}
use Rattle.bank.specs.declared.bank.Field.TheVariants.{Priority, Configuration}
use Rattle.registers.specs.declared.register.AccessWidth.{AccessWidth}
use Rattle.registers.specs.declared.register.Register.{Register}
use Rattle.registers.specs.declared.register.Register.TheVariants.{Identification, Ctlr, Typer, Iidr, Fields, Reserved}
use Rattle.registers.specs.Registers.{bytes_of}
use Rattle.registers.specs.MapLaws.{flag_bank}
use Rattle.registers.specs.FrameLaws.{words, in_words}

-- the identification registers; CTLR, TYPER and IIDR; seven flag banks of 0x80 bytes, a bit for each INTID; IPRIORITYR, a byte for
-- each; ICFGR, two bits; IROUTER, eight bytes
abbrev pub register_there : ℕ → AccessWidth → Register
register_there o w =
    cond (words 0xffd0 0x10000 o) (Identification ((o - 0xffd0) / 4))
    (cond (eqb o 0x0) Ctlr
    (cond (eqb o 0x4) Typer
    (cond (eqb o 0x8) Iidr
    (cond (words 0x80 0x400 o) (Fields (flag_bank ((o - 0x80) / 0x80)) (o % 0x80 * 8) (bytes_of w * 8))
    (cond (within 0x400 0x7fc o) (Fields (Replace Priority) (o - 0x400) (bytes_of w))
    (cond (words 0xc00 0xd00 o) (Fields (Replace Configuration) ((o - 0xc00) * 4) (bytes_of w * 4))
    (cond (within 0x6000 0x7fe0 o) (Fields (Replace Field.Route) ((o - 0x6000) / 8) (bytes_of w / 8))
    Reserved)))))))

-- ---- the banks by their offsets

module _ (o : ℕ) (w : AccessWidth) where
  no_words : (lo end : ℕ) → (lo ≤ o → o < end → ⊥) → words lo end o ≡ false
  no_words lo end h = refuted (words lo end o) (λ e. let (low, high, aligned) = (in_words lo end o).0 e in h low high)

  pub flags_there : words 0x80 0x400 o ≡ true → register_there o w ≡ Fields (flag_bank ((o - 0x80) / 0x80)) (o % 0x80 * 8) (bytes_of w * 8)
  flags_there h =
      let (low, high, aligned) = (in_words 0x80 0x400 o).0 h in
      rw (no_words 0xffd0 0x10000 (λ p q. omega arith), ne_eqb o 0 (omega arith), ne_eqb o 4 (omega arith), ne_eqb o 8 (omega arith), h)

  pub ipriorityr_there : within 0x400 0x7fc o ≡ true → register_there o w ≡ Fields (Replace Priority) (o - 0x400) (bytes_of w)
  ipriorityr_there h =
      let (low, high) = (within_both 0x400 0x7fc o).0 h in
      rw (no_words 0xffd0 0x10000 (λ p q. omega arith), ne_eqb o 0 (omega arith), ne_eqb o 4 (omega arith), ne_eqb o 8 (omega arith), no_words 0x80 0x400 (λ p q. omega arith), h)

  pub icfgr_there : words 0xc00 0xd00 o ≡ true → register_there o w ≡ Fields (Replace Configuration) ((o - 0xc00) * 4) (bytes_of w * 4)
  icfgr_there h =
      let (low, high, aligned) = (in_words 0xc00 0xd00 o).0 h in
      let past : within 0x400 0x7fc o ≡ false = refuted (within 0x400 0x7fc o) (λ e. let r = (within_both 0x400 0x7fc o).0 e in omega arith) in
      rw (no_words 0xffd0 0x10000 (λ p q. omega arith), ne_eqb o 0 (omega arith), ne_eqb o 4 (omega arith), ne_eqb o 8 (omega arith), no_words 0x80 0x400 (λ p q. omega arith), past, h)

  pub irouter_there : within 0x6000 0x7fe0 o ≡ true → register_there o w ≡ Fields (Replace Field.Route) ((o - 0x6000) / 8) (bytes_of w / 8)
  irouter_there h =
      let (low, high) = (within_both 0x6000 0x7fe0 o).0 h in
      let past : within 0x400 0x7fc o ≡ false = refuted (within 0x400 0x7fc o) (λ e. let r = (within_both 0x400 0x7fc o).0 e in omega arith) in
      rw (no_words 0xffd0 0x10000 (λ p q. omega arith), ne_eqb o 0 (omega arith), ne_eqb o 4 (omega arith), ne_eqb o 8 (omega arith), no_words 0x80 0x400 (λ p q. omega arith), past, no_words 0xc00 0xd00 (λ p q. omega arith), h)
