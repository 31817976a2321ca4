-- The bits of a written value past the width are ignored: the value cut to its width is answered alike and does the same.
use Rattle.std.specs.Prelude.{ℕ, suc, ◌+◌, ◌-◌, ◌*◌, ◌/◌, ◌%◌, ◌^◌, ◌≤◌, ◌<◌, ◌≡◌, Bool, true, false, cond, leb, ltb, eqb, Ok, Err}
use Rattle.std.proofs.Math.Path.{refl, ap}
use Rattle.std.proofs.Common.{◌∙◌, mul-suc, mul-le-mul_left, arith, leb-true, ltb-true}
use mathlib.Core.List.{List}
use Rattle.std.proofs.Math.Pow as pow
use Rattle.theory.specs.Bools.{both}
use Rattle.theory.specs.ListLaws.{passing_agree}
use Rattle.theory.specs.MapAtLaws.{map_at_same}
use Rattle.identifiers.specs.Answer.{within}
use Rattle.identifiers.specs.declared.error.Refusal.TheVariants.{ShortList}
use Rattle.bank.specs.declared.bank.Bank.{Bank}
use Rattle.bank.specs.Banks.{bits_of, field, refused_over}
use Rattle.bank.specs.FieldLaws.{pow-pow}
use Rattle.registers.specs.declared.register.AccessWidth.{AccessWidth}
use Rattle.registers.specs.declared.register.AccessWidth.TheVariants.{Byte, Word, Dword, Qword}
use Rattle.registers.specs.declared.register.Register.TheVariants.{Identification, Ctlr, Typer, Iidr, Fields, Reserved}
use Rattle.registers.specs.declared.register.Direction.TheVariants.{Writing}
use Rattle.registers.specs.Registers.{Access, bytes_of}
use Rattle.decoding.specs.Decoding.{decode, write_access}
use Rattle.controller.specs.Modes.{explicit}
use Rattle.controller.specs.Identity.{switch_bit}
use Rattle.decoding.specs.WidthLaws.{decode-covers}
use Rattle.slot.specs.declared.slot.Slot.{Slot}
use Rattle.slot.specs.BankRule.{bank_slot, candidate, bank_candidates, write_beyond}
use Rattle.model.specs.Calls.{Distributor, write, size, after_write, write_reply, reply, step}

-- a value cut to the width of the access
abbrev pub cut : AccessWidth → ℕ → ℕ
cut w v = v % 2 ^ (8 * bytes_of w)

-- a field that lies within k bits is the same in the value cut to k bits
pub field_cut : (b : Bank) (k v lo i m : ℕ) → bits_of b * m ≤ k → lo ≤ i → i < lo + m → field b (v % 2 ^ k) lo i ≡ field b v lo i
field_cut b k v lo i m h low high =
    let x = bits_of b in
    let j = i - lo in
    let room : x * suc j ≤ x * m = mul-le-mul_left x (omega arith) in
    let more : x * suc j ≡ x * j + x = mul-suc x j in
    let whole : k ≡ (k - x * j) + x * j = omega arith in
    let rest : k - x * j ≡ (k - x * j - x) + x = omega arith in
    let taken : v % 2 ^ k / 2 ^ (x * j) ≡ v / 2 ^ (x * j) % 2 ^ (k - x * j) = ap (λ (y : ℕ). v % 2 ^ y / 2 ^ (x * j)) whole ∙ pow.field v (k - x * j) (x * j) in
    let cutting : v / 2 ^ (x * j) % 2 ^ (k - x * j) % 2 ^ x ≡ v / 2 ^ (x * j) % 2 ^ x = ap (λ (y : ℕ). v / 2 ^ (x * j) % 2 ^ y % 2 ^ x) rest ∙ pow.mod-mod-pow (v / 2 ^ (x * j)) (k - x * j - x) x in
    rw (pow-pow x j) (ap (λ (y : ℕ). y % 2 ^ x) taken ∙ cutting)

switch_cut : (w : AccessWidth) (v : ℕ) → switch_bit (cut w v) ≡ switch_bit v
switch_cut Byte v = let e : v % 2 ^ 8 / 2 % 2 ≡ v / 2 % 2 = omega arith in ap (λ (x : ℕ). eqb x 1) e
switch_cut Word v = let e : v % 2 ^ 16 / 2 % 2 ≡ v / 2 % 2 = omega arith in ap (λ (x : ℕ). eqb x 1) e
switch_cut Dword v = let e : v % 2 ^ 32 / 2 % 2 ≡ v / 2 % 2 = omega arith in ap (λ (x : ℕ). eqb x 1) e
switch_cut Qword v = let e : v % 2 ^ 64 / 2 % 2 ≡ v / 2 % 2 = omega arith in ap (λ (x : ℕ). eqb x 1) e

module _ (e : Bool) (n : ℕ) (b : Bank) (k v lo m : ℕ) (fits : bits_of b * m ≤ k) where
  inside : (i : ℕ) → within lo (lo + m) i ≡ true → field b (v % 2 ^ k) lo i ≡ field b v lo i
  inside i e = let (low, high) = both (leb lo i) _ e in field_cut b k v lo i m fits (leb-true _ _ low) (ltb-true _ _ high)

  slot_cut : (i : ℕ) (s : Slot) → bank_slot e n b (v % 2 ^ k) lo m i s ≡ bank_slot e n b v lo m i s
  slot_cut i s = go (within lo (lo + m) i) refl
    where
      go : (t : Bool) → within lo (lo + m) i ≡ t → bank_slot e n b (v % 2 ^ k) lo m i s ≡ bank_slot e n b v lo m i s
      go true e = let f = inside i e in rw f
      go false e = rw e

  beyond_cut : write_beyond e n b (v % 2 ^ k) lo m ≡ write_beyond e n b v lo m
  beyond_cut =
      passing_agree (refused_over e n b (v % 2 ^ k) lo) (refused_over e n b v lo) lo m
      (λ i p q. let f = field_cut b k v lo i m fits p q in rw f)

  candidates_cut : (slots : List Slot) → bank_candidates e n b (v % 2 ^ k) lo m slots ≡ bank_candidates e n b v lo m slots
  candidates_cut slots =
      passing_agree (candidate e n b (v % 2 ^ k) lo m slots) (candidate e n b v lo m slots) lo m
      (λ i p q. let f = field_cut b k v lo i m fits p q in rw f)

module _ (d : Distributor) (offset : ℕ) (w : AccessWidth) (v places : ℕ) where
  abbrev here : Access
  here = write_access places (size d) d.config.distributor_size offset w

  fits_width : (b : Bank) (lo m : ℕ) → here ≡ Ok (Fields b lo m) → bits_of b * m ≤ 8 * bytes_of w
  fits_width b lo m e = go (ltb places (size d)) e
    where
      go : (t : Bool) → cond t (Err ShortList) (decode Writing d.config.distributor_size offset w) ≡ Ok (Fields b lo m) → bits_of b * m ≤ 8 * bytes_of w
      go true f = let z : ◌≡◌ {A = ℕ} 0 1 = cc in absurd (omega arith)
      go false f = decode-covers Writing d.config.distributor_size offset w b lo m f

  -- the answer, and the candidates
  pub cut-reply : reply (write offset w (cut w v) places) d ≡ reply (write offset w v places) d
  unfolding reply
  cut-reply = go here refl
    where
      go : (a : Access) → here ≡ a → write_reply d a (cut w v) ≡ write_reply d a v
      go (Err f) e = refl
      go (Ok (Identification k)) e = refl
      go (Ok Ctlr) e = let s = switch_cut w v in rw s
      go (Ok Typer) e = refl
      go (Ok Iidr) e = refl
      go (Ok (Fields b lo m)) e =
          let f = fits_width b lo m e in
          let x = beyond_cut (explicit d.config.spi_ownership) (size d) b (8 * bytes_of w) v lo m f in
          let y = candidates_cut (explicit d.config.spi_ownership) (size d) b (8 * bytes_of w) v lo m f d.slots in
          rw (x, y)
      go (Ok Reserved) e = refl

  -- the whole next state
  pub cut_step : step (write offset w (cut w v) places) d ≡ step (write offset w v places) d
  unfolding step
  cut_step = go here refl
    where
      go : (a : Access) → here ≡ a → after_write d a (cut w v) ≡ after_write d a v
      go (Err f) e = refl
      go (Ok (Identification k)) e = refl
      go (Ok Ctlr) e = let s = switch_cut w v in rw s
      go (Ok Typer) e = refl
      go (Ok Iidr) e = refl
      go (Ok (Fields b lo m)) e =
          ap (λ (l : List Slot). record { config = d.config; switch = d.switch; count = d.count; slots = l })
          (map_at_same (λ p. bank_slot (explicit d.config.spi_ownership) (size d) b (cut w v) lo m (32 + p)) (λ p. bank_slot (explicit d.config.spi_ownership) (size d) b v lo m (32 + p)) d.slots
          (λ p s. slot_cut (explicit d.config.spi_ownership) (size d) b (8 * bytes_of w) v lo m (fits_width b lo m e) (32 + p) s))
      go (Ok Reserved) e = refl
