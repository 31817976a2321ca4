-- The loop that reads a bank's fields, from the highest INTID of the table down: one field more.
use Prim.Native.Nat.{ℕ, suc, ◌+◌, ◌-◌, ◌*◌, ◌^◌, ◌≤◌, ◌<◌, min, max}
use mathlib.Core.Path.{◌≡◌, ◌∙◌}
use mathlib.Core.Logic.{by_cases}
use mathlib.Core.Bool.{Bool, true, false}
use mathlib.Core.List.{List}
use native.Mathlib.Nat.{pow-suc, mul-le-mul_left}
use native.Mathlib.Decide.{dec_lt}
use native.Mathlib.Omega.{arith}
use borrow.Author.Tests.{le-leb, lt-leb, lt-ltb, le-ltb}
use lib.Dec.{leb, ltb}
use lib.ListN.{get_or}
use lib.Pow.{pow_mono}
use Rattle.place.specs.Table.{in_table}
use Rattle.bank.specs.declared.bank.Bank.{Bank}
use Rattle.bank.specs.Banks.{bits_of, packed}
use Rattle.bank.specs.BankLaws.{packed-below, packed_under}
use Rattle.bank.specs.FieldLaws.{digit_fits, pow-pow}
use Rattle.slot.specs.declared.slot.Slot.{Slot}
use Rattle.slot.specs.Slots.{showing}
use Rattle.slot.specs.BankRule.{shown_at, bank_value}
use Rattle.slot.specs.NoSlot.{no_slot}

-- the fields that are read fit 64 bits
pub room : (b : Bank) (k m : ℕ) → bits_of b * m ≤ 64 → k ≤ m → (2 ^ bits_of b) ^ k ≤ 2 ^ 64
room b k m h l =
    let p : bits_of b * k ≤ bits_of b * m = mul-le-mul_left (bits_of b) l in
    rw (pow-pow (bits_of b) k) (pow_mono {i = bits_of b * k} {j = 64} (omega arith))

-- the loop stands at i, and has read the fields from i up to below end
module _ (b : Bank) (t : ℕ → ℕ) (i end v f : ℕ) (low : 0 < i) (high : i ≤ end) where
  turns : end - (i - 1) ≡ suc (end - i)
  turns = omega arith

  pub packed_more : v ≡ packed b t i (end - i) → f ≡ t (i - 1) → v * 2 ^ bits_of b + f ≡ packed b t (i - 1) (end - (i - 1))
  packed_more e g =
      let z : i ≡ suc (i - 1) = omega arith in
      let w : packed b t i (end - i) ≡ packed b t (suc (i - 1)) (end - i) = (λ j. packed b t (z j) (end - i)) in
      rw (turns, e, g, w)

  pub packed_room : v < (2 ^ bits_of b) ^ (end - i) → f < 2 ^ bits_of b → v * 2 ^ bits_of b + f < (2 ^ bits_of b) ^ (end - (i - 1))
  packed_room h k = rw (turns, pow-suc (2 ^ bits_of b) (end - i)) (digit_fits v ((2 ^ bits_of b) ^ (end - i)) f (2 ^ bits_of b) h k)

module _ (e : Bool) (n : ℕ) (b : Bank) (slots : List Slot) where
  in_it : (i : ℕ) → 32 ≤ i → i < 32 + n → in_table n i ≡ true
  in_it i p q = let x : leb 32 i ≡ true = le-leb 32 i p in rw x (lt-ltb i (32 + n) q)

  -- what the code reads at the place of an INTID of the table is what the bank shows of it
  pub shows : (i p f : ℕ) (x : Bool) → 32 ≤ i → i < 32 + n → p ≡ i - 32 → x ≡ e → f ≡ showing x b (get_or slots p no_slot) → f ≡ shown_at e n b slots i
  shows i p f x low high hp hx hf = let t = in_it i low high in rw (hf, hx, hp, t)

  past : (i : ℕ) → 32 + n ≤ i → shown_at e n b slots i ≡ 0
  past i h =
      let x : leb 32 i ≡ true = le-leb 32 i (omega arith) in
      let y : ltb i (32 + n) ≡ false = le-ltb i (32 + n) h in
      rw (x, y)

  under : (i : ℕ) → i < 32 → shown_at e n b slots i ≡ 0
  under i h = let x : leb 32 i ≡ false = lt-leb 32 i h in rw x

  -- all that the access covers is what the table has of it
  pub all_read : (lo m v i : ℕ) → (lo < 32 → lo + m ≤ 32) → min (max lo 32) (min (lo + m) (32 + n)) ≤ i → i ≤ min (lo + m) (32 + n) → i ≤ max lo 32
      → v ≡ packed b (shown_at e n b slots) i (min (lo + m) (32 + n) - i) → v ≡ bank_value e n b lo m slots
  all_read lo m v i whole low high done h = by_cases (dec_lt lo 32)
      (λ p.
      let k = whole p in
      let z : bank_value e n b lo m slots ≡ 0 = packed_under b (shown_at e n b slots) lo m under k in
      let w : min (lo + m) (32 + n) - i ≡ 0 = omega arith in
      h ∙ (rw (w, z)))
      (λ p.
      let x = packed-below b (shown_at e n b slots) (32 + n) lo m past in
      by_cases (dec_lt (min (lo + m) (32 + n)) lo)
      (λ q.
      let w : min (lo + m) (32 + n) - i ≡ 0 = omega arith in
      let y : min (lo + m) (32 + n) - lo ≡ 0 = omega arith in
      h ∙ (rw (w, x, y)))
      (λ q. let y : i ≡ lo = omega arith in h ∙ (rw (y, x))))
