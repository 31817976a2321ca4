-- The register map is sound: no offset has two registers, and a bank's registers cover the INTIDs that Arm's specification gives them.
use Rattle.std.specs.Prelude.{ℕ, zero, suc, ◌+◌, ◌-◌, ◌*◌, ◌/◌, ◌%◌, ◌≤◌, ◌<◌, ◌≡◌, refl, Bool, true, false, ◌&&◌, ◌||◌, cond, List, [], ◌∷◌, ◌↔◌, leb, eqb, get_or, slice_get, Some, None, Ok, Err}
use Rattle.std.proofs.Common.{sym, ◌∙◌, subst, ⊎_elim, arith, leb-true, ltb-true, eqb-true, le-leb, lt-ltb, eq-eqb}
use mir.Val.{bool_byte}
use Rattle.theory.specs.Bools.{both, either, refuted}
use Rattle.identifiers.specs.Answer.{within}
use Rattle.theory.specs.ListLaws.{everywhere}
use Rattle.registers.specs.declared.register.AccessWidth.{AccessWidth}
use Rattle.registers.specs.declared.register.AccessWidth.TheVariants.{Byte, Word, Dword, Qword}
use Rattle.bank.specs.declared.bank.Bank.{Bank}
use Rattle.bank.specs.declared.bank.Bank.TheVariants.{Set, Clear, Replace}
use Rattle.bank.specs.declared.bank.Flag.TheVariants.{Enabled, Pending, Active}
use Rattle.bank.specs.declared.bank.Field.{Field}
use Rattle.bank.specs.declared.bank.Field.TheVariants.{Group, Priority, Configuration}
use Rattle.registers.specs.declared.register.Register.TheVariants.{Fields}
use Rattle.identifiers.specs.declared.error.Refusal.TheVariants.{InvalidWidth}
use Rattle.registers.specs.declared.register.Direction.{Direction}
use Rattle.registers.specs.declared.register.Direction.TheVariants.{Reading, Writing}
use Rattle.registers.specs.declared.register.Row.{Row}
use Rattle.registers.specs.Registers.{bytes_of, width_of, qword, any, takes, map, widths_for, in_row, holds, row_access, lookup}

-- ---- one register an offset

-- no offset is in both rows
abbrev pub apart : Row → Row → Bool
apart r s = leb r.end s.from || leb s.end r.from

abbrev pub apart_from : Row → List Row → Bool
apart_from r [] = true
apart_from r (s ∷ ss) = apart r s && apart_from r ss

abbrev pub all_apart : List Row → Bool
all_apart [] = true
all_apart (r ∷ rs) = apart_from r rs && all_apart rs

-- how many rows hold an offset
abbrev pub holders : List Row → ℕ → ℕ
holders [] o = 0
holders (r ∷ rs) o = bool_byte (holds r o) + holders rs o

-- a row that holds an offset has it between its ends
pub between : (r : Row) (o : ℕ) → holds r o ≡ true → (r.from ≤ o) × (o < r.end)
between r o h =
    let (inside, aligned) = both (within r.from r.end o) _ h in
    let (low, high) = both (leb r.from o) _ inside in
    (leb-true _ _ low, ltb-true _ _ high)

not_both : (r s : Row) (o : ℕ) → apart r s ≡ true → holds r o ≡ true → holds s o ≡ false
not_both r s o e h =
    refuted _ (λ k.
    let p = between r o h in
    let q = between s o k in
    ⊎_elim (λ l. let x = leb-true r.end s.from l in omega arith) (λ l. let x = leb-true s.end r.from l in omega arith)
    (either (leb r.end s.from) (leb s.end r.from) e))

none_else : (r : Row) (rs : List Row) (o : ℕ) → apart_from r rs ≡ true → holds r o ≡ true → holders rs o ≡ 0
none_else r [] o e h = refl
none_else r (s ∷ ss) o e h =
    let (first, rest) = both (apart r s) (apart_from r ss) e in
    let p : holds s o ≡ false = not_both r s o first h in
    let q : holders ss o ≡ 0 = none_else r ss o rest h in
    rw (p, q)

one_holder : (rs : List Row) (o : ℕ) → all_apart rs ≡ true → holders rs o ≤ 1
one_holder [] o e = omega arith
one_holder (r ∷ rs) o e =
    let (first, rest) = both (apart_from r rs) (all_apart rs) e in
    go (holds r o) refl first (one_holder rs o rest)
  where
    go : (b : Bool) → holds r o ≡ b → apart_from r rs ≡ true → holders rs o ≤ 1 → bool_byte b + holders rs o ≤ 1
    go true h f l = let q = none_else r rs o f h in omega arith
    go false h f l = omega arith

-- no offset has two registers
pub one_register : (o : ℕ) → holders map o ≤ 1
one_register o = one_holder map o refl

-- so the row that holds it decides
apart-at : (r s : Row) (rs : List Row) (k : ℕ) → slice_get rs k ≡ Some s → apart_from r rs ≡ true → apart r s ≡ true
apart-at r s [] k h e = cc
apart-at r s (t ∷ ts) zero h e = let z : t ≡ s = cc in rw (← z) (both (apart r t) _ e).0
apart-at r s (t ∷ ts) (suc k) h e = apart-at r s ts k h (both (apart r t) _ e).1

holder_decides : (d : Direction) (o : ℕ) (w : AccessWidth) (rs : List Row) (k : ℕ) (s : Row) → slice_get rs k ≡ Some s → all_apart rs ≡ true
    → holds s o ≡ true → lookup d rs o w ≡ row_access d s o w
holder_decides d o w [] k s h e t = cc
holder_decides d o w (r ∷ rs) zero s h e t = let z : r ≡ s = cc in rw (z, t)
holder_decides d o w (r ∷ rs) (suc k) s h e t =
    let (first, rest) = both (apart_from r rs) (all_apart rs) e in
    let other : holds r o ≡ false = refuted _ (λ u. let no = not_both r s o (apart-at r s rs k h first) u in let z : ◌≡◌ {A = ℕ} 0 1 = cc in omega arith) in
    rw other (holder_decides d o w rs k s h rest t)

-- ---- a bank's INTIDs, by its offset

pub width_bytes : (bytes_of Byte ≡ 1) × (bytes_of Word ≡ 2) × (bytes_of Dword ≡ 4) × (bytes_of Qword ≡ 8)
width_bytes = (refl, refl, refl, refl)

in_row_lem : (from end every o : ℕ) → from ≤ o → o < end → (o - from) % every ≡ 0 → in_row from end every o ≡ true
in_row_lem from end every o l h e = simp (le-leb from o l, lt-ltb o end h, eq-eqb ((o - from) % every) 0 e)

-- the width of so many bytes is the one that has them; no other number of bytes is a width's
pub width_only : (n : ℕ) (w : AccessWidth) → width_of n ≡ Some w ↔ bytes_of w ≡ n
width_only n w = ((λ e. only n e), (λ e. subst (λ (m : ℕ). width_of m ≡ Some w) e (there w)))
  where
    there : (v : AccessWidth) → width_of (bytes_of v) ≡ Some v
    there Byte = refl
    there Word = refl
    there Dword = refl
    there Qword = refl

    only : (m : ℕ) → width_of m ≡ Some w → bytes_of w ≡ m
    only m e = go (eqb m 1) (eqb m 2) (eqb m 4) (eqb m 8) refl refl refl refl e
      where
        go : (a b c d : Bool) → eqb m 1 ≡ a → eqb m 2 ≡ b → eqb m 4 ≡ c → eqb m 8 ≡ d
            → cond a (Some Byte) (cond b (Some Word) (cond c (Some Dword) (cond d (Some Qword) None))) ≡ Some w → bytes_of w ≡ m
        go true b c d p q r s h = let z : Byte ≡ w = cc in rw (← z) (sym (eqb-true m 1 p))
        go false true c d p q r s h = let z : Word ≡ w = cc in rw (← z) (sym (eqb-true m 2 q))
        go false false true d p q r s h = let z : Dword ≡ w = cc in rw (← z) (sym (eqb-true m 4 r))
        go false false false true p q r s h = let z : Qword ≡ w = cc in rw (← z) (sym (eqb-true m 8 s))
        go false false false false p q r s h = cc

-- the seven flag banks follow each other from 0x80 on, 32 words each, a bit for each INTID
abbrev pub flag_bank : ℕ → Bank
flag_bank j = get_or ((Replace Group) ∷ (Set Enabled) ∷ (Clear Enabled) ∷ (Set Pending) ∷ (Clear Pending) ∷ (Set Active) ∷ (Clear Active) ∷ []) j (Replace Group)

pub flag_intids : (d : Direction) (k : ℕ) → k < 224 → lookup d map (0x80 + 4 * k) Dword ≡ Ok (Fields (flag_bank (k / 32)) (32 * (k % 32)) 32)
flag_intids Reading = everywhere (λ k. lookup Reading map (0x80 + 4 * k) Dword) (λ k. Ok (Fields (flag_bank (k / 32)) (32 * (k % 32)) 32)) 224 refl
flag_intids Writing = everywhere (λ k. lookup Writing map (0x80 + 4 * k) Dword) (λ k. Ok (Fields (flag_bank (k / 32)) (32 * (k % 32)) 32)) 224 refl

-- IPRIORITYR has a byte for each INTID: an access of any width covers one INTID a byte
pub ipriorityr_intids : (d : Direction) (w : AccessWidth) (i : ℕ) → i < 1020 → lookup d map (0x400 + i) w ≡ Ok (Fields (Replace Priority) i (bytes_of w))
ipriorityr_intids d w i h =
    let inside : in_row 0x400 0x7fc 1 (0x400 + i) ≡ true = in_row_lem 0x400 0x7fc 1 (0x400 + i) (omega arith) (omega arith) (omega arith) in
    let at : (0x400 + i - 0x400) * 8 / 8 ≡ i = omega arith in
    let bytes : bytes_of w * 8 / 8 ≡ bytes_of w = omega arith in
    holder_decides d (0x400 + i) w map 11 _ refl refl inside ∙ taken d at bytes
  where
    taken : (e : Direction) {n m : ℕ} → n ≡ i → m ≡ bytes_of w
        → cond (takes (widths_for e any any) w) (Ok (Fields (Replace Priority) n m)) (Err InvalidWidth) ≡ Ok (Fields (Replace Priority) i (bytes_of w))
    taken Reading e f = rw (e, f)
    taken Writing e f = rw (e, f)

-- IROUTER has eight bytes
pub irouter_intids : (d : Direction) (i : ℕ) → i < 1020 → lookup d map (0x6000 + 8 * i) Qword ≡ Ok (Fields (Replace Field.Route) i 1)
irouter_intids d i h =
    let inside : in_row 0x6000 0x7fe0 1 (0x6000 + 8 * i) ≡ true = in_row_lem 0x6000 0x7fe0 1 (0x6000 + 8 * i) (omega arith) (omega arith) (omega arith) in
    let at : (0x6000 + 8 * i - 0x6000) * 8 / 64 ≡ i = omega arith in
    holder_decides d (0x6000 + 8 * i) Qword map 13 _ refl refl inside ∙ taken d at
  where
    taken : (e : Direction) {n : ℕ} → n ≡ i → cond (takes (widths_for e qword qword) Qword) (Ok (Fields (Replace Field.Route) n 1)) (Err InvalidWidth) ≡ Ok (Fields (Replace Field.Route) i 1)
    taken Reading e = rw e
    taken Writing e = rw e

-- ICFGR has 64 words, two bits for each INTID
pub icfgr_intids : (d : Direction) (k : ℕ) → k < 64 → lookup d map (0xc00 + 4 * k) Dword ≡ Ok (Fields (Replace Configuration) (16 * k) 16)
icfgr_intids Reading = everywhere (λ k. lookup Reading map (0xc00 + 4 * k) Dword) (λ k. Ok (Fields (Replace Configuration) (16 * k) 16)) 64 refl
icfgr_intids Writing = everywhere (λ k. lookup Writing map (0xc00 + 4 * k) Dword) (λ k. Ok (Fields (Replace Configuration) (16 * k) 16)) 64 refl
