-- A write that runs beyond the table has done its work inside it: it leaves the state of the same write without what lies beyond. Of
-- every bank, and wherever it is refused.
use Rattle.std.specs.Prelude.{ℕ, ◌+◌, ◌-◌, ◌*◌, ◌/◌, ◌%◌, ◌^◌, ◌≤◌, ◌<◌, min, ◌≡◌, refl, Bool, true, false, ◌&&◌, cond, List, [], leb, ltb, Ok, Err}
use Rattle.std.proofs.Common.{sym, ap, ◌∙◌, mod-lt, mul-le-mul_left, arith, leb-true, lt-ltb, le-ltb, pow_mono, pow_pos}
use Rattle.std.proofs.Math.Bool.{and-false}
use Rattle.std.proofs.Math.Logic.{by_cases}
use Rattle.std.proofs.Math.Decide.{dec_lt}
use Rattle.std.proofs.Math.Nat.{div-eq_of_lt, zero-mod}
use Rattle.std.proofs.lemmas.Bool.{lt-leb}
use Rattle.theory.specs.ListLaws.{passing_agree, passing_never}
use Rattle.theory.specs.MapAtLaws.{map_at_same}
use Rattle.identifiers.specs.Answer.{refused, told_refusal}
use Rattle.identifiers.specs.declared.error.Refusal.{Refusal}
use Rattle.identifiers.specs.declared.error.Refusal.TheVariants.{InvalidAccess, InvalidWidth, ShortList}
use Rattle.place.specs.Table.{in_table, beyond_table}
use Rattle.place.specs.TableLaws.{in_range}
use Rattle.controller.specs.Modes.{explicit}
use Rattle.bank.specs.declared.bank.Bank.{Bank}
use Rattle.bank.specs.Banks.{bits_of, field, write_refuses, refused_over}
use Rattle.bank.specs.FieldLaws.{pow-pow}
use Rattle.registers.specs.declared.register.AccessWidth.{AccessWidth}
use Rattle.registers.specs.declared.register.Direction.TheVariants.{Writing}
use Rattle.registers.specs.declared.register.Register.TheVariants.{Identification, Ctlr, Typer, Iidr, Fields, Reserved}
use Rattle.registers.specs.FrameLaws.{needs_another}
use Rattle.registers.specs.FrameMap.{register_there}
use Rattle.decoding.specs.Decoding.{write_access}
use Rattle.slot.specs.declared.slot.Slot.{Slot}
use Rattle.slot.specs.BankRule.{covers, bank_slot, bank_candidates, write_beyond}
use Rattle.model.specs.Calls.{Distributor, write, size, step, after_write, listing, listing_unless, write_reply, reply}
use Rattle.model.specs.WriteLaws.{field_cut}
use Rattle.model.specs.RefusedWhen.{misplaced, reached_at, decoded_at}
use Rattle.registers.specs.Registers.{Access}

-- of m fields from INTID lo on, those below the table's end
abbrev pub inside : Distributor → ℕ → ℕ → ℕ
inside d lo m = min m (32 + size d - lo)

-- a value without its fields from the table's end on
abbrev pub value_inside : Distributor → Bank → ℕ → ℕ → ℕ
value_inside d b lo v = v % 2 ^ (bits_of b * (32 + size d - lo))

module _ (d : Distributor) (b : Bank) (v lo m : ℕ) where
  abbrev e : Bool
  e = explicit d.config.spi_ownership

  abbrev n : ℕ
  n = size d

  -- the fields that a write has beyond the table are none of the table's SPIs'
  covers-inside : (i : ℕ) → covers n lo m i ≡ covers n lo (inside d lo m) i
  covers-inside i = go (leb lo i) (in_table n i) refl refl
    where
      same : lo ≤ i → i < 32 + n → ltb i (lo + m) ≡ ltb i (lo + inside d lo m)
      same low below =
          by_cases (dec_lt i (lo + m)) (λ h. lt-ltb i (lo + m) h ∙ sym (lt-ltb i (lo + inside d lo m) (omega arith)))
          (λ h. le-ltb i (lo + m) (omega arith) ∙ sym (le-ltb i (lo + inside d lo m) (omega arith)))

      go : (x y : Bool) → leb lo i ≡ x → in_table n i ≡ y → ((x && ltb i (lo + m)) && y) ≡ ((x && ltb i (lo + inside d lo m)) && y)
      go true true p q = ap (λ (t : Bool). t && true) (same (leb-true _ _ p) (in_range n i q).1)
      go true false p q = and-false (ltb i (lo + m)) ∙ sym (and-false (ltb i (lo + inside d lo m)))
      go false y p q = refl

  field-inside : (i : ℕ) → lo ≤ i → i < 32 + n → field b (value_inside d b lo v) lo i ≡ field b v lo i
  field-inside i low below = field_cut b (bits_of b * (32 + n - lo)) v lo i (32 + n - lo) (omega arith) low (omega arith)

  -- below the table's end no INTID is beyond it
  not_beyond : (i : ℕ) → i < 32 + n → beyond_table e n i ≡ false
  not_beyond i below = let z : leb (32 + n) i ≡ false = lt-leb (32 + n) i below in rw z (and-false e)

  slots_same : (v' m' : ℕ) → ((p : ℕ) (s : Slot) → bank_slot e n b v lo m (32 + p) s ≡ bank_slot e n b v' lo m' (32 + p) s) → after_write d (Ok (Fields b lo m)) v ≡ after_write d (Ok (Fields b lo m')) v'
  slots_same v' m' h =
      ap (λ (l : List Slot). record { config = d.config; switch = d.switch; count = d.count; slots = l })
      (map_at_same (λ p. bank_slot e n b v lo m (32 + p)) (λ p. bank_slot e n b v' lo m' (32 + p)) d.slots h)

  -- the state is that of the access to the fields inside alone
  pub work_inside : after_write d (Ok (Fields b lo m)) v ≡ after_write d (Ok (Fields b lo (inside d lo m))) v
  work_inside = slots_same v (inside d lo m) (λ p s. let z = covers-inside (32 + p) in rw z)

  -- which is not refused
  pub inside-granted : write_reply d (Ok (Fields b lo (inside d lo m))) v ≡ listing (bank_candidates e n b v lo (inside d lo m) d.slots)
  inside-granted = ap (λ (l : List ℕ). listing_unless l (bank_candidates e n b v lo (inside d lo m) d.slots)) none
    where
      none : write_beyond e n b v lo (inside d lo m) ≡ []
      none =
          passing_agree (refused_over e n b v lo) (λ i. false) lo (inside d lo m)
          (λ i low high. let z = not_beyond i (omega arith) in rw z (and-false (write_refuses b (field b v lo i))))
          ∙ passing_never (λ i. false) lo (inside d lo m) (λ i. refl)

  -- and that of the write whose fields beyond the table are 0
  pub value_inside_lem : after_write d (Ok (Fields b lo m)) v ≡ after_write d (Ok (Fields b lo m)) (value_inside d b lo v)
  value_inside_lem = slots_same (value_inside d b lo v) m (λ p s. go (32 + p) s (leb lo (32 + p)) (in_table n (32 + p)) refl refl)
    where
      go : (i : ℕ) (s : Slot) (x y : Bool) → leb lo i ≡ x → in_table n i ≡ y → bank_slot e n b v lo m i s ≡ bank_slot e n b (value_inside d b lo v) lo m i s
      go i s true true p q = let z = field-inside i (leb-true _ _ p) (in_range n i q).1 in rw z
      go i s true false p q = rw (q, and-false (leb lo i && ltb i (lo + m)))
      go i s false y p q = rw p

  -- which, in a flag bank, is not refused either: a 0 there does not act
  pub zeros_granted : write_refuses b 0 ≡ false → write_reply d (Ok (Fields b lo m)) (value_inside d b lo v) ≡ listing (bank_candidates e n b (value_inside d b lo v) lo m d.slots)
  zeros_granted idle = ap (λ (l : List ℕ). listing_unless l (bank_candidates e n b (value_inside d b lo v) lo m d.slots)) none
    where
      past : (i : ℕ) → lo ≤ i → 32 + n ≤ i → field b (value_inside d b lo v) lo i ≡ 0
      past i low beyond =
          let x = bits_of b in
          let k = x * (32 + n - lo) in
          let small : v % 2 ^ k < 2 ^ k = mod-lt v (pow_pos k) in
          let large : 2 ^ k ≤ 2 ^ (x * (i - lo)) = pow_mono (mul-le-mul_left x (omega arith)) in
          let none : v % 2 ^ k / 2 ^ (x * (i - lo)) ≡ 0 = div-eq_of_lt (omega arith) in
          rw (pow-pow x (i - lo), none) (zero-mod (2 ^ x))

      here : (i : ℕ) → lo ≤ i → refused_over e n b (value_inside d b lo v) lo i ≡ false
      here i low =
          by_cases (dec_lt i (32 + n)) (λ h. let z = not_beyond i h in rw z (and-false (write_refuses b (field b (value_inside d b lo v) lo i))))
          (λ h. let z = past i low (omega arith) in rw (z, idle))

      none : write_beyond e n b (value_inside d b lo v) lo m ≡ []
      none = passing_agree (refused_over e n b (value_inside d b lo v) lo) (λ i. false) lo m (λ i low high. here i low) ∙ passing_never (λ i. false) lo m (λ i. refl)

-- a write that is refused 1 reaches a bank, and leaves the state of a write that is done: of its fields inside the table
pub record DoneInside (d : Distributor) (offset : ℕ) (w : AccessWidth) (v places : ℕ) : Type 0 where
  pub bank : Bank
  pub lo : ℕ
  pub m : ℕ
  pub reaches : write_access places (size d) d.config.distributor_size offset w ≡ Ok (Fields bank lo m)
  pub state : step (write offset w v places) d ≡ after_write d (Ok (Fields bank lo (inside d lo m))) v
  pub granted : write_reply d (Ok (Fields bank lo (inside d lo m))) v ≡ listing (bank_candidates (explicit d.config.spi_ownership) (size d) bank v lo (inside d lo m) d.slots)

pub refused_inside : (d : Distributor) (offset : ℕ) (w : AccessWidth) (v places : ℕ) (ws : List ℕ) → (reply (write offset w v places) d).answer ≡ refused 1 ws → DoneInside d offset w v places
unfolding reply step
refused_inside d offset w v places ws e = go (write_access places (size d) d.config.distributor_size offset w) refl e
  where
    other : {A : Type 0} → ◌≡◌ {A = ℕ} 0 1 → A
    other z = absurd (omega arith)

    decoding : write_access places (size d) d.config.distributor_size offset w ≡ cond (ltb places (size d)) (Err ShortList) (reached_at Writing d.config.distributor_size offset w)
    decoding = ap (cond (ltb places (size d)) (Err ShortList)) (decoded_at Writing d.config.distributor_size offset w)

    -- refusals 5, 3 and 4 come before
    early : {A : Type 0} (s x y : Bool) (f : Refusal) → cond s (Err ShortList) (cond x (Err InvalidAccess) (cond y (Err InvalidWidth) (Ok (register_there offset w)))) ≡ Err f → told_refusal f ≡ refused 1 ws → A
    early true x y f p q = other cc
    early false true y f p q = other cc
    early false false true f p q = other cc
    early false false false f p q = other cc

    go : (a : Access) → write_access places (size d) d.config.distributor_size offset w ≡ a → (write_reply d a v).answer ≡ refused 1 ws → DoneInside d offset w v places
    go (Err f) p q = early (ltb places (size d)) (misplaced d.config.distributor_size offset w) (needs_another Writing offset w) f (sym decoding ∙ p) q
    go (Ok (Identification k)) p q = other cc
    go (Ok Ctlr) p q = other cc
    go (Ok Typer) p q = other cc
    go (Ok Iidr) p q = other cc
    go (Ok (Fields b lo m)) p q =
        record {
          bank = b;
          lo = lo;
          m = m;
          reaches = p;
          state = ap (λ (a : Access). after_write d a v) p ∙ work_inside d b v lo m;
          granted = inside-granted d b v lo m;
        }
    go (Ok Reserved) p q = other cc
