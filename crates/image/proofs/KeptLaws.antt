-- Laws of an SPI as it is kept: its bytes mean it, good bytes are those of what they mean, and every SPI that calls can reach has good
-- bytes.
use Rattle.std.specs.Prelude.{ℕ, ◌+◌, ◌*◌, ◌/◌, ◌%◌, ◌^◌, ◌<◌, refl, Bool, not, ◌&&◌, ◌||◌, List, [], ◌∷◌, ◌++◌, Option, Some, None, is_some, unwrap_or, IfSome}
use Rattle.std.proofs.Math.Path.{◌≡◌, ap}
use Rattle.std.proofs.Common.{sym, ◌∙◌, true≢false, div-one, arith, lit<}
use Rattle.std.proofs.Math.Bool.{true, false, cond}
use Rattle.std.proofs.lemmas.Bool.{false≢true}
use Rattle.std.proofs.Math.Nat.{div-div-eq-div-mul}
use Rattle.std.proofs.Math.Dec.{eqb}
use Rattle.std.proofs.Math.ListN.{get_or}
use mir.Val.{bool_byte}
use borrow.Author.Tests.{eqb-true, eq-eqb, not-true}
use Rattle.theory.specs.Bools.{both, bit_fits}
use Rattle.attributes.specs.declared.attributes.GicAffinity.{GicAffinity}
use Rattle.attributes.specs.declared.attributes.TriggerMode.{TriggerMode}
use Rattle.attributes.specs.declared.attributes.TriggerMode.TheVariants.{Edge, Level}
use Rattle.attributes.specs.Affinity.{affinity}
use Rattle.attributes.specs.AffinityLaws.{Bytes}
use Rattle.attributes.specs.States.{level_of}
use Rattle.identifiers.specs.declared.types.IntId.{IntId}
use Rattle.life.specs.declared.life.Life.{Life}
use Rattle.life.specs.Life.{flags, redelivery, line}
use Rattle.interrupt.specs.Records.{fresh, route_in, mask_in, restored}
use Rattle.operation.specs.Laws.{Settings, settings_of, record_path}
use Rattle.operation.specs.Tidy.{Tidy}
use Rattle.bank.specs.declared.bank.Bank.{Bank}
use Rattle.ownership.specs.declared.ownership.Ownership.{Ownership}
use Rattle.changes.specs.declared.change.Change.{Change}
use Rattle.changes.specs.declared.change.Change.TheVariants.{Claim, ClaimTo, Release, SetCpuTargetMask, SynchronizeInflight, Operate}
use Rattle.changes.specs.Changes.{happens, ownership_after, record_after}
use Rattle.slot.specs.declared.slot.Slot.{Slot}
use Rattle.slot.specs.Effects.{written}
use Rattle.slot.specs.Slots.{fresh_spi, field_written, changed}
use Rattle.slot.specs.SettingsLaws.{TypedChange, Stays}
use Rattle.slot.proofs.SettingsLaws.{field_keeps, change_keeps}
use Rattle.spi.specs.QuestionLaws.{record_intid, effect_intid}
use Rattle.image.specs.Bytes.{byte_of, bytes_of}
use Rattle.image.specs.ByteLaws.{bytes_listed}
use Rattle.image.specs.BitLaws.{flagged, flag_at, flag_back, past_flags, flags_fit, flags-apart, flags_of}
use Rattle.image.specs.Kept.{claimed_in, fixed_in, routed_in, masked_in, slot_in, good_word, life_word, edge_bit, route_word, mask_word, route_in_word, mask_in_word, word_of}
use Rattle.image.specs.Meaning.{meant}
use Rattle.image.specs.KeptLaws.{Held, first_flags, second_flags, mask_kept, route_kept}

-- six flags are under 2 ^ 6
pub life_fits : (f : Life) → life_word f < 64
life_fits f =
    omega (arith, bit_fits f.enabled, bit_fits f.pending, bit_fits f.active, bit_fits f.inflight, bit_fits (redelivery f), bit_fits (line f))

-- ---- the word of an SPI: eleven flags, and the values above them

abbrev marks : Slot → List Bool
marks s = first_flags s ++ second_flags s

abbrev levels : GicAffinity → ℕ
levels a = a.aff0 + 2 ^ 8 * a.aff1 + 2 ^ 16 * a.aff2 + 2 ^ 24 * a.aff3

abbrev no_levels : GicAffinity
no_levels = affinity 0 0 0 0

-- five spare bits, the priority, the target mask and the affinity
abbrev values : Slot → ℕ
values s = 2 ^ 5 * (s.interrupt.priority.0 + 2 ^ 8 * (mask_kept s + 2 ^ 8 * levels (route_kept s)))

edge_laid : (t : TriggerMode) → edge_bit t ≡ bool_byte (not (level_of t))
edge_laid Edge = refl
edge_laid Level = refl

route_laid : (r : Option GicAffinity) → route_word r ≡ 2 ^ 9 * bool_byte (is_some r) + 2 ^ 32 * levels (unwrap_or r no_levels)
route_laid (Some a) = omega arith
route_laid None = refl

mask_laid : (m : Option ℕ) → mask_word m ≡ 2 ^ 10 * bool_byte (is_some m) + 2 ^ 24 * unwrap_or m 0
mask_laid (Some m) = omega arith
mask_laid None = refl

word-laid : (s : Slot) → word_of s ≡ flagged (marks s) (values s)
unfolding word_of route_in mask_in
word-laid s =
    let r = s.interrupt in
    rw (mask_laid r.cpu_target_mask, route_laid r.route, edge_laid r.trigger) (omega arith)

-- ---- a value that is present or not

module _ {A : Type 0} where
  -- it is what is read: whether it is present, and its value, or another where it is absent
  read_back : (o : Option A) (z : A) → cond (is_some o) (Some (unwrap_or o z)) None ≡ o
  read_back (Some a) z = refl
  read_back None z = refl

  -- what is read is present where the flag says so
  is_there : (b : Bool) (a : A) → is_some (cond b (Some a) None) ≡ b
  is_there true a = refl
  is_there false a = refl

  -- and what holds of the value holds of it
  if_there : (P : A → Type 0) (b : Bool) (a : A) → P a → IfSome (cond b (Some a) None) P
  if_there P true a h = h
  if_there P false a h = tt

  -- its number is that of the value, if it is 0 where it is absent
  number_there : (f : A → ℕ) (z : A) (b : Bool) (a : A) → (b ≡ false → f a ≡ f z) → f (unwrap_or (cond b (Some a) None) z) ≡ f a
  number_there f z true a h = refl
  number_there f z false a h = sym (h refl)

  absent_zero : (f : A → ℕ) (z : A) (o : Option A) → f z ≡ 0 → (is_some o || eqb (f (unwrap_or o z)) 0) ≡ true
  absent_zero f z (Some a) h = refl
  absent_zero f z None h = eq-eqb (f z) 0 h

  -- what holds of each value and of the other holds of what is kept
  with_default : (P : A → Type 0) (z : A) (o : Option A) → P z → IfSome o P → P (unwrap_or o z)
  with_default P z (Some a) h k = k
  with_default P z None h k = h

-- ---- the bytes of an SPI

-- a number that is 0 unless a flag is set; a flag that brings another with it
or_zero : (b : Bool) (n : ℕ) → (b || eqb n 0) ≡ true → b ≡ false → n ≡ 0
or_zero true n h e = absurd (true≢false e)
or_zero false n h e = eqb-true n 0 h

or_else : (a b : Bool) → (a ≡ true → b ≡ true) → (not a || b) ≡ true
or_else true b h = h refl
or_else false b h = refl

else_or : (a b : Bool) → (not a || b) ≡ true → a ≡ true → b ≡ true
else_or true b h e = h
else_or false b h e = absurd (false≢true e)

-- the affinity in bytes 4 to 7
abbrev bytes_in : ℕ → GicAffinity
bytes_in w = affinity (byte_of 7 w) (byte_of 6 w) (byte_of 5 w) (byte_of 4 w)

edge_set : (b : Bool) → not (level_of (cond b Edge Level)) ≡ b
edge_set true = refl
edge_set false = refl

edge_back : (t : TriggerMode) → cond (not (level_of t)) Edge Level ≡ t
edge_back Edge = refl
edge_back Level = refl

low_byte : (w a x : ℕ) → w ≡ a + 256 * x → a < 256 → w % 256 ≡ a
low_byte w a x e h = omega arith

next_byte : (w a b v x : ℕ) → w ≡ a + 256 * x → a < 256 → x ≡ b + 8 * (32 * v) → b < 8 → w / 256 % 256 ≡ b
next_byte w a b v x e h f g = omega arith

module _ (raw : ℕ) (s : Slot) (h : Held raw s) where
  laid : word_of s ≡ flagged (marks s) (values s)
  laid = word-laid s

  mark : (j : ℕ) → j < 11 → flag_at (word_of s) j ≡ get_or (marks s) j false
  mark j p = rw laid (flag_back (marks s) (values s) j p)

  above : word_of s / 2 ^ 11 ≡ values s
  above = rw laid (past_flags (marks s) (values s))

  priority_there : byte_of 2 (word_of s) ≡ s.interrupt.priority.0
  priority_there = omega (arith, above)

  mask_fits : mask_kept s < 256
  mask_fits = with_default (λ m. m < 256) 0 s.interrupt.cpu_target_mask (omega arith) h.mask

  mask_there : byte_of 3 (word_of s) ≡ mask_kept s
  mask_there = omega (arith, above, mask_fits)

  levels_there : word_of s / 2 ^ 32 ≡ levels (route_kept s)
  levels_there = omega (arith, above, mask_fits)

  levels_fit : Bytes (route_kept s)
  levels_fit = with_default Bytes no_levels s.interrupt.route (record { byte3 = omega arith; byte2 = omega arith; byte1 = omega arith; byte0 = omega arith }) h.route

  route_there : bytes_in (word_of s) ≡ route_kept s
  route_there =
      let w = word_of s in
      let a = route_kept s in
      let p3 : byte_of 7 w ≡ a.aff3 = omega (arith, levels_there, levels_fit) in
      let p2 : byte_of 6 w ≡ a.aff2 = omega (arith, levels_there, levels_fit) in
      let p1 : byte_of 5 w ≡ a.aff1 = omega (arith, levels_there, levels_fit) in
      let p0 : byte_of 4 w ≡ a.aff0 = omega (arith, levels_there, levels_fit) in
      λ k. affinity (p3 k) (p2 k) (p1 k) (p0 k)

  -- the bytes of an SPI mean that SPI
  pub slot_of_word : slot_in raw (word_of s) ≡ s
  unfolding slot_in restored
  slot_of_word =
      let r = s.interrupt in
      let bit : (j : ℕ) → j < 11 → flag_at (word_of s) j ≡ get_or (marks s) j false = mark in
      let life : ◌≡◌ {A = Life} _ r.life = λ k. flags (bit 0 (lit< tt) k) (bit 1 (lit< tt) k) (bit 2 (lit< tt) k) (bit 3 (lit< tt) k) (bit 4 (lit< tt) k) (bit 5 (lit< tt) k) in
      let trigger : _ ≡ r.trigger = ap (λ (b : Bool). cond b Edge Level) (bit 6 (lit< tt)) ∙ edge_back r.trigger in
      let route : route_in_word (word_of s) ≡ r.route = (λ k. cond (bit 9 (lit< tt) k) (Some (route_there k)) None) ∙ read_back r.route no_levels in
      let mask : mask_in_word (word_of s) ≡ r.cpu_target_mask = (λ k. cond (bit 10 (lit< tt) k) (Some (mask_there k)) None) ∙ read_back r.cpu_target_mask 0 in
      let interrupt = record_path _ r (sym h.intid) life (λ k. (record { 0 = priority_there k }, trigger k, route k, mask k)) in
      λ k. record { interrupt = interrupt k; ownership = record { explicitly_owned = bit 7 (lit< tt) k; fixed_route = bit 8 (lit< tt) k } }

  -- and are good
  pub word_good : good_word (word_of s) ≡ true
  unfolding good_word
  word_good =
      let r = s.interrupt in
      let o = s.ownership in
      let spare : eqb (word_of s / 2 ^ 11 % 32) 0 ≡ true = eq-eqb (word_of s / 2 ^ 11 % 32) 0 (omega (arith, above)) in
      let unrouted : (is_some r.route || eqb (levels (route_kept s)) 0) ≡ true = absent_zero levels no_levels r.route refl in
      let unmasked : (is_some r.cpu_target_mask || eqb (mask_kept s) 0) ≡ true = absent_zero (λ m. m) 0 r.cpu_target_mask refl in
      let claimed : (not o.fixed_route || o.explicitly_owned) ≡ true = or_else o.fixed_route _ h.fixed in
      simp (spare, mark 7 (lit< tt), mark 8 (lit< tt), mark 9 (lit< tt), mark 10 (lit< tt), levels_there, mask_there, h.tidy, claimed, unrouted, unmasked)

  -- 8 bytes are enough for them
  pub word_fits : word_of s < 2 ^ 64
  word_fits = omega (arith, above, mask_fits, levels_fit)

  -- byte by byte: two bytes of flags, the priority, the target mask, and the affinity levels 0 to 3
  pub record_bytes : let a = route_kept s in bytes_of 8 (word_of s)
      ≡ flagged (first_flags s) 0 ∷ flagged (second_flags s) 0 ∷ s.interrupt.priority.0 ∷ mask_kept s ∷ a.aff0 ∷ a.aff1 ∷ a.aff2 ∷ a.aff3 ∷ []
  record_bytes =
      let next = flagged (second_flags s) (values s) in
      let low : word_of s ≡ flagged (first_flags s) 0 + 256 * next = laid ∙ flags-apart (first_flags s) next in
      let high : next ≡ flagged (second_flags s) 0 + 8 * values s = flags-apart (second_flags s) (values s) in
      let one : byte_of 0 (word_of s) ≡ flagged (first_flags s) 0 = rw div-one (low_byte _ _ next low (flags_fit (first_flags s))) in
      let two : byte_of 1 (word_of s) ≡ flagged (second_flags s) 0 = next_byte _ _ _ _ next low (flags_fit (first_flags s)) high (flags_fit (second_flags s)) in
      bytes_listed 8 (word_of s)
      ∙ (λ k. one k ∷ two k ∷ priority_there k ∷ mask_there k ∷ (route_there k).aff0 ∷ (route_there k).aff1 ∷ (route_there k).aff2 ∷ (route_there k).aff3 ∷ [])

-- ---- good bytes

-- what good bytes are
record Good (w : ℕ) : Type 0 where
  spare : w / 2 ^ 11 % 32 ≡ 0
  apart : (routed_in w && masked_in w) ≡ false
  claimed : fixed_in w ≡ true → claimed_in w ≡ true
  unrouted : routed_in w ≡ false → w / 2 ^ 32 ≡ 0
  unmasked : masked_in w ≡ false → byte_of 3 w ≡ 0

good_parts : (w : ℕ) → good_word w ≡ true → Good w
unfolding good_word
good_parts w ok =
    let (p, unmasked) = both _ (masked_in w || eqb (byte_of 3 w) 0) ok in
    let (q, unrouted) = both _ (routed_in w || eqb (w / 2 ^ 32) 0) p in
    let (r, claimed) = both _ (not (fixed_in w) || claimed_in w) q in
    let (spare, apart) = both (eqb (w / 2 ^ 11 % 32) 0) _ r in
    record {
      spare = eqb-true _ 0 spare;
      apart = not-true _ apart;
      claimed = else_or (fixed_in w) _ claimed;
      unrouted = or_zero (routed_in w) _ unrouted;
      unmasked = or_zero (masked_in w) _ unmasked;
    }

-- four bytes make up a number of 32 bits
four_bytes : (n : ℕ) → n < 2 ^ 32 → n % 256 + 2 ^ 8 * (n / 256 % 256) + 2 ^ 16 * (n / 256 / 256 % 256) + 2 ^ 24 * (n / 256 / 256 / 256 % 256) ≡ n
four_bytes n h = omega arith

levels_in : (w : ℕ) → w < 2 ^ 64 → levels (bytes_in w) ≡ w / 2 ^ 32
levels_in w h =
    let p5 : w / 2 ^ 40 ≡ w / 2 ^ 32 / 256 = sym (div-div-eq-div-mul w (2 ^ 32) 256) in
    let p6 : w / 2 ^ 48 ≡ w / 2 ^ 40 / 256 = sym (div-div-eq-div-mul w (2 ^ 40) 256) in
    let p7 : w / 2 ^ 56 ≡ w / 2 ^ 48 / 256 = sym (div-div-eq-div-mul w (2 ^ 48) 256) in
    rw (p7, p6, p5) (four_bytes (w / 2 ^ 32) (omega arith))

-- and two bytes and what is above them a number that is 0 in its low five bits
spare_zero : (n : ℕ) → n % 32 ≡ 0 → 2 ^ 5 * (n / 32 % 256 + 2 ^ 8 * (n / 32 / 256 % 256 + 2 ^ 8 * (n / 32 / 256 / 256))) ≡ n
spare_zero n h = omega arith

values_in : (w : ℕ) → w / 2 ^ 11 % 32 ≡ 0 → 2 ^ 5 * (byte_of 2 w + 2 ^ 8 * (byte_of 3 w + 2 ^ 8 * (w / 2 ^ 32))) ≡ w / 2 ^ 11
values_in w h =
    let p2 : w / 2 ^ 16 ≡ w / 2 ^ 11 / 32 = sym (div-div-eq-div-mul w (2 ^ 11) 32) in
    let p3 : w / 2 ^ 24 ≡ w / 2 ^ 16 / 256 = sym (div-div-eq-div-mul w (2 ^ 16) 256) in
    let p4 : w / 2 ^ 32 ≡ w / 2 ^ 24 / 256 = sym (div-div-eq-div-mul w (2 ^ 24) 256) in
    rw (p4, p3, p2) (spare_zero (w / 2 ^ 11) h)

-- good bytes mean an SPI that an image can keep
pub held_in : (raw w : ℕ) → good_word w ≡ true → Held raw (slot_in raw w)
unfolding slot_in restored
held_in raw w ok =
    let g = good_parts w ok in
    record {
      intid = refl;
      tidy = rw (is_there (routed_in w) (bytes_in w), is_there (masked_in w) (byte_of 3 w)) g.apart;
      priority = omega arith;
      mask = if_there (λ m. m < 256) (masked_in w) (byte_of 3 w) (omega arith);
      route = if_there Bytes (routed_in w) (bytes_in w) (record { byte3 = omega arith; byte2 = omega arith; byte1 = omega arith; byte0 = omega arith });
      fixed = g.claimed;
    }

-- and are the bytes of what they mean
pub word_of_slot : (raw w : ℕ) → w < 2 ^ 64 → good_word w ≡ true → word_of (slot_in raw w) ≡ w
unfolding slot_in restored
word_of_slot raw w fits ok =
    let s = slot_in raw w in
    let g = good_parts w ok in
    let edge = edge_set (flag_at w 6) in
    let routed = is_there (routed_in w) (bytes_in w) in
    let masked = is_there (masked_in w) (byte_of 3 w) in
    let all = levels_in w fits in
    let route : levels (route_kept s) ≡ w / 2 ^ 32 = number_there levels no_levels (routed_in w) (bytes_in w) (λ e. all ∙ g.unrouted e) ∙ all in
    let mask : mask_kept s ≡ byte_of 3 w = number_there (λ m. m) 0 (masked_in w) (byte_of 3 w) g.unmasked in
    let above : values s ≡ w / 2 ^ 11 = rw (route, mask) (values_in w g.spare) in
    word-laid s
    ∙ (λ k. flagged (flag_at w 0 ∷ flag_at w 1 ∷ flag_at w 2 ∷ flag_at w 3 ∷ flag_at w 4 ∷ flag_at w 5 ∷ edge k ∷ flag_at w 7 ∷ flag_at w 8 ∷ routed k ∷ masked k ∷ []) (above k))
    ∙ sym (flags_of w 11)

-- ---- an SPI that an image can keep stays one

-- what is held of the settings
abbrev HeldSettings : Settings → Type 0
HeldSettings s = Tidy s × (s.0.0 < 256) × IfSome s.3 (λ m. m < 256) × IfSome s.2 Bytes

held_stays : Stays HeldSettings
held_stays =
    record {
      priority = λ p s h ok. (ok.0, h, ok.2, ok.3);
      trigger = λ t s ok. ok;
      route = λ a s h ok. (refl, ok.1, tt, h);
      unroute = λ s ok. (refl, ok.1, ok.2, tt);
      mask = λ m s h ok. (refl, ok.1, h, tt);
    }

held_with : {raw : ℕ} (s : Slot) → s.interrupt.intid ≡ IntId.Spi (record { 0 = raw }) → HeldSettings (settings_of s.interrupt)
    → (s.ownership.fixed_route ≡ true → s.ownership.explicitly_owned ≡ true) → Held raw s
held_with s i k f = record { intid = i; tidy = k.0; priority = k.1; mask = k.2; route = k.3; fixed = f }

-- a new SPI is one
pub held-fresh : (raw : ℕ) → Held raw (fresh_spi raw)
unfolding fresh
held-fresh raw = held_with (fresh_spi raw) refl (refl, omega arith, tt, tt) (λ e. absurd (false≢true e))

-- what a record of an image means is one, be its bytes good or not
pub meant-held : (raw w : ℕ) → Held raw (meant raw w)
unfolding meant
meant-held raw w = go (good_word w) refl
  where
    go : (b : Bool) → good_word w ≡ b → Held raw (cond b (slot_in raw w) (fresh_spi raw))
    go true e = held_in raw w e
    go false e = held-fresh raw

-- good bytes mean what they say
pub meant-good : (raw w : ℕ) → good_word w ≡ true → meant raw w ≡ slot_in raw w
unfolding meant
meant-good raw w ok = rw ok

-- and the bytes of an SPI that SPI
pub meant_word : (raw : ℕ) (s : Slot) → Held raw s → meant raw (word_of s) ≡ s
meant_word raw s h = meant-good raw (word_of s) (word_good raw s h) ∙ slot_of_word raw s h

held-settings : {raw : ℕ} (s : Slot) → Held raw s → HeldSettings (settings_of s.interrupt)
held-settings s h = (h.tidy, h.priority, h.mask, h.route)

-- a written field leaves one
pub held-written : (raw : ℕ) (e : Bool) (b : Bank) (v : ℕ) (s : Slot) → Held raw s → Held raw (field_written e b v s)
held-written raw e b v s h =
    held_with (field_written e b v s) (effect_intid (written e s.ownership b v).effect s.interrupt ∙ h.intid)
    (field_keeps HeldSettings held_stays s (held-settings s h) e b v)
    h.fixed

claim_kept : (h : Change) (o : Ownership) → (o.fixed_route ≡ true → o.explicitly_owned ≡ true)
    → (ownership_after h o).fixed_route ≡ true → (ownership_after h o).explicitly_owned ≡ true
claim_kept Claim o f e = refl
claim_kept (ClaimTo a) o f e = refl
claim_kept Release o f e = e
claim_kept (SetCpuTargetMask m) o f e = f e
claim_kept (SynchronizeInflight t) o f e = f e
claim_kept (Operate x) o f e = f e

-- and so does a change of the host
pub held-changed : (raw : ℕ) (x : Change) (s : Slot) → TypedChange x → Held raw s → Held raw (changed x s)
held-changed raw x s t h =
    held_with (changed x s) (intid (happens x s.ownership)) (change_keeps HeldSettings held_stays s (held-settings s h) x t) (fixed (happens x s.ownership))
  where
    after : Slot
    after = record { interrupt = record_after x s.interrupt; ownership = ownership_after x s.ownership }

    intid : (b : Bool) → (cond b after s).interrupt.intid ≡ IntId.Spi (record { 0 = raw })
    intid true = record_intid x s.interrupt ∙ h.intid
    intid false = h.intid

    fixed : (b : Bool) → (cond b after s).ownership.fixed_route ≡ true → (cond b after s).ownership.explicitly_owned ≡ true
    fixed true = claim_kept x s.ownership h.fixed
    fixed false = h.fixed

-- a new SPI is kept as the default priority, 0x80 in byte 2, and nothing else
pub word-fresh : (raw : ℕ) → word_of (fresh_spi raw) ≡ 2 ^ 23
unfolding word_of fresh route_in mask_in
word-fresh raw = refl
