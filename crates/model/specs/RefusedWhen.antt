-- When a call is refused, and with what, in the paper's words and in its order. Each law is an equation: it says when a refusal is given
-- and when it is not.
use Rattle.std.specs.Prelude.{ℕ, zero, suc, ◌+◌, ◌-◌, ◌*◌, ◌/◌, ◌%◌, ◌^◌, ◌≤◌, ◌≡◌, Bool, not, ◌&&◌, ◌||◌, ◌↔◌, leb, ltb, eqb, Ok, Err}
use Rattle.std.proofs.Math.Path.{refl, ap}
use Rattle.std.proofs.Common.{sym, ◌∙◌, arith, lt-ltb, le-ltb, le-leb}
use Rattle.std.proofs.Math.Bool.{true, false, cond}
use mathlib.Core.List.{List, [], ◌∷◌}
use Rattle.std.proofs.Math.Logic.{by_cases}
use Rattle.std.proofs.Math.Decide.{dec_lt}
use Rattle.std.proofs.lemmas.Bool.{lt-leb}
use Rattle.theory.specs.Lists.{passing}
use Rattle.theory.specs.ListLaws.{passing_same, passing_never}
use Rattle.identifiers.specs.Answer.{Answer, done, refused, within, unless}
use Rattle.identifiers.specs.declared.error.Refusal.TheVariants.{InvalidAccess, InvalidWidth, ShortList}
use Rattle.place.specs.Table.{in_table, beyond_table}
use Rattle.controller.specs.Modes.{explicit}
use Rattle.bank.specs.declared.bank.Bank.TheVariants.{Replace}
use Rattle.bank.specs.declared.bank.Field.{Field}
use Rattle.bank.specs.Banks.{read_refuses, refused_over}
use Rattle.registers.specs.declared.register.AccessWidth.{AccessWidth}
use Rattle.registers.specs.declared.register.Direction.{Direction}
use Rattle.registers.specs.declared.register.Direction.TheVariants.{Reading, Writing}
use Rattle.registers.specs.declared.register.Register.{Register}
use Rattle.registers.specs.declared.register.Register.TheVariants.{Identification, Ctlr, Typer, Iidr, Fields, Reserved}
use Rattle.registers.specs.Registers.{Access, bytes_of, map, lookup}
use Rattle.registers.specs.MapLaws.{flag_bank}
use Rattle.registers.specs.FrameLaws.{words, in_words, needs_another, reached}
use Rattle.registers.specs.FrameMap.{register_there, flags_there, ipriorityr_there, icfgr_there}
use Rattle.registers.proofs.FrameLaws.{width_decides}
use Rattle.registers.proofs.FrameMap.{register_there_lem}
use Rattle.decoding.specs.Decoding.{legal, decode}
use Rattle.decoding.proofs.RefusalLaws.{decoded}
use Rattle.slot.specs.declared.slot.Slot.{Slot}
use Rattle.slot.specs.BankRule.{slot_of, read_beyond, write_beyond}
use Rattle.changes.specs.declared.change.Change.{Change}
use Rattle.changes.specs.declared.change.Change.TheVariants.{Claim, ClaimTo, Release, SetCpuTargetMask, SynchronizeInflight, Operate}
use Rattle.spi.specs.ChangeAnswers.{claim_answer, change_answer}
use Rattle.model.specs.Calls.{Distributor, Call, create, read, write, is_switched_on, rollback, change, ask, size, listing_unless, read_reply, write_reply, reply}

-- an answer without its values
abbrev pub verdict : Answer → Answer
verdict (done vs) = done []
verdict (refused r c) = refused r c

-- ---- the paper's conditions

-- 3: offset plus width passes the frame size, or the offset is no multiple of the width
abbrev pub misplaced : ℕ → ℕ → AccessWidth → Bool
misplaced frame o w = ltb frame (o + bytes_of w) || not (eqb (o % bytes_of w) 0)

module _ (explicit : Bool) (n : ℕ) where
  -- 1: the INTIDs beyond the table that an access to IPRIORITYR or ICFGR covers, ascending
  abbrev pub covered_beyond : ℕ → AccessWidth → List ℕ
  covered_beyond o w =
      cond (within 0x400 0x7fc o) (passing (beyond_table explicit n) (o - 0x400) (bytes_of w))
      (cond (words 0xc00 0xd00 o) (passing (beyond_table explicit n) ((o - 0xc00) * 4) (bytes_of w * 4))
      [])

  -- and those whose bit is 1 in a flag write, IGROUPR's apart: a bit for each INTID, 0x80 bytes a bank
  abbrev pub set_beyond : ℕ → AccessWidth → ℕ → List ℕ
  set_beyond o w v = let lo = o % 0x80 * 8 in passing (λ i. eqb (v / 2 ^ (i - lo) % 2) 1 && beyond_table explicit n i) lo (bytes_of w * 8)

  abbrev pub written_beyond : ℕ → AccessWidth → ℕ → List ℕ
  written_beyond o w v = cond (words 0x100 0x400 o) (set_beyond o w v) (covered_beyond o w)

-- 1: a host call on a number under 32, or at or above 32 + n
abbrev pub no_spi : ℕ → ℕ → Bool
no_spi n raw = ltb raw 32 || leb (32 + n) raw

-- 2: a claim of an SPI that is claimed already
abbrev pub claims : Change → Bool
claims Claim = true
claims (ClaimTo a) = true
claims Release = false
claims (SetCpuTargetMask m) = false
claims (SynchronizeInflight t) = false
claims (Operate x) = false

-- ---- what is refused, call by call: a write tests 5, 3, 4 and 1, a read 3, 4 and 1, a claim 1 and 2

module _ (d : Distributor) where
  abbrev pub refusal_of : Call → Answer
  refusal_of (create c m) = cond (ltb 988 m) (refused 1 (1020 ∷ [])) (done [])
  refusal_of (read o w) =
      cond (misplaced d.config.distributor_size o w) (refused 3 [])
      (cond (needs_another Reading o w) (refused 4 [])
      (unless (covered_beyond (explicit d.config.spi_ownership) (size d) o w) (done [])))
  refusal_of (write o w v places) =
      cond (ltb places (size d)) (refused 5 [])
      (cond (misplaced d.config.distributor_size o w) (refused 3 [])
      (cond (needs_another Writing o w) (refused 4 [])
      (unless (written_beyond (explicit d.config.spi_ownership) (size d) o w v) (done []))))
  refusal_of is_switched_on = done []
  refusal_of (rollback on) = done []
  refusal_of (change h raw) =
      cond (no_spi (size d) raw) (refused 1 (raw ∷ []))
      (cond (claims h && (slot_of d.slots raw).ownership.explicitly_owned) (refused 2 [])
      (done []))
  refusal_of (ask q raw) = cond (no_spi (size d) raw) (refused 1 (raw ∷ [])) (done [])

-- ---- the access

-- 3 before 4; an access that is neither reaches what lies there
abbrev pub reached_at : Direction → ℕ → ℕ → AccessWidth → Access
reached_at d frame o w =
    cond (misplaced frame o w) (Err InvalidAccess) (cond (needs_another d o w) (Err InvalidWidth) (Ok (register_there o w)))

ltb_not : (a b : ℕ) → ltb a b ≡ not (leb b a)
ltb_not a b =
    by_cases (dec_lt a b) (λ h. lt-ltb a b h ∙ (rw (lt-leb b a h))) (λ h. le-ltb a b (omega arith) ∙ (let z : leb b a ≡ true = le-leb b a (omega arith) in rw z))

legal_not : (frame o : ℕ) (w : AccessWidth) → legal frame o w ≡ not (misplaced frame o w)
legal_not frame o w = go (leb (o + bytes_of w) frame) (eqb (o % bytes_of w) 0) (ltb_not frame (o + bytes_of w))
  where
    go : (x y : Bool) → ltb frame (o + bytes_of w) ≡ not x → (x && y) ≡ not (ltb frame (o + bytes_of w) || not y)
    go true true e = rw e
    go true false e = rw e
    go false y e = rw e

pub decoded_at : (d : Direction) (frame o : ℕ) (w : AccessWidth) → decode d frame o w ≡ reached_at d frame o w
unfolding decode
decoded_at d frame o w = decoded d frame o w ∙ go (misplaced frame o w) (needs_another d o w) (legal_not frame o w) refl
  where
    there : needs_another d o w ≡ false → reached (lookup d map o w) ≡ register_there o w
    there h = register_there_lem d o w (reached (lookup d map o w)) (width_decides d o w ∙ (rw h))

    go : (x y : Bool) → legal frame o w ≡ not x → needs_another d o w ≡ y
        → cond (legal frame o w) (cond y (Err InvalidWidth) (Ok (reached (lookup d map o w)))) (Err InvalidAccess)
        ≡ cond x (Err InvalidAccess) (cond y (Err InvalidWidth) (Ok (register_there o w)))
    go true y e f = rw e
    go false true e f = rw e
    go false false e f = rw e (ap Ok (there f))

-- ---- what is refused beyond the table

module _ (e : Bool) (n : ℕ) where
  -- what a read, and a write, of a register is refused over
  read_over : Register → List ℕ
  read_over (Identification k) = []
  read_over Ctlr = []
  read_over Typer = []
  read_over Iidr = []
  read_over (Fields b lo m) = read_beyond e n b lo m
  read_over Reserved = []

  write_over : ℕ → Register → List ℕ
  write_over v (Identification k) = []
  write_over v Ctlr = []
  write_over v Typer = []
  write_over v Iidr = []
  write_over v (Fields b lo m) = write_beyond e n b v lo m
  write_over v Reserved = []

  flag_reads : (j lo m : ℕ) → read_beyond e n (flag_bank j) lo m ≡ []
  flag_reads j lo m = passing_never (λ i. read_refuses (flag_bank j) && beyond_table e n i) lo m (λ i. let z = never j in rw z)
    where
      never : (k : ℕ) → read_refuses (flag_bank k) ≡ false
      never zero = refl
      never (suc zero) = refl
      never (suc (suc zero)) = refl
      never (suc (suc (suc zero))) = refl
      never (suc (suc (suc (suc zero)))) = refl
      never (suc (suc (suc (suc (suc zero))))) = refl
      never (suc (suc (suc (suc (suc (suc zero)))))) = refl
      never (suc (suc (suc (suc (suc (suc (suc k))))))) = refl

  -- the six banks after IGROUPR refuse over each bit that is 1
  flag_writes : (j v lo : ℕ) → 1 ≤ j → j ≤ 6 → (i : ℕ) → refused_over e n (flag_bank j) v lo i ≡ (eqb (v / 2 ^ (i - lo) % 2) 1 && beyond_table e n i)
  flag_writes zero v lo low high i = absurd (omega arith)
  flag_writes (suc zero) v lo low high i = refl
  flag_writes (suc (suc zero)) v lo low high i = refl
  flag_writes (suc (suc (suc zero))) v lo low high i = refl
  flag_writes (suc (suc (suc (suc zero)))) v lo low high i = refl
  flag_writes (suc (suc (suc (suc (suc zero))))) v lo low high i = refl
  flag_writes (suc (suc (suc (suc (suc (suc zero)))))) v lo low high i = refl
  flag_writes (suc (suc (suc (suc (suc (suc (suc j))))))) v lo low high i = absurd (omega arith)

  module _ (o : ℕ) (w : AccessWidth) where
    read_over_lem : read_over (register_there o w) ≡ covered_beyond e n o w
    unfolding read_over
    read_over_lem = go (within 0x400 0x7fc o) (words 0xc00 0xd00 o) refl refl
      where
        others : (a b c d f g : Bool)
            → read_over
            (cond a (Identification ((o - 0xffd0) / 4)) (cond b Ctlr (cond c Typer (cond d Iidr
            (cond f (Fields (flag_bank ((o - 0x80) / 0x80)) (o % 0x80 * 8) (bytes_of w * 8)) (cond g (Fields (Replace Field.Route) ((o - 0x6000) / 8) (bytes_of w / 8)) Reserved))))))
            ≡ []
        others true b c d f g = refl
        others false true c d f g = refl
        others false false true d f g = refl
        others false false false true f g = refl
        others false false false false true g = flag_reads ((o - 0x80) / 0x80) (o % 0x80 * 8) (bytes_of w * 8)
        others false false false false false true = passing_never (λ i. false) ((o - 0x6000) / 8) (bytes_of w / 8) (λ i. refl)
        others false false false false false false = refl

        go : (x y : Bool) → within 0x400 0x7fc o ≡ x → words 0xc00 0xd00 o ≡ y
            → read_over (register_there o w) ≡ cond x (passing (beyond_table e n) (o - 0x400) (bytes_of w)) (cond y (passing (beyond_table e n) ((o - 0xc00) * 4) (bytes_of w * 4)) [])
        go true y p q = ap read_over (ipriorityr_there o w p)
        go false true p q = ap read_over (icfgr_there o w q)
        go false false p q = rw (p, q) (others (words 0xffd0 0x10000 o) (eqb o 0x0) (eqb o 0x4) (eqb o 0x8) (words 0x80 0x400 o) (within 0x6000 0x7fe0 o))

    write_over_lem : (v : ℕ) → write_over v (register_there o w) ≡ written_beyond e n o w v
    unfolding write_over
    write_over_lem v = go (words 0x100 0x400 o) (within 0x400 0x7fc o) (words 0xc00 0xd00 o) refl refl refl
      where
        none : (lo m : ℕ) → passing (λ i. false) lo m ≡ []
        none lo m = passing_never (λ i. false) lo m (λ i. refl)

        -- IGROUPR's words
        group : words 0x100 0x400 o ≡ false → words 0x80 0x400 o ≡ true → (o - 0x80) / 0x80 ≡ 0
        group h k =
            let (low, high, aligned) = (in_words 0x80 0x400 o).0 k in
            by_cases (dec_lt o 0x100) (λ l. omega arith) (λ l. let z : words 0x100 0x400 o ≡ true = (in_words 0x100 0x400 o).1 (omega arith, high, aligned) in let x : ◌≡◌ {A = ℕ} 0 1 = cc in absurd (omega arith))

        others : (a b c d f g : Bool) → words 0x100 0x400 o ≡ false → words 0x80 0x400 o ≡ f
            → write_over v
            (cond a (Identification ((o - 0xffd0) / 4)) (cond b Ctlr (cond c Typer (cond d Iidr
            (cond f (Fields (flag_bank ((o - 0x80) / 0x80)) (o % 0x80 * 8) (bytes_of w * 8)) (cond g (Fields (Replace Field.Route) ((o - 0x6000) / 8) (bytes_of w / 8)) Reserved))))))
            ≡ []
        others true b c d f g h k = refl
        others false true c d f g h k = refl
        others false false true d f g h k = refl
        others false false false true f g h k = refl
        others false false false false true g h k = let z = group h k in rw z (none (o % 0x80 * 8) (bytes_of w * 8))
        others false false false false false true h k = none ((o - 0x6000) / 8) (bytes_of w / 8)
        others false false false false false false h k = refl

        go : (x y z : Bool) → words 0x100 0x400 o ≡ x → within 0x400 0x7fc o ≡ y → words 0xc00 0xd00 o ≡ z
            → write_over v (register_there o w)
            ≡ cond x (set_beyond e n o w v) (cond y (passing (beyond_table e n) (o - 0x400) (bytes_of w)) (cond z (passing (beyond_table e n) ((o - 0xc00) * 4) (bytes_of w * 4)) []))
        go true y z p q r =
            let (low, high, aligned) = (in_words 0x100 0x400 o).0 p in
            let all : words 0x80 0x400 o ≡ true = (in_words 0x80 0x400 o).1 (omega arith, high, aligned) in
            let j : ℕ = (o - 0x80) / 0x80 in
            let lo : ℕ = o % 0x80 * 8 in
            ap (write_over v) (flags_there o w all)
            ∙ passing_same (refused_over e n (flag_bank j) v lo) (λ i. eqb (v / 2 ^ (i - lo) % 2) 1 && beyond_table e n i) lo (bytes_of w * 8) (flag_writes j v lo (omega arith) (omega arith))
        go false true z p q r = ap (write_over v) (ipriorityr_there o w q)
        go false false true p q r = ap (write_over v) (icfgr_there o w r)
        go false false false p q r = rw (q, r) (others (words 0xffd0 0x10000 o) (eqb o 0x0) (eqb o 0x4) (eqb o 0x8) (words 0x80 0x400 o) (within 0x6000 0x7fe0 o) p refl)

-- ---- the law

module _ (d : Distributor) (o : ℕ) (w : AccessWidth) where
  abbrev e : Bool
  e = explicit d.config.spi_ownership

  abbrev n : ℕ
  n = size d

  abbrev frame : ℕ
  frame = d.config.distributor_size

  read_verdict : (g : Register) → verdict (read_reply d (Ok g)).answer ≡ unless (read_over e n g) (done [])
  unfolding read_over
  read_verdict (Identification k) = refl
  read_verdict Ctlr = refl
  read_verdict Typer = refl
  read_verdict Iidr = refl
  read_verdict (Fields b lo m) = go (read_beyond e n b lo m) _
    where
      go : (l : List ℕ) (vs : List ℕ) → verdict (unless l (done vs)) ≡ unless l (done [])
      go [] vs = refl
      go (i ∷ is) vs = refl
  read_verdict Reserved = refl

  read_refused : verdict (reply (read o w) d).answer ≡ refusal_of d (read o w)
  unfolding reply
  read_refused = ap (λ (a : Access). verdict (read_reply d a).answer) (decoded_at Reading frame o w) ∙ go (misplaced frame o w) (needs_another Reading o w)
    where
      go : (x y : Bool)
          → verdict (read_reply d (cond x (Err InvalidAccess) (cond y (Err InvalidWidth) (Ok (register_there o w))))).answer
          ≡ cond x (refused 3 []) (cond y (refused 4 []) (unless (covered_beyond e n o w) (done [])))
      go true y = refl
      go false true = refl
      go false false = read_verdict (register_there o w) ∙ ap (λ (l : List ℕ). unless l (done [])) (read_over_lem e n o w)

  module _ (v places : ℕ) where
    write_verdict : (g : Register) → verdict (write_reply d (Ok g) v).answer ≡ unless (write_over e n v g) (done [])
    unfolding write_over
    write_verdict (Identification k) = refl
    write_verdict Ctlr = refl
    write_verdict Typer = refl
    write_verdict Iidr = refl
    write_verdict (Fields b lo m) = go (write_beyond e n b v lo m) _
      where
        go : (l : List ℕ) (cs : List ℕ) → verdict (listing_unless l cs).answer ≡ unless l (done [])
        go [] cs = refl
        go (i ∷ is) cs = refl
    write_verdict Reserved = refl

    write_refused : verdict (reply (write o w v places) d).answer ≡ refusal_of d (write o w v places)
    unfolding reply
    write_refused = ap (λ (a : Access). verdict (write_reply d (cond (ltb places n) (Err ShortList) a) v).answer) (decoded_at Writing frame o w) ∙ go (ltb places n) (misplaced frame o w) (needs_another Writing o w)
      where
        go : (s x y : Bool)
            → verdict (write_reply d (cond s (Err ShortList) (cond x (Err InvalidAccess) (cond y (Err InvalidWidth) (Ok (register_there o w))))) v).answer
            ≡ cond s (refused 5 []) (cond x (refused 3 []) (cond y (refused 4 []) (unless (written_beyond e n o w v) (done []))))
        go true x y = refl
        go false true y = refl
        go false false true = refl
        go false false false = write_verdict (register_there o w) ∙ ap (λ (l : List ℕ). unless l (done [])) (write_over_lem e n o w v)

-- a number is an SPI's of the table, or the host is refused
no_spi_lem : (n raw : ℕ) → in_table n raw ≡ not (no_spi n raw)
no_spi_lem n raw = go (leb 32 raw) (leb (32 + n) raw) (ltb_not raw 32) (ltb_not raw (32 + n))
  where
    go : (x y : Bool) → ltb raw 32 ≡ not x → ltb raw (32 + n) ≡ not y → (x && ltb raw (32 + n)) ≡ not (ltb raw 32 || y)
    go true true p q = rw (p, q)
    go true false p q = rw (p, q)
    go false y p q = rw p

on_spi_lem : (n raw : ℕ) (a b : Answer) → verdict a ≡ b → verdict (cond (in_table n raw) a (refused 1 (raw ∷ []))) ≡ cond (no_spi n raw) (refused 1 (raw ∷ [])) b
on_spi_lem n raw a b h = go (no_spi n raw) (no_spi_lem n raw)
  where
    go : (x : Bool) → in_table n raw ≡ not x → verdict (cond (in_table n raw) a (refused 1 (raw ∷ []))) ≡ cond x (refused 1 (raw ∷ [])) b
    go true e = rw e
    go false e = rw e h

claim_verdict : (claimed : Bool) → verdict (claim_answer claimed) ≡ cond claimed (refused 2 []) (done [])
claim_verdict true = refl
claim_verdict false = refl

change_verdict : (h : Change) (s : Slot) → verdict (change_answer h s) ≡ cond (claims h && s.ownership.explicitly_owned) (refused 2 []) (done [])
change_verdict Claim s = claim_verdict s.ownership.explicitly_owned
change_verdict (ClaimTo a) s = claim_verdict s.ownership.explicitly_owned
change_verdict Release s = refl
change_verdict (SetCpuTargetMask m) s = refl
change_verdict (SynchronizeInflight t) s = refl
change_verdict (Operate x) s = refl

-- REFUSED EXACTLY WHEN: of every call in every state
pub refused_when : (k : Call) (d : Distributor) → verdict (reply k d).answer ≡ refusal_of d k
unfolding reply
refused_when (create c m) d = go (leb m 988) (ltb_not 988 m)
  where
    go : (x : Bool) → ltb 988 m ≡ not x → verdict (cond x (done []) (refused 1 (1020 ∷ []))) ≡ cond (ltb 988 m) (refused 1 (1020 ∷ [])) (done [])
    go true e = rw e
    go false e = rw e
refused_when (read o w) d = read_refused d o w
refused_when (write o w v places) d = write_refused d o w v places
refused_when is_switched_on d = refl
refused_when (rollback on) d = refl
refused_when (change h raw) d = on_spi_lem (size d) raw _ _ (change_verdict h (slot_of d.slots raw))
refused_when (ask q raw) d = on_spi_lem (size d) raw _ _ refl

-- a refusal is its own verdict: so a call is refused r, carrying c, exactly when `refusal_of` says so
pub exactly : (k : Call) (d : Distributor) (r : ℕ) (c : List ℕ) → (reply k d).answer ≡ refused r c ↔ refusal_of d k ≡ refused r c
exactly k d r c = (
  (λ e. sym (refused_when k d) ∙ ap verdict e),
  (λ e. back (reply k d).answer (refused_when k d ∙ e)),
)
  where
    back : (a : Answer) → verdict a ≡ refused r c → a ≡ refused r c
    back (done vs) e = cc
    back (refused q b) e = e
