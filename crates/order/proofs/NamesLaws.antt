-- What a call names is what the paper's words say, `named_by`.
use Rattle.std.specs.Prelude.{ℕ, zero, suc, ◌+◌, ◌-◌, ◌*◌, ◌/◌, ◌%◌, ◌^◌, ◌≤◌, ◌≡◌, Bool, true, false, not, ◌&&◌, cond, ltb, eqb, Ok, Err}
use Rattle.std.proofs.Math.Path.{refl, ap}
use Rattle.std.proofs.Common.{◌∙◌, arith, eqb-true, ne_eqb}
use Rattle.std.proofs.Math.Bool.{and-true, and-false}
use Rattle.std.proofs.Math.Logic.{by_cases}
use Rattle.std.proofs.Math.Decide.{dec_lt}
use Rattle.theory.specs.Bools.{refuted}
use Rattle.bank.specs.declared.bank.Bank.{Bank}
use Rattle.identifiers.specs.Answer.{within}
use Rattle.identifiers.specs.declared.error.Refusal.TheVariants.{InvalidAccess, InvalidWidth, ShortList}
use Rattle.place.specs.Table.{in_table}
use Rattle.controller.specs.declared.controller.ControllerConfig.{ControllerConfig}
use Rattle.bank.specs.Banks.{acts, field}
use Rattle.bank.specs.declared.bank.Bank.TheVariants.{Replace}
use Rattle.bank.specs.declared.bank.Field.{Field}
use Rattle.registers.specs.declared.register.AccessWidth.{AccessWidth}
use Rattle.registers.specs.declared.register.Direction.{Direction}
use Rattle.registers.specs.declared.register.Direction.TheVariants.{Reading, Writing}
use Rattle.registers.specs.declared.register.Register.{Register}
use Rattle.registers.specs.declared.register.Register.TheVariants.{Identification, Ctlr, Typer, Iidr, Fields, Reserved}
use Rattle.registers.specs.Registers.{Access, bytes_of}
use Rattle.registers.specs.MapLaws.{flag_bank}
use Rattle.registers.specs.FrameLaws.{words, in_words, needs_another}
use Rattle.registers.specs.FrameMap.{register_there, flags_there, ipriorityr_there, icfgr_there, irouter_there}
use Rattle.model.specs.Calls.{Call, create, read, write, is_switched_on, rollback, change, ask}
use Rattle.model.specs.RefusedWhen.{misplaced, reached_at, decoded_at}
use Rattle.order.specs.Names.{Name, the_switch, spi, read_names, write_names, names}
use Rattle.order.specs.NamesLaws.{covered_at, set_at, granted, written_by, named_by}

-- ---- what lies at an offset

module _ (o : ℕ) (w : AccessWidth) where
  -- nothing of a bank, where no bank lies
  bankless : (f : Register → Bool) → ((k : ℕ) → f (Identification k) ≡ false) → f Ctlr ≡ false → f Typer ≡ false → f Iidr ≡ false → f Reserved ≡ false
      → words 0x80 0x400 o ≡ false → within 0x400 0x7fc o ≡ false → words 0xc00 0xd00 o ≡ false → within 0x6000 0x7fe0 o ≡ false
      → f (register_there o w) ≡ false
  bankless f ids ctlr typer iidr none a b c d = rw (a, b, c, d) (go (words 0xffd0 0x10000 o) (eqb o 0x0) (eqb o 0x4) (eqb o 0x8))
    where
      go : (p q r s : Bool) → f (cond p (Identification ((o - 0xffd0) / 4)) (cond q Ctlr (cond r Typer (cond s Iidr Reserved)))) ≡ false
      go true q r s = ids ((o - 0xffd0) / 4)
      go false true r s = ctlr
      go false false true s = typer
      go false false false true = iidr
      go false false false false = none

  -- CTLR lies at 0, and only there
  at_ctlr : {A : Type 0} (f : Register → A) (x y : A) → f Ctlr ≡ x → (eqb o 0x0 ≡ false → f (register_there o w) ≡ y) → f (register_there o w) ≡ cond (eqb o 0x0) x y
  at_ctlr f x y here else = go (eqb o 0x0) refl
    where
      go : (t : Bool) → eqb o 0x0 ≡ t → f (register_there o w) ≡ cond t x y
      go true e = let z : o ≡ 0x0 = eqb-true o 0x0 e in ap (λ (q : ℕ). f (register_there q w)) z ∙ here
      go false e = else e

  not_ctlr : (f : Register → Bool) → ((k : ℕ) → f (Identification k) ≡ false) → f Typer ≡ false → f Iidr ≡ false → ((b : Bank) (lo m : ℕ) → f (Fields b lo m) ≡ false) → f Reserved ≡ false
      → eqb o 0x0 ≡ false → f (register_there o w) ≡ false
  not_ctlr f ids typer iidr fields none e = rw e (go (words 0xffd0 0x10000 o) (eqb o 0x4) (eqb o 0x8) (words 0x80 0x400 o) (within 0x400 0x7fc o) (words 0xc00 0xd00 o) (within 0x6000 0x7fe0 o))
    where
      go : (p r s a b c d : Bool)
          → f (cond p (Identification ((o - 0xffd0) / 4)) (cond r Typer (cond s Iidr (cond a (Fields (flag_bank ((o - 0x80) / 0x80)) (o % 0x80 * 8) (bytes_of w * 8))
          (cond b (Fields (Replace Field.Priority) (o - 0x400) (bytes_of w)) (cond c (Fields (Replace Field.Configuration) ((o - 0xc00) * 4) (bytes_of w * 4))
          (cond d (Fields (Replace Field.Route) ((o - 0x6000) / 8) (bytes_of w / 8)) Reserved)))))))
          ≡ false
      go true r s a b c d = ids ((o - 0xffd0) / 4)
      go false true s a b c d = typer
      go false false true a b c d = iidr
      go false false false true b c d = fields _ _ _
      go false false false false true c d = fields _ _ _
      go false false false false false true d = fields _ _ _
      go false false false false false false true = fields _ _ _
      go false false false false false false false = none

-- ---- reads and writes

module _ (n : ℕ) (o : ℕ) (w : AccessWidth) (i : ℕ) where
  read_named : read_names n (Ok (register_there o w)) (spi i) ≡ (covered_at o w i && in_table n i)
  read_named = go (words 0x80 0x400 o) (within 0x400 0x7fc o) (words 0xc00 0xd00 o) (within 0x6000 0x7fe0 o) refl refl refl refl
    where
      f : Register → Bool
      f g = read_names n (Ok g) (spi i)

      go : (a b c d : Bool) → words 0x80 0x400 o ≡ a → within 0x400 0x7fc o ≡ b → words 0xc00 0xd00 o ≡ c → within 0x6000 0x7fe0 o ≡ d
          → read_names n (Ok (register_there o w)) (spi i)
          ≡ (cond a (within (o % 0x80 * 8) (o % 0x80 * 8 + bytes_of w * 8) i) (cond b (within (o - 0x400) (o - 0x400 + bytes_of w) i)
          (cond c (within ((o - 0xc00) * 4) ((o - 0xc00) * 4 + bytes_of w * 4) i) (cond d (within ((o - 0x6000) / 8) ((o - 0x6000) / 8 + bytes_of w / 8) i) false))) && in_table n i)
      go true b c d p q r s = ap (λ (g : Register). read_names n (Ok g) (spi i)) (flags_there o w p)
      go false true c d p q r s = ap (λ (g : Register). read_names n (Ok g) (spi i)) (ipriorityr_there o w q)
      go false false true d p q r s = ap (λ (g : Register). read_names n (Ok g) (spi i)) (icfgr_there o w r)
      go false false false true p q r s = ap (λ (g : Register). read_names n (Ok g) (spi i)) (irouter_there o w s)
      go false false false false p q r s = bankless o w (λ g. read_names n (Ok g) (spi i)) (λ k. refl) refl refl refl refl p q r s

  -- of the seven flag banks IGROUPR takes no bit, and the others those that are 1
  flag_acts : (j v lo : ℕ) → j ≤ 6 → acts (flag_bank j) (field (flag_bank j) v lo i) ≡ (not (eqb j 0) && eqb (v / 2 ^ (i - lo) % 2) 1)
  flag_acts zero v lo h = refl
  flag_acts (suc zero) v lo h = refl
  flag_acts (suc (suc zero)) v lo h = refl
  flag_acts (suc (suc (suc zero))) v lo h = refl
  flag_acts (suc (suc (suc (suc zero)))) v lo h = refl
  flag_acts (suc (suc (suc (suc (suc zero))))) v lo h = refl
  flag_acts (suc (suc (suc (suc (suc (suc zero)))))) v lo h = refl
  flag_acts (suc (suc (suc (suc (suc (suc (suc j))))))) v lo h = absurd (omega arith)

  -- IGROUPR's words come before 0x100
  after_group : words 0x80 0x400 o ≡ true → not (eqb ((o - 0x80) / 0x80) 0) ≡ words 0x100 0x400 o
  after_group p =
      let (low, high, aligned) = (in_words 0x80 0x400 o).0 p in
      by_cases (dec_lt o 0x100)
      (λ h. let z : (o - 0x80) / 0x80 ≡ 0 = omega arith in rw (z, refuted (words 0x100 0x400 o) (λ e. let r = (in_words 0x100 0x400 o).0 e in omega arith)))
      (λ h. rw (ne_eqb ((o - 0x80) / 0x80) 0 (omega arith), (in_words 0x100 0x400 o).1 (omega arith, high, aligned)))

  write_named : (v : ℕ) → write_names n (Ok (register_there o w)) v (spi i) ≡ (cond (eqb o 0x0) (eqb (v / 2 % 2) 1) (set_at o w v i) && in_table n i)
  write_named v =
      at_ctlr o w (λ g. write_names n (Ok g) v (spi i)) (eqb (v / 2 % 2) 1 && in_table n i) (set_at o w v i && in_table n i) refl banks ∙ pulled (eqb o 0x0)
    where
      pulled : (t : Bool) → cond t (eqb (v / 2 % 2) 1 && in_table n i) (set_at o w v i && in_table n i) ≡ (cond t (eqb (v / 2 % 2) 1) (set_at o w v i) && in_table n i)
      pulled true = refl
      pulled false = refl

      -- covered, in the table and acting, in another order
      turned : (x y z t : Bool) → z ≡ t → ((x && y) && z) ≡ ((x && t) && y)
      turned true true z t e = e ∙ (let s : (t && true) ≡ t = and-true t in rw s)
      turned true false z t e = rw (and-false t)
      turned false y z t e = refl

      banks : eqb o 0x0 ≡ false → write_names n (Ok (register_there o w)) v (spi i) ≡ (set_at o w v i && in_table n i)
      banks away = go (words 0x80 0x400 o) (within 0x400 0x7fc o) (words 0xc00 0xd00 o) (within 0x6000 0x7fe0 o) refl refl refl refl
        where
          go : (a b c d : Bool) → words 0x80 0x400 o ≡ a → within 0x400 0x7fc o ≡ b → words 0xc00 0xd00 o ≡ c → within 0x6000 0x7fe0 o ≡ d
              → write_names n (Ok (register_there o w)) v (spi i)
              ≡ ((cond a (within (o % 0x80 * 8) (o % 0x80 * 8 + bytes_of w * 8) i) (cond b (within (o - 0x400) (o - 0x400 + bytes_of w) i)
              (cond c (within ((o - 0xc00) * 4) ((o - 0xc00) * 4 + bytes_of w * 4) i) (cond d (within ((o - 0x6000) / 8) ((o - 0x6000) / 8 + bytes_of w / 8) i) false)))
              && cond a (words 0x100 0x400 o && eqb (v / 2 ^ (i - o % 0x80 * 8) % 2) 1) true) && in_table n i)
          go true b c d p q r s =
              let (low, high, aligned) = (in_words 0x80 0x400 o).0 p in
              ap (λ (g : Register). write_names n (Ok g) v (spi i)) (flags_there o w p)
              ∙ turned (within (o % 0x80 * 8) (o % 0x80 * 8 + bytes_of w * 8) i) (in_table n i) _ _
              (flag_acts ((o - 0x80) / 0x80) v (o % 0x80 * 8) (omega arith) ∙ ap (λ (x : Bool). x && eqb (v / 2 ^ (i - o % 0x80 * 8) % 2) 1) (after_group p))
          go false true c d p q r s = ap (λ (g : Register). write_names n (Ok g) v (spi i)) (ipriorityr_there o w q) ∙ turned (within (o - 0x400) (o - 0x400 + bytes_of w) i) (in_table n i) true true refl
          go false false true d p q r s = ap (λ (g : Register). write_names n (Ok g) v (spi i)) (icfgr_there o w r) ∙ turned (within ((o - 0xc00) * 4) ((o - 0xc00) * 4 + bytes_of w * 4) i) (in_table n i) true true refl
          go false false false true p q r s = ap (λ (g : Register). write_names n (Ok g) v (spi i)) (irouter_there o w s) ∙ turned (within ((o - 0x6000) / 8) ((o - 0x6000) / 8 + bytes_of w / 8) i) (in_table n i) true true refl
          go false false false false p q r s = rw (away, p, q, r, s) (others (words 0xffd0 0x10000 o) (eqb o 0x4) (eqb o 0x8))
            where
              others : (x y z : Bool) → write_names n (Ok (cond x (Identification ((o - 0xffd0) / 4)) (cond y Typer (cond z Iidr Reserved)))) v (spi i) ≡ false
              others true y z = refl
              others false true z = refl
              others false false true = refl
              others false false false = refl

-- ---- the law

module _ (c : ControllerConfig) (n : ℕ) where
  abbrev frame : ℕ
  frame = c.distributor_size

  -- a refused access names nothing, one that is granted what its register names
  accessed : (d : Direction) (o : ℕ) (w : AccessWidth) (f : Access → Bool) (x : Bool) → f (Err InvalidAccess) ≡ false → f (Err InvalidWidth) ≡ false → f (Ok (register_there o w)) ≡ x
      → f (reached_at d frame o w) ≡ (granted c n d o w && x)
  accessed d o w f x three four there = go (misplaced frame o w) (needs_another d o w)
    where
      go : (p q : Bool) → f (cond p (Err InvalidAccess) (cond q (Err InvalidWidth) (Ok (register_there o w)))) ≡ ((not p && not q) && x)
      go true q = three
      go false true = four
      go false false = there

  at_zero : (x : Bool) → cond x true false ≡ x
  at_zero true = refl
  at_zero false = refl

  read_so : (o : ℕ) (w : AccessWidth) (m : Name) → read_names n (reached_at Reading frame o w) m ≡ named_by c n (read o w) m
  read_so o w the_switch =
      accessed Reading o w (λ a. read_names n a the_switch) (eqb o 0x0) refl refl
      (at_ctlr o w (λ g. read_names n (Ok g) the_switch) true false refl (not_ctlr o w (λ g. read_names n (Ok g) the_switch) (λ k. refl) refl refl (λ b lo m. refl) refl) ∙ at_zero (eqb o 0x0))
  read_so o w (spi i) = accessed Reading o w (λ a. read_names n a (spi i)) (covered_at o w i && in_table n i) refl refl (read_named n o w i)

  write_so : (o : ℕ) (w : AccessWidth) (v places : ℕ) (m : Name) → write_names n (cond (ltb places n) (Err ShortList) (reached_at Writing frame o w)) v m ≡ named_by c n (write o w v places) m
  write_so o w v places m = go (ltb places n) m
    where
      go : (s : Bool) (k : Name) → write_names n (cond s (Err ShortList) (reached_at Writing frame o w)) v k ≡ (not s && written_by c n o w v k)
      go true k = refl
      go false the_switch =
          accessed Writing o w (λ a. write_names n a v the_switch) (eqb o 0x0) refl refl
          (at_ctlr o w (λ g. write_names n (Ok g) v the_switch) true false refl (not_ctlr o w (λ g. write_names n (Ok g) v the_switch) (λ k. refl) refl refl (λ b lo m. refl) refl) ∙ at_zero (eqb o 0x0))
      go false (spi i) = accessed Writing o w (λ a. write_names n a v (spi i)) _ refl refl (write_named n o w i v)

  -- WHICH CALL NAMES WHAT
  pub names_so : (k : Call) (m : Name) → names c n k m ≡ named_by c n k m
  unfolding names
  names_so (create d k) m = refl
  names_so (read o w) m = ap (λ (a : Access). read_names n a m) (decoded_at Reading frame o w) ∙ read_so o w m
  names_so (write o w v places) m = ap (λ (a : Access). write_names n (cond (ltb places n) (Err ShortList) a) v m) (decoded_at Writing frame o w) ∙ write_so o w v places m
  names_so is_switched_on the_switch = refl
  names_so is_switched_on (spi i) = refl
  names_so (rollback on) the_switch = refl
  names_so (rollback on) (spi i) = refl
  names_so (change h raw) the_switch = refl
  names_so (change h raw) (spi i) = refl
  names_so (ask q raw) the_switch = refl
  names_so (ask q raw) (spi i) = refl
