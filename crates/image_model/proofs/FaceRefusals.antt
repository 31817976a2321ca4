-- What the face refuses, in its order; what a refused call leaves; and what becomes of the list. A call of the face is one call of the
-- core, or none where its width is none.
use Rattle.std.specs.Prelude.{ℕ, ◌*◌, ◌/◌, ◌%◌, ◌≤◌, ◌≡◌, Bool, not, ◌&&◌, ◌≢◌, leb, ltb, eqb, length, Ok, Err, Some, None, Option}
use Rattle.std.proofs.Math.Path.{refl, subst⁻¹}
use Rattle.std.proofs.Common.{sym, ap, subst, ◌∙◌, arith, eqb-true, ne_eqb, leb-true}
use Rattle.std.proofs.Math.Bool.{true, false, cond}
use mathlib.Core.List.{List, [], ◌∷◌}
use Rattle.std.proofs.Math.ListN.{get_elem?}
use Rattle.theory.specs.Bools.{both, refuted}
use Rattle.theory.specs.Lists.{laid}
use Rattle.theory.specs.Elements.{laid_past}
use Rattle.theory.specs.ListLaws.{length-laid}
use Rattle.identifiers.specs.Answer.{Answer, done, refused, unless}
use Rattle.place.specs.Table.{in_table}
use Rattle.controller.specs.Modes.{explicit}
use Rattle.registers.specs.declared.register.AccessWidth.{AccessWidth}
use Rattle.registers.specs.declared.register.AccessWidth.TheVariants.{Byte, Word, Dword, Qword}
use Rattle.registers.specs.declared.register.Direction.{Direction}
use Rattle.registers.specs.declared.register.Direction.TheVariants.{Reading, Writing}
use Rattle.registers.specs.declared.register.Register.TheVariants.{Identification, Ctlr, Typer, Iidr, Fields, Reserved}
use Rattle.registers.specs.FrameLaws.{needs_another}
use Rattle.decoding.specs.Decoding.{decode}
use Rattle.slot.specs.BankRule.{slot_of}
use Rattle.model.specs.Calls.{Distributor, Call, create, is_switched_on, rollback, change, ask, Reply, size, step, read_reply, reply}
use Rattle.model.specs.Replies.{Lists, turned_down, listed, write_lists, candidates_fit}
use Rattle.model.specs.RefusedWhen.{misplaced, covered_beyond, written_beyond, no_spi, claims, refusal_of, exactly}
use Rattle.order.specs.Names.{Name, the_switch, spi}
use Rattle.order.specs.NamesLaws.{set_at, written_by, named_by}
use Rattle.order.proofs.NamesLaws.{names_so}
use Rattle.order.proofs.OrderFacts.{keeps}
use Rattle.order.specs.Order.{named}
use Rattle.order.proofs.Order.{footprint}
use Rattle.order.specs.Refusals.{asking_still, refused_still}
use Rattle.image.specs.Bytes.{flat, Bytes}
use Rattle.image.specs.ByteLaws.{length-flat}
use Rattle.image.specs.Header.{good_image}
use Rattle.image.specs.Meaning.{meaning}
use Rattle.image_model.specs.declared.told.Told.{Told}
use Rattle.image_model.specs.Told.{told, bad_image, bad_width}
use Rattle.registers.specs.Registers.{width_of, Access}
use Rattle.image_model.specs.Face.{FaceCall, read, write, host, Seen, seen, named_in, good_named, image_after, refuses, answers, on_records, on_width}
use Rattle.image_model.specs.GoodLaws.{good_none}
use Rattle.image_model.proofs.FaceLaws.{still_image}
use Rattle.image_model.specs.FaceRefusals.{with_width, core_call, on_core, access_first, refused_first, refusal}

-- ---- the call of the core

pub same_Some : {A : Type 0} (x y : A) → Some x ≡ Some y → x ≡ y
same_Some x y e = cc

width_core : (a : Option AccessWidth) (c : AccessWidth → Call) (image list : List ℕ) → on_width a c image list ≡ on_core (with_width a c) image list
width_core (Some w) c image list = refl
width_core None c image list = refl

pub seen-core : (k : FaceCall) (image list : List ℕ) → good_image image ≡ true → seen k image list ≡ on_core (core_call k list) image list
unfolding seen
seen-core (read offset w) image list good = rw good (width_core (width_of w) (λ x. Call.read offset x) image list)
seen-core (write offset w v) image list good = rw good (width_core (width_of w) (λ x. Call.write offset x v (length list / 4)) image list)
seen-core (host h raw) image list good = rw good

-- the widths are 1, 2, 4 and 8
pub widths : (width_of 1 ≡ Some Byte) × (width_of 2 ≡ Some Word) × (width_of 4 ≡ Some Dword) × (width_of 8 ≡ Some Qword)
    × ((w : ℕ) → w ≢ 1 → w ≢ 2 → w ≢ 4 → w ≢ 8 → width_of w ≡ None)
widths = (refl, refl, refl, refl, λ w one two four eight. rw (ne_eqb w 1 one, ne_eqb w 2 two, ne_eqb w 4 four, ne_eqb w 8 eight))

-- ---- what is refused before a record is looked at

never : {A : Type 0} (vs ws : List ℕ) (r : ℕ) → done vs ≡ refused r ws → A
never vs ws r e = let z : ◌≡◌ {A = ℕ} 0 1 = cc in absurd (omega arith)

-- a read lists none
read_lists : (d : Distributor) (a : Access) → (read_reply d a).candidates ≡ []
read_lists d (Err f) = refl
read_lists d (Ok (Identification k)) = refl
read_lists d (Ok Ctlr) = refl
read_lists d (Ok Typer) = refl
read_lists d (Ok Iidr) = refl
read_lists d (Ok (Fields b lo m)) = refl
read_lists d (Ok Reserved) = refl

module _ (d : Distributor) (r : ℕ) (ws : List ℕ) where
  -- such a call names nothing
  access_none : (x : Direction) (o : ℕ) (w : AccessWidth) (y : Bool) → access_first d x o w ≡ refused r ws → ((not (misplaced d.config.distributor_size o w) && not (needs_another x o w)) && y) ≡ false
  access_none x o w y e = go (misplaced d.config.distributor_size o w) (needs_another x o w) e
    where
      go : (p q : Bool) → cond p (refused 3 []) (cond q (refused 4 []) (done [])) ≡ refused r ws → ((not p && not q) && y) ≡ false
      go true q e = refl
      go false true e = refl
      go false false e = never [] ws r e

  host_none : (raw i : ℕ) → cond (in_table (size d) raw) (done []) (refused 1 (raw ∷ [])) ≡ refused r ws → (in_table (size d) i && eqb i raw) ≡ false
  host_none raw i e =
      refuted _ (λ t. let (inside, same) = both (in_table (size d) i) (eqb i raw) t in
      let z : in_table (size d) raw ≡ true = ap (in_table (size d)) (sym (eqb-true i raw same)) ∙ inside in
      never [] ws r (rw z at e))

  first_none : (c : Call) → refused_first d c ≡ refused r ws → (m : Name) → named_by d.config (size d) c m ≡ false
  first_none (create c n) e m = refl
  first_none (Call.read o w) e the_switch = access_none Reading o w _ e
  first_none (Call.read o w) e (spi i) = access_none Reading o w _ e
  first_none (Call.write o w v places) e m = go (ltb places (size d)) e m
    where
      go : (s : Bool) → cond s (refused 5 []) (access_first d Writing o w) ≡ refused r ws → (k : Name) → (not s && written_by d.config (size d) o w v k) ≡ false
      go true e k = refl
      go false e the_switch = access_none Writing o w (eqb o 0x0) e
      go false e (spi i) = access_none Writing o w (cond (eqb o 0x0) (eqb (v / 2 % 2) 1) (set_at o w v i) && in_table (size d) i) e
  first_none is_switched_on e m = never [] ws r e
  first_none (rollback on) e m = never [] ws r e
  first_none (change h raw) e the_switch = refl
  first_none (change h raw) e (spi i) = host_none raw i e
  first_none (ask q raw) e the_switch = refl
  first_none (ask q raw) e (spi i) = host_none raw i e

  -- and is refused so by the core
  access_so : (x : Direction) (o : ℕ) (w : AccessWidth) (a : Answer) → access_first d x o w ≡ refused r ws
      → cond (misplaced d.config.distributor_size o w) (refused 3 []) (cond (needs_another x o w) (refused 4 []) a) ≡ refused r ws
  access_so x o w a e = go (misplaced d.config.distributor_size o w) (needs_another x o w) e
    where
      go : (p q : Bool) → cond p (refused 3 []) (cond q (refused 4 []) (done [])) ≡ refused r ws → cond p (refused 3 []) (cond q (refused 4 []) a) ≡ refused r ws
      go true q e = e
      go false true e = e
      go false false e = never [] ws r e

  host_so : (raw : ℕ) (a : Answer) → cond (in_table (size d) raw) (done []) (refused 1 (raw ∷ [])) ≡ refused r ws → cond (in_table (size d) raw) a (refused 1 (raw ∷ [])) ≡ refused r ws
  host_so raw a e = go (in_table (size d) raw) e
    where
      go : (t : Bool) → cond t (done []) (refused 1 (raw ∷ [])) ≡ refused r ws → cond t a (refused 1 (raw ∷ [])) ≡ refused r ws
      go true e = never [] ws r e
      go false e = e

  first_so : (c : Call) → refused_first d c ≡ refused r ws → (reply c d).answer ≡ refused r ws
  unfolding reply
  first_so (create c n) e = never [] ws r e
  first_so (Call.read o w) e = (exactly (Call.read o w) d r ws).1 (access_so Reading o w _ e)
  first_so (Call.write o w v places) e = (exactly (Call.write o w v places) d r ws).1 (go (ltb places (size d)) _ (access_so Writing o w _) e)
    where
      go : (s : Bool) (a : Answer) → (access_first d Writing o w ≡ refused r ws → a ≡ refused r ws) → cond s (refused 5 []) (access_first d Writing o w) ≡ refused r ws → cond s (refused 5 []) a ≡ refused r ws
      go true a h e = e
      go false a h e = h e
  first_so is_switched_on e = never [] ws r e
  first_so (rollback on) e = never [] ws r e
  first_so (change h raw) e = host_so raw _ e
  first_so (ask q raw) e = host_so raw _ e

  -- a refused call lists none
  refused_lists : (c : Call) → (reply c d).answer ≡ refused r ws → (reply c d).candidates ≡ []
  unfolding reply
  refused_lists (create c n) e = refl
  refused_lists (Call.read o w) e = read_lists d (decode Reading d.config.distributor_size o w)
  refused_lists (Call.write o w v places) e = go (reply (Call.write o w v places) d) (write_lists d o w v places) e
    where
      go : (a : Reply) → Lists d o w v places a → a.answer ≡ refused r ws → a.candidates ≡ []
      go a (turned_down n c) e = refl
      go a (listed cs h) e = never _ ws r e
  refused_lists is_switched_on e = refl
  refused_lists (rollback on) e = refl
  refused_lists (change h raw) e = refl
  refused_lists (ask q raw) e = refl

-- a call that names nothing changes nothing
unnaming_still : (c : Call) (d : Distributor) → ((m : Name) → named d c m ≡ false) → step c d ≡ d
unfolding step
unnaming_still c d unnamed =
    (footprint d.config d.count).whole (step c d) d (record { config = refl; count = refl }) (record { config = refl; count = refl }) (λ m. keeps c m d (unnamed m))

-- ---- THE ORDER: 6 for the image, 7 for the width, what is refused before a record is looked at, 6 for a record, and what the core says

module _ (k : FaceCall) (image list : List ℕ) where
  -- a bad length or header is refused 6, whatever the call is
  pub bad_image_lem : good_image image ≡ false → seen k image list ≡ refuses (refusal 6) image list
  unfolding seen
  bad_image_lem e = rw e

  module _ (good : good_image image ≡ true) where
    -- else an access whose width is none is refused 7, whatever the records hold
    pub bad_width_lem : core_call k list ≡ None → seen k image list ≡ refuses (refusal 7) image list
    bad_width_lem e = seen-core k image list good ∙ ap (λ (o : Option Call). on_core o image list) e

    module _ (c : Call) (is : core_call k list ≡ Some c) where
      on_records_lem : seen k image list ≡ on_records c image list
      on_records_lem = seen-core k image list good ∙ ap (λ (o : Option Call). on_core o image list) is

      -- else comes what makes a call name nothing: 5, 3 and 4 of an access, and 1 of a host's call, whatever the records hold
      pub refused_first_lem : Bytes image → (r : ℕ) (ws : List ℕ) → refused_first (meaning image) c ≡ refused r ws → seen k image list ≡ refuses (told (refused r ws)) image list
      refused_first_lem bytes r ws e =
          let d = meaning image in
          let unnamed : (m : Name) → named d c m ≡ false = λ m. names_so d.config (size d) c m ∙ first_none d r ws c e m in
          let fine : good_named c image ≡ true = good_none (named_in image c) (size d) image (λ i. unnamed (spi i)) in
          let told-so : (reply c d).answer ≡ refused r ws = first_so d r ws c e in
          let same : image_after c image ≡ image = still_image c image bytes good (unnaming_still c d unnamed) fine in
          let no-list : (reply c d).candidates ≡ [] = refused_lists d r ws c told-so in
          let there : on_records c image list ≡ answers c image list = rw fine in
          on_records_lem ∙ there ∙ (λ j. record { told = told (told-so j); image = same j; list = laid (flat 4 (no-list j)) list })

      -- else a call that names a bad record is refused 6
      pub bad_record : good_named c image ≡ false → seen k image list ≡ refuses (refusal 6) image list
      bad_record e = on_records_lem ∙ (rw e)

      -- and what names no bad record equals the core's call
      pub core-answers : good_named c image ≡ true → seen k image list ≡ answers c image list
      core-answers e = on_records_lem ∙ (rw e)

-- ---- what a refused call leaves

one_to_five : Answer → Bool
one_to_five (done vs) = true
one_to_five (refused r ws) = leb 1 r && leb r 5

core_range : (c : Call) (d : Distributor) → one_to_five (refusal_of d c) ≡ true
unfolding one_to_five
core_range c d = few c
  where
    access : (p q : Bool) (l : List ℕ) → one_to_five (cond p (refused 3 []) (cond q (refused 4 []) (unless l (done [])))) ≡ true
    access true q l = refl
    access false true l = refl
    access false false [] = refl
    access false false (i ∷ is) = refl

    or_else : (x : Bool) (a b : Answer) → one_to_five a ≡ true → one_to_five b ≡ true → one_to_five (cond x a b) ≡ true
    or_else true a b p q = p
    or_else false a b p q = q

    few : (k : Call) → one_to_five (refusal_of d k) ≡ true
    few (create b n) = or_else (ltb 988 n) (refused 1 (1020 ∷ [])) (done []) refl refl
    few (Call.read o w) = access (misplaced d.config.distributor_size o w) (needs_another Reading o w) (covered_beyond (explicit d.config.spi_ownership) (size d) o w)
    few (Call.write o w v places) =
        let over : List ℕ = written_beyond (explicit d.config.spi_ownership) (size d) o w v in
        let x : Bool = misplaced d.config.distributor_size o w in
        let y : Bool = needs_another Writing o w in
        or_else (ltb places (size d)) (refused 5 []) (cond x (refused 3 []) (cond y (refused 4 []) (unless over (done [])))) refl (access x y over)
    few is_switched_on = refl
    few (rollback on) = refl
    few (change h raw) =
        let claimed : Bool = claims h && (slot_of d.slots raw).ownership.explicitly_owned in
        or_else (no_spi (size d) raw) (refused 1 (raw ∷ [])) (cond claimed (refused 2 []) (done [])) refl (or_else claimed (refused 2 []) (done []) refl refl)
    few (ask q raw) = or_else (no_spi (size d) raw) (refused 1 (raw ∷ [])) (done []) refl refl

-- the core's refusals are numbered 1 to 5
pub core-refusal : (c : Call) (d : Distributor) (r : ℕ) (ws : List ℕ) → (reply c d).answer ≡ refused r ws → (1 ≤ r) × (r ≤ 5)
unfolding one_to_five
core-refusal c d r ws e =
    let ok : one_to_five (refused r ws) ≡ true = ap one_to_five (sym ((exactly c d r ws).0 e)) ∙ core_range c d in
    let (low, high) = both (leb 1 r) (leb r 5) ok in
    (leb-true 1 r low, leb-true r 5 high)

pub core-number : (c : Call) (d : Distributor) → (told (reply c d).answer).number ≤ 5
core-number c d = go (reply c d).answer refl
  where
    go : (a : Answer) → (reply c d).answer ≡ a → (told a).number ≤ 5
    go (done vs) e = omega arith
    go (refused r ws) e = (core-refusal c d r ws e).1

-- what holds of every refusal of the face and of every answer of the core holds of what is seen
module _ (P : Seen → Type 0) (image list : List ℕ) (refusing : (t : Told) → 6 ≤ t.number → P (refuses t image list)) where
  on_call : (c : Call) → (good_named c image ≡ true → P (answers c image list)) → P (on_records c image list)
  on_call c h = go (good_named c image) refl
    where
      go : (b : Bool) → good_named c image ≡ b → P (cond b (answers c image list) (refuses bad_image image list))
      go true e = h e
      go false e = refusing bad_image (omega arith)

  on_option : (o : Option Call) → ((c : Call) → o ≡ Some c → good_named c image ≡ true → P (answers c image list)) → P (on_core o image list)
  on_option (Some c) h = on_call c (h c refl)
  on_option None h = refusing bad_width (omega arith)

  pub seen_either : (k : FaceCall) → ((c : Call) → good_image image ≡ true → core_call k list ≡ Some c → good_named c image ≡ true → P (answers c image list)) → P (seen k image list)
  seen_either k h = go (good_image image) refl
    where
      go : (b : Bool) → good_image image ≡ b → P (seen k image list)
      go true e = subst⁻¹ P (seen-core k image list e) (on_option (core_call k list) (λ c. h c e))
      go false e = subst⁻¹ P (bad_image_lem k image list e) (refusing bad_image (omega arith))

-- REFUSED 6 OR 7, a call changes nothing
pub six_seven_keep : (k : FaceCall) (image list : List ℕ) → 6 ≤ (seen k image list).told.number → ((seen k image list).image ≡ image) × ((seen k image list).list ≡ list)
six_seven_keep k image list =
    seen_either (λ s. 6 ≤ s.told.number → (s.image ≡ image) × (s.list ≡ list)) image list (λ t h g. (refl, refl)) k
    (λ c good is fine h. let few = core-number c (meaning image) in absurd (omega arith))

is_refused : (a : Answer) → 1 ≤ (told a).number → (ws : List ℕ) × (a ≡ refused (told a).number ws)
is_refused (done vs) h = absurd (omega arith)
is_refused (refused r ws) h = (ws, refl)

-- refused, whatever the number, a call leaves the list
pub refused_list : (k : FaceCall) (image list : List ℕ) → 1 ≤ (seen k image list).told.number → (seen k image list).list ≡ list
refused_list k image list =
    seen_either (λ s. 1 ≤ s.told.number → s.list ≡ list) image list (λ t h g. refl) k
    (λ c good is fine h. let d = meaning image in
    let (ws, e) = is_refused (reply c d).answer h in
    ap (λ (cs : List ℕ). laid (flat 4 cs) list) (refused_lists d (told (reply c d).answer).number ws c e))

-- and the image, unless it is a write that is refused 1 for running beyond the table
pub refused_image : (k : FaceCall) (image list : List ℕ) → Bytes image → 1 ≤ (seen k image list).told.number
    → ((offset w v : ℕ) → k ≡ write offset w v → (seen k image list).told.number ≢ 1) → (seen k image list).image ≡ image
refused_image k image list bytes =
    seen_either (λ s. 1 ≤ s.told.number → ((offset w v : ℕ) → k ≡ write offset w v → s.told.number ≢ 1) → s.image ≡ image) image list (λ t h g n. refl) k
    (λ c good is fine h n. let d = meaning image in
    let (ws, e) = is_refused (reply c d).answer h in
    still_image c image bytes good (refused_still d (told (reply c d).answer).number ws c e (λ o x v places z. written ((told (reply c d).answer).number ≢ 1) k c is o x v places z n)) fine)
  where
    written : (A : Type 0) (q : FaceCall) (c : Call) → core_call q list ≡ Some c → (o : ℕ) (x : AccessWidth) (v places : ℕ) → c ≡ Call.write o x v places
        → ((offset w u : ℕ) → q ≡ write offset w u → A) → A
    written A (read offset w) c is o x v places z n = go (width_of w) is
      where
        go : {B : Type 0} (a : Option AccessWidth) → with_width a (λ y. Call.read offset y) ≡ Some c → B
        go (Some y) e = let zero : ◌≡◌ {A = ℕ} 0 1 = cc in absurd (omega arith)
        go None e = let zero : ◌≡◌ {A = ℕ} 0 1 = cc in absurd (omega arith)
    written A (write offset w u) c is o x v places z n = n offset w u refl
    written A (host h raw) c is o x v places z n = let zero : ◌≡◌ {A = ℕ} 0 1 = cc in absurd (omega arith)

reads_none : (offset : ℕ) (x : AccessWidth) (d : Distributor) → (reply (Call.read offset x) d).candidates ≡ []
unfolding reply
reads_none offset x d = read_lists d (decode Reading d.config.distributor_size offset x)

-- A READ CHANGES NOTHING, refused or not
pub read_keeps : (offset w : ℕ) (image list : List ℕ) → Bytes image → ((seen (read offset w) image list).image ≡ image) × ((seen (read offset w) image list).list ≡ list)
read_keeps offset w image list bytes =
    seen_either (λ s. (s.image ≡ image) × (s.list ≡ list)) image list (λ t h. (refl, refl)) (read offset w)
    (λ c good is fine. go (width_of w) c good is fine)
  where
    same : (x : AccessWidth) → good_image image ≡ true → good_named (Call.read offset x) image ≡ true → (image_after (Call.read offset x) image ≡ image) × (laid (flat 4 (reply (Call.read offset x) (meaning image)).candidates) list ≡ list)
    same x good fine = (
      still_image (Call.read offset x) image bytes good ((asking_still (meaning image)).0 offset x) fine,
      ap (λ (cs : List ℕ). laid (flat 4 cs) list) (reads_none offset x (meaning image)),
    )

    go : (a : Option AccessWidth) (c : Call) → good_image image ≡ true → with_width a (λ x. Call.read offset x) ≡ Some c → good_named c image ≡ true
        → (image_after c image ≡ image) × (laid (flat 4 (reply c (meaning image)).candidates) list ≡ list)
    go (Some x) c good e fine = let z : Call.read offset x ≡ c = same_Some _ _ e in
        subst (λ (q : Call). good_named q image ≡ true → (image_after q image ≡ image) × (laid (flat 4 (reply q (meaning image)).candidates) list ≡ list)) z (same x good) fine
    go None c good e fine = cc

-- ---- the list that a write is lent

module _ (offset w v : ℕ) (image list : List ℕ) where
  -- what becomes of it: candidates in its first places, 4 bytes each, as many as a write that is done tells
  pub record Filled (s : Seen) : Type 0 where
    pub candidates : List ℕ
    pub fit : length candidates ≤ length list / 4
    pub laid_out : s.list ≡ laid (flat 4 candidates) list
    pub count : s.told.number ≡ 0 → s.told.out ≡ length candidates

  -- THE LIST: whatever is lent
  pub list_filled : Filled (seen (write offset w v) image list)
  list_filled =
      seen_either Filled image list
      (λ t h. record { candidates = []; fit = omega arith; laid_out = refl; count = λ e. absurd (omega arith) })
      (write offset w v)
      (λ c good is fine. go (width_of w) c is)
    where
      filled : (x : AccessWidth) → Filled (answers (Call.write offset x v (length list / 4)) image list)
      filled x =
          let d = meaning image in
          let c : Call = Call.write offset x v (length list / 4) in
          record { candidates = (reply c d).candidates; fit = candidates_fit d offset x v (length list / 4); laid_out = refl; count = number (reply c d) refl (write_lists d offset x v (length list / 4)) }
        where
          number : (r : Reply) → reply (Call.write offset x v (length list / 4)) (meaning image) ≡ r → Lists (meaning image) offset x v (length list / 4) r
              → (told r.answer).number ≡ 0 → (told r.answer).out ≡ length r.candidates
          number r e (turned_down n ws) z = let h = core-refusal (Call.write offset x v (length list / 4)) (meaning image) n ws (ap (λ (y : Reply). y.answer) e) in absurd (omega arith)
          number r e (listed cs h) z = refl

      go : (a : Option AccessWidth) (c : Call) → with_width a (λ x. Call.write offset x v (length list / 4)) ≡ Some c → Filled (answers c image list)
      go (Some x) c e = subst (λ (q : Call). Filled (answers q image list)) (same_Some _ _ e) (filled x)
      go None c e = cc

  fits : length (flat 4 list_filled.candidates) ≤ length list
  fits = let h = list_filled.fit in rw (length-flat 4 list_filled.candidates) (omega arith)

  -- it stays as long as it was
  pub list_length : length (seen (write offset w v) image list).list ≡ length list
  list_length = ap length list_filled.laid_out ∙ length-laid (flat 4 list_filled.candidates) list fits

  -- past 4 times the count that is told every byte stays
  pub list_past : (seen (write offset w v) image list).told.number ≡ 0 → (j : ℕ) → 4 * (seen (write offset w v) image list).told.out ≤ j → get_elem? (seen (write offset w v) image list).list j ≡ get_elem? list j
  list_past e j h =
      let n = list_filled.count e in
      ap (λ (l : List ℕ). get_elem? l j) list_filled.laid_out ∙ laid_past (flat 4 list_filled.candidates) list j fits (rw (length-flat 4 list_filled.candidates) (omega arith))

  -- and so do one to three bytes that are no place
  pub left_over : (j : ℕ) → 4 * (length list / 4) ≤ j → get_elem? (seen (write offset w v) image list).list j ≡ get_elem? list j
  left_over j h =
      let n = list_filled.fit in
      ap (λ (l : List ℕ). get_elem? l j) list_filled.laid_out ∙ laid_past (flat 4 list_filled.candidates) list j fits (rw (length-flat 4 list_filled.candidates) (omega arith))
