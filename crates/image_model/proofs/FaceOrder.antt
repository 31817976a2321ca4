-- The face over runs of calls. From the image of a Distributor, any calls of the face leave the image of what the core's calls make of it,
-- so the core's theorems on order hold of images, byte by byte.
use Rattle.std.specs.Prelude.{ℕ, zero, suc, ◌+◌, ◌-◌, ◌*◌, ◌/◌, ◌^◌, ◌<◌, ◌≡◌, refl, Bool, true, false, ◌&&◌, cond, List, [], ◌∷◌, ◌++◌, ◌≢◌, leb, eqb, length, get_or, take, Some, None, Option}
use Rattle.std.proofs.Common.{sym, ap, subst, ◌∙◌, arith, leb-true, take_at}
use Rattle.std.proofs.Math.Path.{subst⁻¹}
use Rattle.std.proofs.Math.Option.{some, some-injective}
use Rattle.std.proofs.Math.ListN.{get_elem?}
use Rattle.theory.specs.Lists.{tabulate, laid}
use Rattle.theory.specs.Elements.{at_some}
use Rattle.theory.specs.Runs.{run, answers, naming, Matching}
use Rattle.theory.specs.Footprint.{Footprint, replay, reordered}
use Rattle.identifiers.specs.Answer.{done, refused}
use Rattle.attributes.specs.Affinity.{from_mpidr}
use Rattle.attributes.specs.AffinityLaws.{Bytes, from_mpidr_bytes}
use Rattle.operation.specs.declared.operation.Operation.TheVariants.{SetLevel, Pulse}
use Rattle.place.specs.Table.{capacity, table_size}
use Rattle.place.specs.TableLaws.{size-asked}
use Rattle.controller.specs.declared.controller.ControllerConfig.{ControllerConfig}
use Rattle.changes.specs.declared.change.Change.{Change}
use Rattle.changes.specs.declared.change.Change.TheVariants.{Claim, ClaimTo, Release, Operate}
use Rattle.registers.specs.declared.register.AccessWidth.{AccessWidth}
use Rattle.slot.specs.SettingsLaws.{TypedChange}
use Rattle.slot.specs.declared.slot.Slot.{Slot}
use Rattle.slot.specs.BankRule.{slot_of}
use Rattle.model.specs.Calls.{Distributor, Call, Reply, size, created, step, reply}
use Rattle.model.specs.Typed.{TypedCall}
use Rattle.order.specs.Names.{Name, the_switch, spi, names}
use Rattle.order.specs.OrderFacts.{contents, slot_same}
use Rattle.order.specs.Order.{Settled}
use Rattle.order.proofs.Order.{footprint}
use Rattle.image.specs.Bytes.{byte_of, flat}
use Rattle.image.specs.ByteLaws.{length-flat, flat_append, byte_of_number}
use Rattle.image.specs.Kept.{word_of}
use Rattle.image.specs.Header.{header_of, good_image, header_words}
use Rattle.image.specs.HeaderLaws.{Fitting}
use Rattle.image.specs.Meaning.{meaning, image_of}
use Rattle.image.specs.MeaningLaws.{Kept, Whole}
use Rattle.image.proofs.MeaningLaws.{image_whole, image_meaning, meaning_image, record_there, kept-created, kept_step}
use Rattle.image_model.specs.declared.told.Told.{Told}
use Rattle.image_model.specs.Told.{told, bad_image}
use Rattle.registers.specs.Registers.{width_of}
use Rattle.image_model.specs.Face.{FaceCall, read, write, host, Seen, seen, named_in, good_named, image_after, refuses}
use Rattle.image_model.specs.Create.{settings, create_seen}
use Rattle.image_model.specs.GoodLaws.{good_all}
use Rattle.image_model.proofs.FaceLaws.{after_means, after_whole}
use Rattle.image_model.specs.FaceRefusals.{with_width, core_call}
use Rattle.image_model.proofs.FaceRefusals.{same_Some, bad_width_lem, core-answers, core-number}
use Rattle.image_model.specs.FaceOrder.{Request, Heard, leaves, hears, TypedRequest, AllTyped, on_call, heard_on, named_on, core_step, core_hears, request_names, calls, core_calls}

-- ---- calls, one after another

run-core : (rs : List Request) (d : Distributor) → run core_step rs d ≡ run step (core_calls rs) d
run-core [] d = refl
run-core (r ∷ rs) d = go (core_call r.call r.list) (λ e. run-core rs e)
  where
    go : (o : Option Call) → ((e : Distributor) → run core_step rs e ≡ run step (core_calls rs) e) → run core_step rs (on_call o d) ≡ run step (calls o ++ core_calls rs) d
    go None rest = rest d
    go (Some c) rest = rest (step c d)

-- ---- one request on the image of a Distributor

typed_core : (r : Request) → TypedRequest r → (c : Call) → core_call r.call r.list ≡ Some c → TypedCall c
typed_core r t c e = go r.call refl e
  where
    other : (k : Call) → ((h : Change) (raw : ℕ) → k ≡ Call.change h raw → ◌≡◌ {A = ℕ} 0 1) → Some k ≡ Some c → TypedCall c
    other k apart e = subst TypedCall (same_Some _ _ e) (record { change_typed = λ h raw z. let w = apart h raw z in absurd (omega arith) })

    width : (a : Option AccessWidth) (k : AccessWidth → Call) → ((x : AccessWidth) (h : Change) (raw : ℕ) → k x ≡ Call.change h raw → ◌≡◌ {A = ℕ} 0 1) → with_width a k ≡ Some c → TypedCall c
    width (Some x) k apart e = other (k x) (apart x) e
    width None k apart e = cc

    go : (q : FaceCall) → r.call ≡ q → core_call q r.list ≡ Some c → TypedCall c
    go (read offset w) z e = width (width_of w) (λ x. Call.read offset x) (λ x h raw y. cc) e
    go (write offset w v) z e = width (width_of w) (λ x. Call.write offset x v (length r.list / 4)) (λ x h raw y. cc) e
    go (host h raw) z e =
        subst TypedCall (same_Some _ _ e)
        (record { change_typed = λ g n y. let same : h ≡ g = cc in subst TypedChange same (t.change_typed h raw z) })

-- the image of a Distributor that can be kept has no bad record
image_named : (c : Call) (d : Distributor) → Kept d → good_named c (image_of d) ≡ true
image_named c d kept =
    let whole = image_whole d kept in
    let same : size (meaning (image_of d)) ≡ d.count = ap size (image_meaning d kept) ∙ size-asked d.count kept.fits.count in
    let count : (header_of (image_of d)).spi_count ≡ d.count = ap (λ (e : Distributor). e.count) (image_meaning d kept) in
    good_all (named_in (image_of d) c) (size (meaning (image_of d))) (image_of d) (λ i p q n. whole.records (i - 32) (omega arith))

image_step : (c : Call) (d : Distributor) → Kept d → TypedCall c → image_after c (image_of d) ≡ image_of (step c d)
image_step c d kept typed =
    let l = image_of d in
    let w = image_whole d kept in
    let v = after_whole c l w.bytes w.good typed w.records in
    sym (meaning_image (image_after c l) v.bytes v.good v.records) ∙ ap image_of (after_means c l w.bytes w.good typed ∙ ap (step c) (image_meaning d kept))

module _ (r : Request) (d : Distributor) (kept : Kept d) where
  -- it tells what the core replies
  pub hears-core : hears r (image_of d) ≡ core_hears r d
  hears-core = go (core_call r.call r.list) refl
    where
      good : good_image (image_of d) ≡ true
      good = (image_whole d kept).good

      go : (o : Option Call) → core_call r.call r.list ≡ o → hears r (image_of d) ≡ heard_on o r.list d
      go None e = ap (λ (s : Seen). record { told = s.told; list = s.list }) (bad_width_lem r.call (image_of d) r.list good e)
      go (Some c) e =
          ap (λ (s : Seen). record { told = s.told; list = s.list }) (core-answers r.call (image_of d) r.list good c e (image_named c d kept))
          ∙ ap (λ (x : Distributor). heard_on (Some c) r.list x) (image_meaning d kept)

  module _ (typed : TypedRequest r) where
    -- and leaves the image of what the core's call makes
    pub leaves-core : leaves r (image_of d) ≡ image_of (core_step r d)
    leaves-core = go (core_call r.call r.list) refl
      where
        good : good_image (image_of d) ≡ true
        good = (image_whole d kept).good

        go : (o : Option Call) → core_call r.call r.list ≡ o → leaves r (image_of d) ≡ image_of (on_call o d)
        go None e = ap (λ (s : Seen). s.image) (bad_width_lem r.call (image_of d) r.list good e)
        go (Some c) e =
            ap (λ (s : Seen). s.image) (core-answers r.call (image_of d) r.list good c e (image_named c d kept))
            ∙ image_step c d kept (typed_core r typed c e)

    kept_request : Kept (core_step r d)
    kept_request = go (core_call r.call r.list) refl
      where
        go : (o : Option Call) → core_call r.call r.list ≡ o → Kept (on_call o d)
        go None e = kept
        go (Some c) e = kept_step c d (typed_core r typed c e) kept

-- ---- any requests, one after another

kept_requests : (rs : List Request) (d : Distributor) → Kept d → AllTyped rs → Kept (run core_step rs d)
kept_requests [] d kept all = kept
kept_requests (r ∷ rs) d kept all = kept_requests rs (core_step r d) (kept_request r d kept (all 0 r refl)) (λ j q e. all (suc j) q e)

images : (rs : List Request) (d : Distributor) → Kept d → AllTyped rs → run leaves rs (image_of d) ≡ image_of (run core_step rs d)
images [] d kept all = refl
images (r ∷ rs) d kept all =
    ap (run leaves rs) (leaves-core r d kept (all 0 r refl))
    ∙ images rs (core_step r d) (kept_request r d kept (all 0 r refl)) (λ j q e. all (suc j) q e)

heard : (rs : List Request) (d : Distributor) → Kept d → AllTyped rs → answers leaves hears rs (image_of d) ≡ answers core_step core_hears rs d
heard [] d kept all = refl
heard (r ∷ rs) d kept all =
    let first = hears-core r d kept in
    let rest = ap (answers leaves hears rs) (leaves-core r d kept (all 0 r refl)) ∙ heard rs (core_step r d) (kept_request r d kept (all 0 r refl)) (λ j q e. all (suc j) q e) in
    λ i. first i ∷ rest i

module _ (rs : List Request) (d : Distributor) (kept : Kept d) (all : AllTyped rs) where
  -- AFTER ANY REQUESTS, refused ones included, the image is that of what the core's calls make of the Distributor
  pub runs_image : run leaves rs (image_of d) ≡ image_of (run step (core_calls rs) d)
  runs_image = images rs d kept all ∙ ap image_of (run-core rs d)

  -- each request hears what the core replies then
  pub runs_heard : answers leaves hears rs (image_of d) ≡ answers core_step core_hears rs d
  runs_heard = heard rs d kept all

  -- the image stays wholly good
  pub runs_whole : Whole (run leaves rs (image_of d))
  runs_whole = subst⁻¹ Whole (images rs d kept all) (image_whole (run core_step rs d) (kept_requests rs d kept all))

  -- so no request is ever refused 6
  pub never_six : (k : FaceCall) (list : List ℕ) → (seen k (run leaves rs (image_of d)) list).told.number ≢ 6
  never_six k list six =
      let e = run core_step rs d in
      let r : Request = record { call = k; list = list } in
      let same : (seen k (run leaves rs (image_of d)) list).told ≡ (core_hears r e).told =
      ap (λ (l : List ℕ). (seen k l list).told) (images rs d kept all) ∙ ap (λ (h : Heard). h.told) (hears-core r e (kept_requests rs d kept all)) in
      go (core_call k list) e (ap (λ (t : Told). t.number) (sym same) ∙ six)
    where
      go : (o : Option Call) (e : Distributor) → (heard_on o list e).told.number ≡ 6 → ⊥
      go None e z = omega arith
      go (Some c) e z = let h = core-number c e in omega arith

-- ---- from creation, by exported calls

-- a creation that is done leaves the image of a Distributor just created, and one that can be kept
pub create_starts : (count ownership flags limit frame : ℕ) (image : List ℕ) → limit < 2 ^ 32 → frame < 2 ^ 64 → (create_seen count ownership flags limit frame image).told.number ≡ 0
    → let d = created (settings ownership flags limit frame) count in ((create_seen count ownership flags limit frame image).image ≡ image_of d) × Kept d
create_starts count ownership flags limit frame image l f = go (leb count capacity) (eqb (length image) (24 + 8 * count) && leb ownership 1 && leb flags 15) refl
  where
    d : Distributor
    d = created (settings ownership flags limit frame) count

    go : (x y : Bool) → leb count capacity ≡ x
        → let s = cond x (cond y (record { told = told (done []); image = image_of d; list = [] }) (refuses bad_image image [])) (refuses (told (cond x (done []) (refused 1 (1020 ∷ [])))) image []) in
        s.told.number ≡ 0 → (s.image ≡ image_of d) × Kept d
    go true true e z = (refl, kept-created (settings ownership flags limit frame) count (record { count = leb-true count capacity e; limit = l; size = f }))
    go true false e z = absurd (omega arith)
    go false y e z = absurd (omega arith)

-- every exported call is typed: an access, a claim, a physical claim of any number unpacked as at IROUTER, a release, a line and a pulse
pub exported_typed : (list : List ℕ) (offset w v a raw : ℕ) (on : Bool)
    → TypedRequest (record { call = read offset w; list = list })
    × TypedRequest (record { call = write offset w v; list = list })
    × TypedRequest (record { call = host Claim raw; list = list })
    × TypedRequest (record { call = host (ClaimTo (from_mpidr a)) raw; list = list })
    × TypedRequest (record { call = host Release raw; list = list })
    × TypedRequest (record { call = host (Operate (SetLevel on)) raw; list = list })
    × TypedRequest (record { call = host (Operate Pulse) raw; list = list })
exported_typed list offset w v a raw on = (
  record { change_typed = λ h n e. other cc },
  record { change_typed = λ h n e. other cc },
  change Claim (record { priority = λ p e. other cc; route = λ b e. other cc; claim = λ b e. other cc; mask = λ m e. other cc }),
  change (ClaimTo (from_mpidr a)) (record { priority = λ p e. other cc; route = λ b e. other cc; claim = λ b e. let z : from_mpidr a ≡ b = cc in subst Bytes z (from_mpidr_bytes a); mask = λ m e. other cc }),
  change Release (record { priority = λ p e. other cc; route = λ b e. other cc; claim = λ b e. other cc; mask = λ m e. other cc }),
  change (Operate (SetLevel on)) (record { priority = λ p e. other cc; route = λ b e. other cc; claim = λ b e. other cc; mask = λ m e. other cc }),
  change (Operate Pulse) (record { priority = λ p e. other cc; route = λ b e. other cc; claim = λ b e. other cc; mask = λ m e. other cc }),
)
  where
    other : {A : Type 0} → ◌≡◌ {A = ℕ} 0 1 → A
    other z = absurd (omega arith)

    change : (x : Change) → TypedChange x → TypedRequest (record { call = host x raw; list = list })
    change x t = record { change_typed = λ h n e. let z : x ≡ h = cc in subst TypedChange z t }

-- so the image that creation made, after any requests
pub from_creation : (c : ControllerConfig) (n : ℕ) → Fitting c n → (rs : List Request) → AllTyped rs
    → run leaves rs (image_of (created c n)) ≡ image_of (run step (core_calls rs) (created c n))
from_creation c n fits rs all = runs_image rs (created c n) (kept-created c n fits) all

-- ---- the order of requests

module _ (c : ControllerConfig) (n : ℕ) where
  abbrev named : Request → Name → Bool
  named = request_names c (table_size n)

  abbrev core : Footprint (names c (table_size n)) step reply contents (Settled c n)
  core = footprint c n

  request_footprint : Footprint named core_step core_hears contents (Settled c n)
  request_footprint =
      record {
        stays = λ r d ok. stays (core_call r.call r.list) d ok;
        keeps = λ r m d ok e. keeps (core_call r.call r.list) m d ok e;
        local = λ r m d e okd oke h. local (core_call r.call r.list) m d e okd oke h;
        told = λ r d e okd oke h. same (core_call r.call r.list) r.list d e okd oke h;
        whole = core.whole;
      }
    where
      stays : (o : Option Call) (d : Distributor) → Settled c n d → Settled c n (on_call o d)
      stays None d ok = ok
      stays (Some k) d ok = core.stays k d ok

      keeps : (o : Option Call) (m : Name) (d : Distributor) → Settled c n d → named_on c (table_size n) o m ≡ false → contents m (on_call o d) ≡ contents m d
      keeps None m d ok e = refl
      keeps (Some k) m d ok e = core.keeps k m d ok e

      local : (o : Option Call) (m : Name) (d e : Distributor) → Settled c n d → Settled c n e → contents m d ≡ contents m e → contents m (on_call o d) ≡ contents m (on_call o e)
      local None m d e okd oke h = h
      local (Some k) m d e okd oke h = core.local k m d e okd oke h

      same : (o : Option Call) (list : List ℕ) (d e : Distributor) → Settled c n d → Settled c n e → ((m : Name) → named_on c (table_size n) o m ≡ true → contents m d ≡ contents m e)
          → heard_on o list d ≡ heard_on o list e
      same None list d e okd oke h = refl
      same (Some k) list d e okd oke h = ap (λ (r : Reply). record { told = told r.answer; list = laid (flat 4 r.candidates) list }) (core.told k d e okd oke h)

  settled_run : (rs : List Request) (d : Distributor) → Settled c n d → Settled c n (run core_step rs d)
  settled_run [] d ok = ok
  settled_run (r ∷ rs) d ok = settled_run rs (core_step r d) (request_footprint.stays r d ok)

-- ---- typed requests, in another list

cons_typed : (r : Request) (rs : List Request) → TypedRequest r → AllTyped rs → AllTyped (r ∷ rs)
cons_typed r rs t rest zero q e = subst TypedRequest (some-injective r q e) t
cons_typed r rs t rest (suc j) q e = rest j q e

naming_typed : (f : Request → Name → Bool) (m : Name) (rs : List Request) → AllTyped rs → AllTyped (naming f m rs)
naming_typed f m [] all = all
naming_typed f m (r ∷ rs) all = go (f r m) (naming_typed f m rs (λ j q e. all (suc j) q e))
  where
    go : (b : Bool) → AllTyped (naming f m rs) → AllTyped (cond b (r ∷ naming f m rs) (naming f m rs))
    go true rest = cons_typed r (naming f m rs) (all 0 r refl) rest
    go false rest = rest

matched_typed : (f : Request → Name → Bool) (xs ys : List Request) → Matching f xs ys → AllTyped xs → AllTyped ys
matched_typed f xs ys m all j r e =
    let l = at_some ys j r e in
    let there : get_elem? ys (m.to (m.from j)) ≡ get_elem? xs (m.from j) = m.same (m.from j) (m.from_in j l) in
    all (m.from j) r (sym there ∙ ap (get_elem? ys) (m.to_from j l) ∙ e)

-- ---- the theorems, from the image of a Distributor that can be kept, such as one just created

header_first : (d : Distributor) → take 24 (image_of d) ≡ flat 8 (header_words d.config d.switch d.count)
header_first d =
    let head : List ℕ = header_words d.config d.switch d.count in
    ap (take 24) (flat_append 8 head (tabulate (λ p. word_of (slot_of d.slots (32 + p))) 0 d.count)) ∙ take_at (flat 8 head) _ 24 (length-flat 8 head)

module _ (d : Distributor) (kept : Kept d) where
  abbrev pub named_here : Request → Name → Bool
  named_here = request_names d.config (size d)

  here : Settled d.config d.count d
  here = record { config = refl; count = refl }

  there : (rs : List Request) → Settled d.config d.count (run core_step rs d)
  there rs = settled_run d.config d.count rs d here

  replayed : (rs : List Request) (m : Name) → contents m (run core_step rs d) ≡ contents m (run core_step (naming named_here m rs) d)
  replayed rs m = replay named_here core_step core_hears contents (Settled d.config d.count) (request_footprint d.config d.count) m rs d here

  -- REPLAY. After any requests, each of the 8 bytes of an SPI is what running only those that name the SPI gives
  pub replay_bytes : (rs : List Request) → AllTyped rs → (p : ℕ) → p < d.count → (j : ℕ) → j < 8
      → get_or (run leaves rs (image_of d)) (24 + 8 * p + j) 0 ≡ get_or (run leaves (naming named_here (spi (32 + p)) rs) (image_of d)) (24 + 8 * p + j) 0
  replay_bytes rs all p less j h =
      let qs = naming named_here (spi (32 + p)) rs in
      let few = naming_typed named_here (spi (32 + p)) rs all in
      let one = run core_step rs d in
      let two = run core_step qs d in
      let slot : slot_of one.slots (32 + p) ≡ slot_of two.slots (32 + p) = slot_same one.slots two.slots (32 + p) (omega arith) (replayed rs (spi (32 + p))) in
      let first = byte rs all p less j h in
      let second = byte qs few p less j h in
      first ∙ ap (λ (s : Slot). byte_of j (word_of s)) slot ∙ sym second
    where
      byte : (qs : List Request) → AllTyped qs → (p : ℕ) → p < d.count → (j : ℕ) → j < 8 → get_or (run leaves qs (image_of d)) (24 + 8 * p + j) 0 ≡ byte_of j (word_of (slot_of (run core_step qs d).slots (32 + p)))
      byte qs typed p less j h =
          let e = run core_step qs d in
          let k = kept_requests qs d kept typed in
          ap (λ (l : List ℕ). get_or l (24 + 8 * p + j) 0) (images qs d kept typed)
          ∙ sym (byte_of_number (image_of e) (image_whole e k).bytes 8 (24 + 8 * p) j h)
          ∙ ap (byte_of j) (record_there e k p (rw (there qs).count less))

  -- and the header what running only those that name the switch gives
  pub replay_header : (rs : List Request) → AllTyped rs → take 24 (run leaves rs (image_of d)) ≡ take 24 (run leaves (naming named_here the_switch rs) (image_of d))
  replay_header rs all =
      let qs = naming named_here the_switch rs in
      head rs all ∙ ap (λ (on : Bool). flat 8 (header_words d.config on d.count)) (replayed rs the_switch) ∙ sym (head qs (naming_typed named_here the_switch rs all))
    where
      head : (qs : List Request) → AllTyped qs → take 24 (run leaves qs (image_of d)) ≡ flat 8 (header_words d.config (run core_step qs d).switch d.count)
      head qs typed =
          let e = run core_step qs d in
          let s = there qs in
          let p = s.config in
          let q = s.count in
          ap (take 24) (images qs d kept typed) ∙ header_first e ∙ (λ i. flat 8 (header_words (p i) e.switch (q i)))

  -- REORDERING. Two lists of requests, matched one to one, each with the same, so that every two that name an SPI or the switch in common
  -- keep their order: the images at the end are equal, and each request hears what its partner hears
  pub reorder_images : (xs ys : List Request) → AllTyped xs → (m : Matching named_here xs ys)
      → (run leaves xs (image_of d) ≡ run leaves ys (image_of d))
      × ((i : ℕ) → i < length xs → get_elem? (answers leaves hears xs (image_of d)) i ≡ get_elem? (answers leaves hears ys (image_of d)) (m.to i))
  reorder_images xs ys all m =
      let ally = matched_typed named_here xs ys m all in
      let (state, told-so) = reordered named_here core_step core_hears contents (Settled d.config d.count) (request_footprint d.config d.count) xs ys m d here in (
        images xs d kept all ∙ ap image_of state ∙ sym (images ys d kept ally),
        (λ i h. ap (λ (l : List Heard). get_elem? l i) (heard xs d kept all) ∙ told-so i h ∙ sym (ap (λ (l : List Heard). get_elem? l (m.to i)) (heard ys d kept ally))),
      )
