-- The theorem on the order of calls, `ordered`, by four facts of ONE call: it keeps what it does not name; what is held under a name
-- changes by what is held there alone; its reply rests on what it names; the names hold all of the state.
use Rattle.std.specs.Prelude.{ℕ, ◌≡◌, refl, List}
use Rattle.std.proofs.Math.Path.{sym, ap}
use Rattle.std.proofs.Common.{◌∙◌}
use Rattle.theory.specs.Runs.{run, naming}
use Rattle.theory.specs.Footprint.{Footprint, replay, reordered}
use Rattle.place.specs.Table.{table_size}
use Rattle.place.specs.TableLaws.{in_range}
use Rattle.controller.specs.declared.controller.ControllerConfig.{ControllerConfig}
use Rattle.model.specs.Calls.{Distributor, Call, created, step, reply}
use Rattle.order.specs.Names.{Name, the_switch, spi, names}
use Rattle.order.specs.OrderFacts.{contents, state_with, local_state, whole_state, slot_same}
use Rattle.order.specs.Order.{named, Ordered, Settled}
use Rattle.order.proofs.OrderFacts.{keeps}
use Rattle.order.proofs.ReplyFacts.{reply_rests}

-- ---- the four facts, of the states with the settings and the count of one creation

module _ (c : ControllerConfig) (n : ℕ) where
  settled : (d : Distributor) → Settled c n d → d ≡ state_with c n d.switch d.slots
  settled d ok = let p = ok.config in let q = ok.count in λ j. record { config = p j; switch = d.switch; count = q j; slots = d.slots }

  contents_same : (m : Name) (d e : Distributor) → Settled c n d → Settled c n e → contents m d ≡ contents m e → contents m (state_with c n d.switch d.slots) ≡ contents m (state_with c n e.switch e.slots)
  contents_same m d e okd oke h = sym (ap (contents m) (settled d okd)) ∙ h ∙ ap (contents m) (settled e oke)

  pub footprint : Footprint (names c (table_size n)) step reply contents (Settled c n)
  unfolding step
  footprint =
      record {
        stays = λ k d ok. record { config = ok.config; count = ok.count };
        keeps = λ k m d ok e. keeps k m d (rw (ok.config, ok.count) e);
        local = λ k m d e okd oke h.
            ap (λ (x : Distributor). contents m (step k x)) (settled d okd)
            ∙ local_state c n k m d.switch e.switch d.slots e.slots (contents_same m d e okd oke h)
            ∙ sym (ap (λ (x : Distributor). contents m (step k x)) (settled e oke));
        told = λ k d e okd oke h.
            ap (reply k) (settled d okd)
            ∙ reply_rests c n d.switch e.switch d.slots e.slots k (h the_switch)
            (λ i t inside. slot_same d.slots e.slots i (in_range (table_size n) i inside).0 (h (spi i) t))
            ∙ sym (ap (reply k) (settled e oke));
        whole = λ d e okd oke h.
            settled d okd
            ∙ whole_state c n d.switch e.switch d.slots e.slots (λ m. contents_same m d e okd oke (h m))
            ∙ sym (settled e oke);
      }

-- ---- the theorem

module _ (d : Distributor) where
  here : Settled d.config d.count d
  here = record { config = refl; count = refl }

  replay_contents : (calls : List Call) (m : Name) → contents m (run step calls d) ≡ contents m (run step (naming (named d) m calls) d)
  replay_contents calls m = replay (named d) step reply contents (Settled d.config d.count) (footprint d.config d.count) m calls d here

  pub ordered : Ordered d
  ordered =
      record {
        replay_spi = λ calls i h. slot_same (run step calls d).slots (run step (naming (named d) (spi i) calls) d).slots i h (replay_contents calls (spi i));
        replay_switch = λ calls. replay_contents calls the_switch;
        reordering = λ xs ys m. reordered (named d) step reply contents (Settled d.config d.count) (footprint d.config d.count) xs ys m d here;
      }

-- from creation, with any settings and any number of SPIs
pub ordered_from_creation : (c : ControllerConfig) (n : ℕ) → Ordered (created c n)
ordered_from_creation c n = ordered (created c n)
