-- A machine that stores nothing passes both theorems on order, on itself. They say something of a machine only by the definitions of
-- `step` and `answer` that they are stated over.
use Rattle.std.specs.Prelude.{refl, Bool}
use Rattle.theory.specs.Footprint.{Footprint}

module _ {Call Name Answer : Type 0} (names : Call → Name → Bool) (says : Call → Answer) where
  -- no state; a call is answered by the call alone
  pub forgetful : Footprint {State = Unit {0}} {Held = λ n. Unit {0}} names (λ k s. s) (λ k s. says k) (λ n s. s) (λ s. Unit {0})
  forgetful =
      record {
        stays = λ k s ok. ok;
        keeps = λ k n s ok e. refl;
        local = λ k n s t oks okt e. e;
        told = λ k s t oks okt h. refl;
        whole = λ s t oks okt h. refl;
      }
