-- What an image can keep of an SPI, the flags of its first two bytes, and the route and the target mask in the others.
use Rattle.std.specs.Prelude.{ℕ, ◌<◌, Bool, not, List, [], ◌∷◌, is_some, unwrap_or, IfSome}
use Rattle.std.proofs.Math.Path.{◌≡◌}
use Rattle.std.proofs.Math.Bool.{true}
use Rattle.attributes.specs.declared.attributes.GicAffinity.{GicAffinity}
use Rattle.attributes.specs.Affinity.{affinity}
use Rattle.attributes.specs.AffinityLaws.{Bytes}
use Rattle.identifiers.specs.declared.types.IntId.{IntId}
use Rattle.life.specs.Life.{redelivery, line}
use Rattle.interrupt.specs.Records.{is_level}
use Rattle.operation.specs.Laws.{settings_of}
use Rattle.operation.specs.Tidy.{Tidy}
use Rattle.slot.specs.declared.slot.Slot.{Slot}

-- what an SPI of this INTID is like that an image can keep
pub record Held (raw : ℕ) (s : Slot) : Type 0 where
  pub intid : s.interrupt.intid ≡ IntId.Spi (record { 0 = raw })
  pub tidy : Tidy (settings_of s.interrupt)
  pub priority : s.interrupt.priority.0 < 256
  pub mask : IfSome s.interrupt.cpu_target_mask (λ m. m < 256)
  pub route : IfSome s.interrupt.route Bytes
  pub fixed : s.ownership.fixed_route ≡ true → s.ownership.explicitly_owned ≡ true

-- the flags of byte 0 and of byte 1, from bit 0 up
abbrev pub first_flags : Slot → List Bool
first_flags s =
    let f = s.interrupt.life in
    f.enabled ∷ f.pending ∷ f.active ∷ f.inflight ∷ redelivery f ∷ line f ∷ not (is_level s.interrupt) ∷ s.ownership.explicitly_owned ∷ []

abbrev pub second_flags : Slot → List Bool
second_flags s = s.ownership.fixed_route ∷ is_some s.interrupt.route ∷ is_some s.interrupt.cpu_target_mask ∷ []

-- the target mask and the affinity, 0 where they are absent
abbrev pub mask_kept : Slot → ℕ
mask_kept s = unwrap_or s.interrupt.cpu_target_mask 0

abbrev pub route_kept : Slot → GicAffinity
route_kept s = unwrap_or s.interrupt.route (affinity 0 0 0 0)
