-- An SPI as it is kept: 8 bytes, read as one number whose lowest byte is byte 0.
use Rattle.std.specs.Prelude.{ℕ, ◌+◌, ◌*◌, ◌/◌, ◌%◌, ◌^◌, Bool, not, ◌&&◌, ◌||◌, cond, eqb, Option, Some, None}
use mir.Val.{bool_byte}
use Rattle.attributes.specs.declared.attributes.GicAffinity.{GicAffinity}
use Rattle.attributes.specs.declared.attributes.TriggerMode.{TriggerMode}
use Rattle.attributes.specs.declared.attributes.TriggerMode.TheVariants.{Edge, Level}
use Rattle.attributes.specs.Affinity.{affinity}
use Rattle.identifiers.specs.declared.types.IntId.{IntId}
use Rattle.life.specs.declared.life.Life.{Life}
use Rattle.life.specs.Life.{flags, redelivery, line}
use Rattle.interrupt.specs.Records.{restored, route_in, mask_in}
use Rattle.ownership.specs.declared.ownership.Ownership.{Ownership}
use Rattle.slot.specs.declared.slot.Slot.{Slot}
use Rattle.image.specs.Bytes.{byte_of, bit_of}

-- ---- what the bytes say

-- byte 0: enabled, pending, active, in flight, redelivery, line, edge and claimed, from bit 0 up
abbrev pub life_in : ℕ → Life
life_in w = flags (bit_of 0 0 w) (bit_of 0 1 w) (bit_of 0 2 w) (bit_of 0 3 w) (bit_of 0 4 w) (bit_of 0 5 w)

abbrev pub trigger_in : ℕ → TriggerMode
trigger_in w = cond (bit_of 0 6 w) Edge Level

abbrev pub claimed_in : ℕ → Bool
claimed_in w = bit_of 0 7 w

-- byte 1: fixed, route present, mask present
abbrev pub fixed_in : ℕ → Bool
fixed_in w = bit_of 1 0 w

abbrev pub routed_in : ℕ → Bool
routed_in w = bit_of 1 1 w

abbrev pub masked_in : ℕ → Bool
masked_in w = bit_of 1 2 w

abbrev pub ownership_in : ℕ → Ownership
ownership_in w = record { explicitly_owned = claimed_in w; fixed_route = fixed_in w }

-- byte 2 is the priority and byte 3 the target mask; bytes 4 to 7 are the affinity levels 0 to 3
abbrev pub route_in_word : ℕ → Option GicAffinity
route_in_word w = cond (routed_in w) (Some (affinity (byte_of 7 w) (byte_of 6 w) (byte_of 5 w) (byte_of 4 w))) None

abbrev pub mask_in_word : ℕ → Option ℕ
mask_in_word w = cond (masked_in w) (Some (byte_of 3 w)) None

-- the SPI of this INTID that the bytes mean, where they are good
unfoldable pub slot_in : ℕ → ℕ → Slot
slot_in raw w = record { interrupt = restored (IntId.Spi (record { 0 = raw })) (life_in w) (record { 0 = byte_of 2 w }) (trigger_in w) (route_in_word w) (mask_in_word w); ownership = ownership_in w }

-- bytes are bad where a spare bit or an absent value is not 0, where there are both a route and a mask, or a fixed mark without a claim
unfoldable pub good_word : ℕ → Bool
good_word w =
    eqb (w / 2 ^ 11 % 32) 0 && not (routed_in w && masked_in w) && (not (fixed_in w) || claimed_in w)
    && (routed_in w || eqb (w / 2 ^ 32) 0) && (masked_in w || eqb (byte_of 3 w) 0)

-- ---- the bytes of an SPI

abbrev pub life_word : Life → ℕ
life_word f = bool_byte f.enabled + 2 * bool_byte f.pending + 4 * bool_byte f.active + 8 * bool_byte f.inflight + 16 * bool_byte (redelivery f) + 32 * bool_byte (line f)

abbrev pub edge_bit : TriggerMode → ℕ
edge_bit Edge = 1
edge_bit Level = 0

abbrev pub route_word : Option GicAffinity → ℕ
route_word (Some a) = 2 ^ 9 + 2 ^ 32 * a.aff0 + 2 ^ 40 * a.aff1 + 2 ^ 48 * a.aff2 + 2 ^ 56 * a.aff3
route_word None = 0

abbrev pub mask_word : Option ℕ → ℕ
mask_word (Some m) = 2 ^ 10 + 2 ^ 24 * m
mask_word None = 0

unfoldable pub word_of : Slot → ℕ
word_of s =
    life_word s.interrupt.life + 2 ^ 6 * edge_bit s.interrupt.trigger + 2 ^ 7 * bool_byte s.ownership.explicitly_owned
    + 2 ^ 8 * bool_byte s.ownership.fixed_route + 2 ^ 16 * s.interrupt.priority.0 + mask_word (mask_in s.interrupt) + route_word (route_in s.interrupt)
