-- More examples beside the board's twelve: widths and offsets, the table's end in both modes, and that a claim is had once.
use Rattle.std.specs.Prelude.{◌+◌, ◌^◌, ◌≡◌, refl, true, [], ◌∷◌}
use Rattle.theory.specs.Runs.{run}
use Rattle.identifiers.specs.Answer.{done, refused}
use Rattle.interrupt.specs.Records.{fresh, deliverable_in, with_life, trigger_to}
use Rattle.attributes.specs.declared.attributes.TriggerMode.TheVariants.{Edge}
use Rattle.operation.specs.declared.operation.Operation.TheVariants.{SetEnabled, SetTrigger}
use Rattle.registers.specs.declared.register.AccessWidth.TheVariants.{Byte, Dword}
use Rattle.decoding.specs.Decoding.{decode}
use Rattle.changes.specs.declared.change.Change.TheVariants.{Claim, Operate}
use Rattle.model.specs.Calls.{Distributor, read, change, reply, step, created}
use Rattle.examples.specs.Ends.{ends_same}
use Rattle.examples.specs.Board.{K, Full, told, then, writes}

-- 40 SPIs, all guest-owned
abbrev Guest : Distributor
Guest = created Full.config 40

-- widths, offsets and ownership
pub record Accesses : Type 0 where
  -- a Byte is no access to a flag word, and beside one it reaches nothing
  pub flag_byte : (told (read 0x100 Byte) K ≡ refused 4 []) × (told (read 0x101 Byte) K ≡ done (0 ∷ []))
  -- within IROUTER every width but Qword is refused, and past its last register nothing is
  pub route_byte : (told (read 0x6001 Byte) K ≡ refused 4 []) × (told (read 0x7fe0 Byte) K ≡ done (0 ∷ []))
  -- bits past the width are ignored
  pub wide_value : (reply (writes 0x104 (2 ^ 32 + 2)) K ≡ reply (writes 0x104 2) K) × (step (writes 0x104 (2 ^ 32 + 2)) K ≡ step (writes 0x104 2) K)
  -- an unowned SPI ignores the guest's writes and reads 0
  pub unowned : (told (writes 0x104 4) K ≡ done (0 ∷ [])) × (step (writes 0x104 4) K ≡ K) × (then (change (Operate (SetEnabled true)) 34 ∷ []) (read 0x104 Dword) K ≡ done (0 ∷ []))

-- the table's end, in both modes
pub record TableEnd : Type 0 where
  -- ICFGR of 64 to 79, with explicit claims: refused at 72, and 64 and 65 are edge
  pub configuration : (told (read 0xc10 Dword) K ≡ refused 1 (72 ∷ [])) × (told (writes 0xc10 0xaaaaaaaa) K ≡ refused 1 (72 ∷ [])) × (step (writes 0xc10 0xaaaaaaaa) K ≡ run step (change (Operate (SetTrigger Edge)) 64 ∷ change (Operate (SetTrigger Edge)) 65 ∷ []) K)
  -- IPRIORITYR of 72 to 75: refused at 72, and nothing is changed
  pub priority : (told (read 0x448 Dword) K ≡ refused 1 (72 ∷ [])) × (told (writes 0x448 0x11223344) K ≡ refused 1 (72 ∷ [])) × (step (writes 0x448 0x11223344) K ≡ K)
  -- the same where all is guest-owned: what is beyond the table reads 0 and ignores writes
  pub excess_flags : (told (writes 0x108 0xffffffff) Guest ≡ done (0 ∷ [])) × (then (writes 0x108 0xffffffff ∷ []) (read 0x108 Dword) Guest ≡ done (0xff ∷ []))
  pub excess_configuration : (told (writes 0xc10 0xffffffff) Guest ≡ done (0 ∷ [])) × (then (writes 0xc10 0xffffffff ∷ []) (read 0xc10 Dword) Guest ≡ done (0xaaaa ∷ []))
  pub excess_priority : (step (writes 0x448 0x11223344) Guest ≡ Guest) × (told (read 0x448 Dword) Guest ≡ done (0 ∷ []))

pub record Once : Type 0 where
  -- a claim works in either mode, and once
  pub once : (told (change Claim 34) Guest ≡ done []) × (then (change Claim 34 ∷ []) (change Claim 34) Guest ≡ refused 2 []) × (told (change Claim 65) K ≡ refused 2 []) × (told (change Claim 72) K ≡ refused 1 (72 ∷ []))

pub accesses : Accesses
unfolding reply step decode fresh
accesses =
    record {
      flag_byte = (refl, refl);
      route_byte = (refl, refl);
      wide_value = (refl, ends_same K (writes 0x104 (2 ^ 32 + 2) ∷ []) (writes 0x104 2 ∷ []) refl refl);
      unowned = (refl, ends_same K (writes 0x104 4 ∷ []) [] refl refl, refl);
    }

pub table-end : TableEnd
unfolding reply step decode fresh deliverable_in with_life trigger_to
table-end =
    record {
      configuration = (refl, refl, ends_same K (writes 0xc10 0xaaaaaaaa ∷ []) (change (Operate (SetTrigger Edge)) 64 ∷ change (Operate (SetTrigger Edge)) 65 ∷ []) refl refl);
      priority = (refl, refl, ends_same K (writes 0x448 0x11223344 ∷ []) [] refl refl);
      excess_flags = (refl, refl);
      excess_configuration = (refl, refl);
      excess_priority = (ends_same Guest (writes 0x448 0x11223344 ∷ []) [] refl refl, refl);
    }

pub claimed_once : Once
unfolding reply step
claimed_once = record { once = (refl, refl, refl, refl) }
