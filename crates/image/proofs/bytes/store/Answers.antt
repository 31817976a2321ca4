-- The part that was stored holds the number's bytes.
use Rattle.std.proofs.Common.{◌≡◌, ◌+◌, ◌-◌, sym, ◌∙◌, div-one, arith}
use Rattle.std.proofs.lemmas.Slice.{put_mid-paste}
use Rattle.image.specs.Bytes.{bytes_of}
use Rattle.image.specs.ByteLaws.{sets_part, length_bytes, bytes_listed, bytes_taken}
use Rattle.image.proofs.bytes.store.Goals as goal

pub returns : goal.returns
returns g c =
    let k = g.row.N in
    let at = c.args.at in
    let n = c.args.n in
    let eight : c.to_le_bytes.result ≡ bytes_of 8 n = c.to_le_bytes.ensures ∙ (rw (bytes_listed 8 n, div-one)) in
    let same : c.copy_from_slice.new.self ≡ bytes_of k n = c.copy_from_slice.ensures.after ∙ (rw eight (bytes_taken k 8 n c.requires.1)) in
    put_mid-paste at (at + k - at) c.args.bytes.now c.copy_from_slice.new.self (bytes_of k n) k same (omega arith) (sym (length_bytes k n))
    ∙ sets_part (bytes_of k n) c.args.bytes.now at k (length_bytes k n) c.requires.0
