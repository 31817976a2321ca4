use Rattle.std.proofs.Common.{◌≡◌, false, take, arith}
use Rattle.image.specs.Bytes.{flat}
use Rattle.image.specs.Header.{first_word, header_words}
use Rattle.face.proofs.Creating.{header_stored, fresh_more, filled}
use Rattle.face.proofs.create.fill.Goals as goal

pub loop-p-preserved : goal.loop-p-preserved
loop-p-preserved c =
    let l = c.loop-p in (
      omega arith,
      omega arith,
      rw c.store-in-loop-p.ensures (fresh_more c.store-3.new.bytes l.image l.p (omega (arith, c.requires.size)) l.invariant.2),
    )

pub returns : goal.returns
returns c =
    let a = c.args in
    let l = c.loop-p in
    let started = c.store-3.new.bytes in
    let head : take 24 started ≡ flat 8 (header_words a.config false a.count) =
    rw (c.store-3.ensures, c.store-2.ensures, c.store.ensures, c.first_word.ensures)
    (header_stored a.image.now (first_word a.config false a.count) a.config.lpi_limit a.config.distributor_size (omega (arith, c.requires.size))) in
    let end : l.p ≡ a.count = omega arith in
    filled a.config a.count started l.image (record { most = c.requires.most; size = omega arith }) head (rw end at l.invariant.2)
