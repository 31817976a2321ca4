-- The number in 8 bytes is that of the part that they are.
use Rattle.std.proofs.Common.{◌≡◌, ◌+◌, ◌-◌, ◌∙◌, ap, take, drop, arith}
use Rattle.image.specs.Bytes.{number_at}
use Rattle.image.specs.ByteLaws.{number_part}
use Rattle.image.proofs.bytes.load.Goals as goal

pub returns : goal.returns
unfolding number_at
returns c =
    let at = c.args.at in
    let l = c.args.bytes.now in
    let part : c.unwrap.result ≡ take (at + 8 - at) (drop at l) = (rw c.unwrap.ensures at c.try_into.ensures.1).same in
    let number : c.from_le_bytes.result ≡ number_at 8 0 c.unwrap.result = omega (arith, c.from_le_bytes.ensures) in
    number ∙ ap (number_at 8 0) part ∙ number_part 8 at (at + 8 - at) l (omega (arith, c.requires)) (omega arith)
