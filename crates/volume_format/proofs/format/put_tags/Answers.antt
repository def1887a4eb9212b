use Prim.Native.Nat.{◌+◌}
use mathlib.Core.Path.{ap}
use native.Mathlib.Omega.{arith}
use lib.ListN.{take}
use Rattle.model.proofs.Demand3.{length-tags_by}
use Rattle.model.specs.Format.{zeros}
use Rattle.sound.specs.Rule.{digest_by, tag_by}
use Rattle.octets.specs.Sectors.{sector_size}
use Rattle.volume_format.proofs.Formats.{chunk-fits, chunk-turn}
use Rattle.volume_format.proofs.format.put_tags.Goals as goal

pub loop-i-preserved : goal.loop-i-preserved
loop-i-preserved c =
    let a = c.args in
    let turn = c.loop-i in
    chunk-turn (λ i. tag_by a.rule a.width (a.first + i) (zeros sector_size)) a.width a.v.now turn.v a.at turn.i _ c.copy_at.new.d
    (λ j. length-tags_by (digest_by a.rule) c.requires.3 a.width c.requires.0 (a.first + j) (zeros sector_size))
    (omega (arith, chunk-fits a.width turn.i a.n (omega arith))) turn.invariant (ap (take a.width) c.tag-digest.ensures.0) c.copy_at.ensures
