use Rattle.layout.proofs.Sizes.{shift-high}
use Rattle.layout.proofs.Fields.{put-fields}
use Rattle.layout.proofs.superblock.put_superblock.Goals as goal

pub returns : goal.returns
returns c =
    put-fields c.args.b.now c.requires.1 c.args.g (shift-high c.args.g c.requires.0) _ _ _ _ _ _ _
    c.copy_at.ensures (rw c.from.ensures at c.put_number.ensures) c.put_number-2.ensures c.put_number-3.ensures c.put_number-4.ensures c.put_number-5.ensures c.fill_at.ensures
