use Prim.Native.Nat.{◌/◌, ◌%◌}
use mathlib.Core.Path.{refl}
use native.Mathlib.Omega.{arith}
use Rattle.octets.specs.Parts.{part}
use Rattle.stores.proofs.Contents.{part-replaced}
use Rattle.stores.proofs.tag_store.Goals as goal

pub copy_at-requires : goal.copy_at-requires
copy_at-requires c = (omega (arith, c.requires.3), omega (arith, c.requires.0))

pub copy_at-requires-2 : goal.copy_at-requires-2
copy_at-requires-2 c = (omega (arith, c.copy_at.auto.d, c.requires.3, c.requires.1), omega (arith, c.requires.2))

pub returns : goal.returns
returns c = (
  refl,
  part-replaced c.args.v.now (c.args.p.byte / 512) (c.args.p.byte % 512) (part c.args.tag.now c.args.p.from c.args.p.size) c.args.out.now c.copy_at.new.d c.copy_at-2.new.d
      c.requires.0 c.requires.3 c.copy_at.ensures c.copy_at-2.ensures,
)
