use Prim.Native.Nat.{◌+◌, ◌-◌, ◌*◌}
use mathlib.Core.Path.{◌≡◌, refl}
use native.Mathlib.Omega.{arith}
use Rattle.octets.proofs.Parts.{length_part}
use Rattle.layout.proofs.superblock.superblock_at.Goals as goal

pub returns : goal.returns
returns c =
    let size : (c.args.r + 8) * 512 - c.args.r * 512 ≡ 4096 = omega arith in
    rw size (refl, length_part c.args.v.now (c.args.r * 512) 4096 (omega arith))
