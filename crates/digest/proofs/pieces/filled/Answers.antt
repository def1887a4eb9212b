use mathlib.Core.Path.{◌≡◌}
use native.Mathlib.Omega.{arith}
use lib.ListN.{length}
use Rattle.digest.proofs.Absorb.{fills}
use Rattle.digest.proofs.pieces.filled.Goals as goal

pub returns : goal.returns
returns c =
    let size : length c.args.t ≡ 64 = omega arith in
    (fills c.args.n c.args.t c.args.p.now _ _ size c.requires c.copy_from_slice.ensures.after c.copy_from_slice-2.ensures.after, size)
