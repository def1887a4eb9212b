use mathlib.Core.Path.{refl}
use native.Mathlib.Omega.{arith}
use Rattle.digest.specs.Pieces.{behind_of}
use Rattle.digest.proofs.Closing.{counted, behind}
use Rattle.digest.proofs.digest_behind.Goals as goal

pub absorb-both-requires : goal.absorb-both-requires
absorb-both-requires c = omega (arith, c.requires, counted (behind_of c.args.h c.args.before) _ c.args.first.now c.absorb-one.ensures.0)

pub close-requires : goal.close-requires
close-requires c =
    omega (
      arith,
      c.requires,
      counted (behind_of c.args.h c.args.before) _ c.args.first.now c.absorb-one.ensures.0,
      counted c.absorb-one.result _ c.args.second.now c.absorb-both.ensures.0,
    )

pub returns : goal.returns
returns c = behind (behind_of c.args.h c.args.before) c.absorb-one.result c.absorb-both.result c.args.first.now c.args.second.now c.close.result refl c.absorb-one.ensures.0 c.absorb-both.ensures.0 c.close.ensures
