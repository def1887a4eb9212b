use Prim.Native.Nat.{◌+◌}
use native.Mathlib.Omega.{arith}
use mathlib.Core.Path.{◌≡◌, refl}
use lib.ListN.{length-set}
use Rattle.octets.proofs.Turns.{rest-turn, rest_end}
use Rattle.tree_path.specs.Places.{most_levels}
use Rattle.tree_path.proofs.PlaceLaws.{places-start, places-turn, places-end}
use Rattle.tree_path.proofs.path.places.Goals as goal

pub loop-j-init : goal.loop-j-init
loop-j-init c = (omega arith, omega arith, refl, places-start c.args.h c.args.m c.args.i, refl)

pub loop-j-preserved : goal.loop-j-preserved
loop-j-preserved c =
    let turn = c.loop-j in
    let a = c.args in (
      omega arith,
      omega arith,
      simp length-set turn.invariant.2,
      places-turn _ turn.r a.h turn.j turn.below turn.at c.digest_at.result c.parents-below.result c.loop-j-test.true (omega arith) c.digest_at.ensures c.parents-below.ensures.0 turn.invariant.3,
      rest-turn 0 c.digest_at.result turn.r (most_levels + 1) turn.j (omega arith) turn.invariant.4,
    )

pub returns : goal.returns
returns c =
    let turn = c.loop-j in
    let h = c.args.h in
    let e : turn.j ≡ h = omega arith in
    rest_end 0 turn.r _ (most_levels + 1) h _ refl (places-end _ turn.r _ turn.j turn.below turn.at (omega arith) (omega arith) turn.invariant.3) (rw e at turn.invariant.4)
