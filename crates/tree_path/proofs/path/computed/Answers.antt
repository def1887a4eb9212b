use Prim.Native.Nat.{◌+◌, ◌-◌}
use native.Mathlib.Omega.{arith}
use mathlib.Core.Path.{◌≡◌, refl}
use lib.ListN.{replicate, length-set}
use Rattle.octets.proofs.Turns.{rest-turn, rest_end}
use Rattle.digest.specs.Sha256.{digest_size}
use Rattle.tree_path.specs.Places.{most_levels}
use Rattle.tree_path.proofs.PathLaws.{computed-start, computed-turn}
use Rattle.tree_path.proofs.path.computed.Goals as goal

pub loop-j-init : goal.loop-j-init
loop-j-init c =
    let a = c.args in (
      refl,
      computed-start a.salt.now a.tree.now a.block.now a.at (replicate (most_levels + 1) (replicate digest_size 0)) c.block_digest.result (omega arith) c.block_digest.ensures.0,
      refl,
    )

pub overflow_mul-from : goal.overflow_mul-from
overflow_mul-from c = omega (arith, c.requires.3 c.loop-j.j c.loop-j-test.true, c.well_formed.1.1.0)

pub overflow_add-from : goal.overflow_add-from
overflow_add-from c = omega (arith, c.requires.3 c.loop-j.j c.loop-j-test.true, c.well_formed.1.1.0)

pub slice_bounds-block_digest-end : goal.slice_bounds-block_digest-end
slice_bounds-block_digest-end c = omega (arith, c.requires.3 c.loop-j.j c.loop-j-test.true)

pub loop-j-preserved : goal.loop-j-preserved
loop-j-preserved c =
    let turn = c.loop-j in
    let a = c.args in (
      simp length-set turn.invariant.0,
      computed-turn a.salt.now a.tree.now a.block.now a.at turn.r c.block_digest-in-loop-j.result turn.j (omega arith) (omega arith) c.block_digest-in-loop-j.ensures.0 turn.invariant.1,
      rest-turn (replicate digest_size 0) c.block_digest-in-loop-j.result turn.r (most_levels + 1) (turn.j + 1) (omega arith) turn.invariant.2,
    )

pub returns : goal.returns
returns c =
    let turn = c.loop-j in
    let h = c.args.h in
    let e : turn.j ≡ h = omega arith in
    rest_end (replicate digest_size 0) turn.r _ (most_levels + 1) (h + 1) (most_levels - h) (omega arith) (rw e at turn.invariant.1) (rw e at turn.invariant.2)
