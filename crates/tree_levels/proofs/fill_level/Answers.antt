use Prim.Native.Nat.{◌+◌, ◌≤◌, ◌<◌}
use native.Mathlib.Omega.{arith}
use mathlib.Core.Path.{◌≡◌, refl, ap, ◌∙◌}
use lib.ListN.{length}
use Rattle.std.specs.Slice.Iter.{chunks_exact_rest}
use Rattle.tree_path.specs.Places.{block_size}
use Rattle.tree_path.specs.Tree.{digests_of}
use Rattle.tree_levels.proofs.LevelLaws.{turn-inside, turn-rest, turn-digest, end-level}
use Rattle.tree_levels.proofs.fill_level.Goals as goal

pub loop-i-init : goal.loop-i-init
unfolding digests_of
loop-i-init c =
    rw (c.into_iter-i-iterator.ensures.into_iter_gives, c.enumerate-i-items.ensures.source, c.enumerate-i-items.ensures.count, c.chunks_exact.ensures.rest, c.chunks_exact.ensures.size)
    (omega arith, refl, refl, refl)

pub loop-i-preserved : goal.loop-i-preserved
loop-i-preserved c =
    let a = c.args in
    let turn = c.loop-i in
    let i = turn.i-iterator.count in
    let step = c.in-Some.ensures.steps in
    let front = step.0.1.0 in
    let size : length c.in-Some.block.now ≡ block_size = step.0.1.1 ∙ turn.invariant.1 in
    let inside : i + 1 ≤ a.m = turn-inside a.salt.now c.args.blocks.now turn.level _ i turn.invariant.2 turn.invariant.3 c.in-Some.block.now _ front size a.m (omega arith) in
    rw step.2 (
      inside,
      step.0.0 ∙ turn.invariant.1,
      turn-rest a.salt.now c.args.blocks.now turn.level _ i turn.invariant.2 turn.invariant.3 c.in-Some.block.now _ front size,
      turn-digest a.salt.now c.args.blocks.now turn.level _ i turn.invariant.2 turn.invariant.3 c.in-Some.block.now _ front size c.copy_from_slice.new.self _ _
          (omega (arith, step.1)) (c.copy_from_slice.ensures.after ∙ c.block_digest.ensures.0) (ap length c.copy_from_slice.ensures.after ∙ c.block_digest.ensures.1)
          (omega arith),
    )

pub returns : goal.returns
returns c =
    let a = c.args in
    let turn = c.loop-i in
    let step = c.in-None.ensures.steps in
    let few : length (chunks_exact_rest turn.i-iterator.iter) < block_size = omega (arith, step.0.1.0, turn.invariant.1) in
    end-level a.salt.now c.args.blocks.now turn.level _ turn.i-iterator.count turn.invariant.2 turn.invariant.3 c.fill.new.self a.m _ _ few turn.invariant.0 (omega arith) (omega arith) refl refl
    (c.fill.ensures.after (λ y e. e))
