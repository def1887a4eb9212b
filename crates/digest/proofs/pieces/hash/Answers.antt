use Prim.Native.Nat.{◌+◌}
use mathlib.Core.Path.{◌≡◌, ◌∙◌}
use mathlib.Core.List.{[], ◌∷◌, ◌++◌}
use lib.ListN.{length, length-append}
use borrow.Author.Rules.{rules}
use Rattle.compression.specs.Compression.{hash_of}
use Rattle.digest.proofs.Absorb.{rest-turn, hash-turn}
use Rattle.digest.proofs.pieces.hash.Goals as goal

pub loop-block-init : goal.loop-block-init
unfolding hash_of
loop-block-init c = search rules

pub loop-block-preserved : goal.loop-block-preserved
loop-block-preserved c =
    let turn = c.loop-block in
    let i = turn.invariant in
    let block = c.in-Some.block in
    let step = c.in-Some.ensures.steps in
    let size : length block.now ≡ 64 = step.1.1 ∙ i.size in
    let more : length (turn.yielded ++ block ∷ []) ≡ length turn.yielded + 1 = length-append turn.yielded (block ∷ []) in
    record {
      size = step.0 ∙ i.size;
      rest = rw more (rest-turn (length turn.yielded) c.args.h0 turn.h c.args.m.now _ block.now _ c.compress-next.result i.rest step.1.0 size);
      hashed = rw more (hash-turn (length turn.yielded) c.args.h0 turn.h c.args.m.now _ block.now _ c.compress-next.result i.rest step.1.0 size i.hashed c.compress-next.ensures);
    }
