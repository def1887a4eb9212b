use Prim.Native.Nat.{ℕ, ◌*◌}
use mathlib.Core.Path.{ap, ◌∙◌}
use Rattle.tree_path.specs.Places.{block_size, hash_blocks_of}
use Rattle.tree_path.proofs.places.tree_length.Goals as goal

pub returns : goal.returns
returns c =
    ap (λ (k : ℕ). k * block_size)
    (c.hash_blocks.ensures.0 ∙ ap (λ (h : ℕ). hash_blocks_of h c.args.n) c.levels.ensures.0)
