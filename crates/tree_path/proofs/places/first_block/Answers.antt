use mathlib.Core.Path.{ap, ◌∙◌}
use Rattle.tree_path.specs.Places.{hash_blocks_of}
use Rattle.tree_path.proofs.places.first_block.Goals as goal

pub returns : goal.returns
returns c =
    (c.hash_blocks.ensures.0 ∙ ap (hash_blocks_of c.args.h) c.parents.ensures.0, c.hash_blocks.ensures.1)
