use Prim.Native.Nat.{◌<◌, ◌≤◌}
use mathlib.Core.Logic.{◌⊎◌}
use mathlib.Core.Path.{◌≡◌}
use Rattle.std.proofs.Common.{arith}
use Rattle.std.proofs.lemmas.Grind.{common_steps}
use Rattle.tree_path.specs.Places.{most_blocks}
use Rattle.tree_path.proofs.PlaceLaws.{length_none, length-of}
use Rattle.tree_path.proofs.places.length.Goals as goal

pub returns-then-contains : goal.returns-then-contains
returns-then-contains c =
    let n = c.args.n in
    let some : 1 ≤ n = grind (arith, common_steps) in
    let most : n ≤ most_blocks = grind (arith, common_steps) in
    length-of n some most c.tree_length.ensures

pub returns-else-contains : goal.returns-else-contains
returns-else-contains c =
    let n = c.args.n in
    let out : (n ≡ 0) ⊎ (most_blocks < n) = grind (arith, common_steps) in
    length_none n out
