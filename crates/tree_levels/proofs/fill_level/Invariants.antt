-- After i turns the first i digests are put in, and the blocks behind those are to come.
use Prim.Native.Nat.{◌*◌, ◌≤◌}
use mathlib.Core.Path.{◌≡◌}
use lib.ListN.{take, drop}
use Rattle.std.specs.Slice.Iter.{chunks_exact_rest, chunks_exact_size}
use Rattle.digest.specs.Sha256.{digest_size}
use Rattle.tree_path.specs.Places.{block_size}
use Rattle.tree_path.specs.Tree.{digests_of}
use Rattle.tree_levels.proofs.fill_level.Given as goal

abbrev pub invariant-loop-i : goal.invariant-loop-i
invariant-loop-i l =
    (l.i-iterator.count ≤ l.m) × (chunks_exact_size l.i-iterator.iter ≡ block_size) × (chunks_exact_rest l.i-iterator.iter ≡ drop (l.i-iterator.count * block_size) l.blocks)
    × (take (l.i-iterator.count * digest_size) l.level ≡ digests_of l.i-iterator.count l.salt l.blocks)
