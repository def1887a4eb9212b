-- After j turns the digests of the data block and of the j lowest hash blocks are there.
use Prim.Native.Nat.{◌+◌, ◌-◌}
use mathlib.Core.Path.{◌≡◌}
use lib.ListN.{length, take, drop, replicate}
use Rattle.digest.specs.Sha256.{digest_size}
use Rattle.tree_path.specs.Places.{most_levels}
use Rattle.tree_path.specs.Path.{computed_of}
use Rattle.tree_path.proofs.path.computed.Given as goal

abbrev pub invariant-loop-j : goal.invariant-loop-j
invariant-loop-j l = (length l.r ≡ most_levels + 1) × (take (l.j + 1) l.r ≡ computed_of l.salt l.tree l.block (take l.j l.at)) × (drop (l.j + 1) l.r ≡ replicate (most_levels + 1 - (l.j + 1)) (replicate digest_size 0))
