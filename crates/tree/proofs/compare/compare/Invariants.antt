-- The digests from place k on agree, so the rows of those below decide.
use Prim.Native.Nat.{◌+◌}
use mathlib.Core.Path.{◌≡◌}
use lib.ListN.{take}
use Rattle.tree_path.specs.Path.{standing_of}
use Rattle.tree.specs.Verify.{compared_of}
use Rattle.tree.proofs.compare.compare.Given as goal

abbrev pub invariant-loop-k : goal.invariant-loop-k
invariant-loop-k l =
    compared_of (take (l.h + 1) l.digests) (standing_of l.root l.tree (take l.h l.at)) ≡ compared_of (take l.k (take (l.h + 1) l.digests)) (take l.k (standing_of l.root l.tree (take l.h l.at)))
