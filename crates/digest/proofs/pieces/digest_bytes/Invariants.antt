use Prim.Native.Nat.{◌*◌}
use mathlib.Core.Path.{◌≡◌}
use lib.ListN.{length, take}
use Rattle.digest.specs.Padding.{bytes_of}
use Rattle.digest.proofs.pieces.digest_bytes.Given as goal

abbrev pub invariant-loop-i : goal.invariant-loop-i
invariant-loop-i l = (length l.h ≡ 8) × (length l.out ≡ 32) × (take (4 * l.i) l.out ≡ bytes_of (take l.i l.h))
