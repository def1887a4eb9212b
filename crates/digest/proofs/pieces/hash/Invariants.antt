use Prim.Native.Nat.{◌*◌}
use mathlib.Core.Path.{◌≡◌}
use lib.ListN.{length, drop}
use Rattle.std.specs.Slice.Iter.{chunks_exact_rest, chunks_exact_size}
use Rattle.compression.specs.Compression.{hash_of}
use Rattle.digest.proofs.pieces.hash.Given as goal

abbrev pub invariant-loop-block : goal.invariant-loop-block
invariant-loop-block l = record {
  size : chunks_exact_size l.block-iterator ≡ 64;
  rest : chunks_exact_rest l.block-iterator ≡ drop (64 * length l.yielded) l.m;
  hashed : l.h ≡ hash_of (length l.yielded) l.initial.h l.m;
}
