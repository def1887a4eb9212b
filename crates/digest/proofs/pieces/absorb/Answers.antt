use Prim.Native.Nat.{◌-◌, ◌%◌}
use mathlib.Core.Path.{refl}
use native.Mathlib.Omega.{arith}
use lib.ListN.{length, take, drop}
use Rattle.digest.proofs.Absorb.{short, long}
use Rattle.digest.proofs.pieces.absorb.Goals as goal

pub returns-then-p-room : goal.returns-then-p-room
returns-then-p-room c = (short c.args.s c.args.p.now c.filled-tail.result c.filled-tail.ensures.1 (omega arith) c.filled-tail.ensures.0, c.filled-tail.ensures.1)

pub returns : goal.returns
returns c =
    let a = c.args in
    let first = c.filled-first in
    let words = c.hash-words in (
      long a.s a.p.now first.result (take (length a.p.now - (64 - a.s.count % 64)) (drop (64 - a.s.count % 64) a.p.now)) first.ensures.1 (omega arith)
          first.ensures.0 refl c.compress-one.result words.result _ c.filled-tail-2.result c.compress-one.ensures words.ensures refl c.filled-tail-2.ensures.0,
      c.filled-tail-2.ensures.1,
    )
