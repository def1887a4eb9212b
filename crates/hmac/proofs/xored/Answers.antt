use native.Mathlib.Omega.{arith}
use lib.Bits.{bit_xor}
use Rattle.hmac.proofs.Blocks.{xor-turn}
use Rattle.hmac.proofs.xored.Goals as goal

pub loop-b-preserved : goal.loop-b-preserved
loop-b-preserved c = xor-turn (λ b. bit_xor b c.args.x) c.args.block c.loop-b.b-items c.loop-b.b-index (omega arith) c.loop-b.invariant
