use mathlib.Core.List.{map, ◌++◌}
use mathlib.Core.Path.{◌≡◌}
use lib.Bits.{bit_xor}
use lib.ListN.{take, drop}
use Rattle.hmac.proofs.xored.Given as goal

abbrev pub invariant-loop-b : goal.invariant-loop-b
invariant-loop-b l = l.b-items ≡ map (λ b. bit_xor b l.x) (take l.b-index l.fn.block) ++ drop l.b-index l.fn.block
