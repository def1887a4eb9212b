use Rattle.std.proofs.Common.{◌-◌, ◌%◌, get_or, arith}
use Rattle.compression.specs.Words.{◌⊞◌}
use Rattle.compression.proofs.Ring.{next-turn}
use Rattle.compression.proofs.put_next_word.Goals as goal

pub returns : goal.returns
returns c = λ b ring.
    let t = c.args.t in
    let w = c.args.w.now in
    next-turn b w t _ (omega arith) (omega arith) ring
    (λ i. c.small_sigma1.ensures i ⊞ get_or w ((t - 7) % 16) 0 ⊞ c.small_sigma0.ensures i ⊞ get_or w ((t - 16) % 16) 0)
