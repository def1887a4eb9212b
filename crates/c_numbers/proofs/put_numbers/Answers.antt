use Rattle.c_numbers.proofs.NumberBytes.{none-written, next-written}
use Rattle.c_numbers.proofs.put_numbers.Goals as goal

pub loop-j-init : goal.loop-j-init
loop-j-init c = none-written c.args.buffer.now _

pub loop-j-preserved : goal.loop-j-preserved
loop-j-preserved c = next-written c.args.buffer.now c.loop-j.buffer _ c.args.k c.loop-j.j c.args.numbers.now c.requires c.loop-j-test.true c.loop-j.invariant c.put_number.ensures
