use Rattle.digest.proofs.Closing.{finish-past, finish-fits}
use Rattle.digest.proofs.finish.Goals as goal

pub returns-then-s-gt-LIMIT : goal.returns-then-s-gt-LIMIT
returns-then-s-gt-LIMIT c = finish-past c.args.s c.if-s-gt-LIMIT.true

pub returns : goal.returns
returns c = finish-fits c.args.s c.close.result c.if-s-gt-LIMIT.false c.close.ensures
