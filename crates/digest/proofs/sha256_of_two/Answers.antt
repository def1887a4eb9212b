use native.Mathlib.Omega.{arith}
use Rattle.digest.proofs.Closing.{two_past, two-fit}
use Rattle.digest.proofs.sha256_of_two.Goals as goal

pub returns-then-length-gt-LIMIT : goal.returns-then-length-gt-LIMIT
returns-then-length-gt-LIMIT c = two_past c.args.first.now c.args.second.now (omega arith)

pub returns : goal.returns
returns c = two-fit c.args.first.now c.args.second.now c.fresh.result c.digest_behind.result (omega arith) c.fresh.ensures c.digest_behind.ensures
