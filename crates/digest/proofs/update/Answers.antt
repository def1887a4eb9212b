use mathlib.Core.Path.{sym}
use native.Mathlib.Omega.{arith}
use Rattle.digest.specs.Sha256.Promise.{update-refused}
use Rattle.digest.proofs.Closing.{update-fits}
use Rattle.digest.proofs.update.Goals as goal

pub returns-then-saturating_add-gt-LIMIT : goal.returns-then-saturating_add-gt-LIMIT
returns-then-saturating_add-gt-LIMIT c = sym (update-refused c.args.s c.args.piece.now (omega arith))

pub returns : goal.returns
returns c = update-fits c.args.s c.absorb.result c.args.piece.now (omega arith) c.absorb.ensures.0
