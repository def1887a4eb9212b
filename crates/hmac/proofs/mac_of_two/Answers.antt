use mathlib.Core.List.{◌++◌}
use native.Mathlib.Omega.{arith}
use Rattle.hmac.proofs.Behind.{closed-mac}
use Rattle.hmac.proofs.mac_of_two.Goals as goal

pub returns : goal.returns
returns c = (closed-mac c.args.key (c.args.first.now ++ c.args.second.now) c.digest_behind-digest.result c.digest_behind.result c.digest_behind-digest.ensures c.digest_behind.ensures, omega arith)
