use mathlib.Core.Path.{◌≡◌, ap}
use native.Mathlib.Omega.{arith}
use Rattle.digest.specs.declared.State.{State}
use Rattle.digest.specs.Pieces.{fresh_of, absorb_of}
use Rattle.hmac.proofs.Behind.{added}
use Rattle.hmac.proofs.hash_behind.Goals as goal

pub unwrap-requires : goal.unwrap-requires
unwrap-requires c = rw (added c.args.block c.fresh.result c.update.result (omega arith) c.fresh.ensures c.update.ensures)

pub returns : goal.returns
returns c =
    let e = added c.args.block c.fresh.result c.update.result (omega arith) c.fresh.ensures c.update.ensures in
    let same : c.unwrap.result ≡ absorb_of fresh_of c.args.block = cc (c.unwrap.ensures, e, c.fresh.ensures) in
    ap (λ (s : State). s.words) same
