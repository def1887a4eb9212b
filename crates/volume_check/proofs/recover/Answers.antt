use mathlib.Core.Path.{◌≡◌, ap, ◌∙◌}
use native.Mathlib.Omega.{arith}
use Rattle.volume_check.specs.Check.{recovered, recover_from, recover_of}
use Rattle.volume_check.proofs.recover.Goals as goal

pub returns-in_err-opened : goal.returns-in_err-opened
unfolding recover_of
returns-in_err-opened c =
    let same : c.from_residual.result ≡ c.open.result = grind arith in
    rw (same, c.in_err-opened.was) (rw c.in_err-opened.was at (ap (recover_from c.args.v.now) c.open.ensures))

pub returns : goal.returns
unfolding recover_of
returns c =
    ap (recovered c.in_ok-opened.opened.stores) c.advance.ensures ∙ (rw c.in_ok-opened.was at (ap (recover_from c.args.v.now) c.open.ensures))
