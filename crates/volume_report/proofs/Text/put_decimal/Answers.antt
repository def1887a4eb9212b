use native.Mathlib.Omega.{arith}
use mathlib.Core.Path.{◌∙◌}
use Rattle.volume_report.proofs.Digits.{few-digits, is-decimal}
use Rattle.volume_report.proofs.Texts.{adds-as}
use Rattle.volume_report.proofs.Text.put_decimal.Goals as goal

pub returns : goal.returns
returns c =
    let k = c.decimal-count in
    let few = few-digits c.args.n k.result c.ranges.n.fits k.ensures.len in
    let is = k.ensures.digits ∙ is-decimal c.args.n k.result few k.ensures.len in
    (adds-as is c.put.ensures, omega (arith, few, k.ensures.in_bounds.1, c.put.ensures.puts.end))
