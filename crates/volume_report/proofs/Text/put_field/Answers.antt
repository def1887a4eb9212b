use native.Mathlib.Omega.{arith}
use Rattle.volume_report.proofs.Texts.{then-adds}
use Rattle.volume_report.proofs.Text.put_field.Goals as goal

pub returns : goal.returns
returns c = (then-adds c.put.ensures c.put_decimal.ensures.0, omega (arith, c.put_decimal.ensures.1, c.put.ensures.puts.end))
