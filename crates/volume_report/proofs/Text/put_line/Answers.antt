use native.Mathlib.Omega.{arith}
use Rattle.volume_report.proofs.Texts.{then-adds}
use Rattle.volume_report.proofs.Text.put_line.Goals as goal

pub returns : goal.returns
returns c = (then-adds c.put_field.ensures.0 c.put.ensures, omega (arith, c.put_field.ensures.1, c.put.ensures.puts.end))
