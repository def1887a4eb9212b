use Prim.Native.Nat.{ℕ}
use native.Mathlib.Omega.{arith}
use mathlib.Core.Bool.{Bool}
use mathlib.Core.List.{List, []}
use mathlib.Core.Path.{sym, ap}
use Rattle.octets.specs.Choice.{pick}
use Rattle.volume_report.specs.Report.{bad_line}
use Rattle.volume_report.proofs.Texts.{adds-as, nothing-adds}
use Rattle.volume_report.proofs.Text.put_flagged.Goals as goal

pub returns-then-bad : goal.returns-then-bad
returns-then-bad c =
    let line : List ℕ = bad_line c.args.n in
    (adds-as (ap (λ (b : Bool). pick b line []) (sym c.if-bad.true)) c.put_line.ensures.0, omega (arith, c.put_line.ensures.1))

pub returns-else-bad : goal.returns-else-bad
returns-else-bad c =
    let line : List ℕ = bad_line c.args.n in
    (adds-as (ap (λ (b : Bool). pick b line []) (sym c.if-bad.false)) (nothing-adds c.args.self.now (omega arith)), omega arith)
