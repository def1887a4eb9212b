use Prim.Native.Nat.{ℕ}
use mathlib.Core.List.{◌++◌}
use mathlib.Core.Path.{ap}
use Rattle.volume_report.specs.Report.{line_of, layout_line, flagged, bad_lines}
use Rattle.volume_report.proofs.Texts.{adds-as, then-adds}
use Rattle.volume_report.proofs.Text.put_checked.Goals as goal

pub returns : goal.returns
returns c =
    let a = c.args in
    let all = then-adds (then-adds (then-adds c.put_layout.ensures.0 c.put_line.ensures.0) c.put_bad.ensures.0) c.put_line-2.ensures.0 in
    adds-as (ap (λ (n : ℕ). layout_line a.g ++ line_of "replay " a.stores ++ bad_lines (flagged a.flags.now) n ++ line_of "bad " a.count) c.requires.1) all
