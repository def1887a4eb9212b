-- After i turns the lines of the bad ones of the first i sectors are added.
use Prim.Native.Nat.{◌+◌, ◌*◌, ◌≤◌}
use Rattle.volume_report.specs.Report.{flagged, bad_lines}
use Rattle.volume_report.specs.Text.{Adds}
use Rattle.volume_report.proofs.Text.put_bad.Given as goal

abbrev pub invariant-loop-i : goal.invariant-loop-i
invariant-loop-i l = Adds l.initial.self (bad_lines (flagged l.flags) l.i) l.self × (l.self.len ≤ l.initial.self.len + l.i * 32)
