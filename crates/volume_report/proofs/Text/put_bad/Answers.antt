use Prim.Native.Nat.{ℕ}
use native.Mathlib.Numerals.{add-one}
use native.Mathlib.Omega.{arith}
use mathlib.Core.List.{List}
use mathlib.Core.Path.{sym, ap}
use Rattle.volume_report.specs.Report.{flagged, bad_lines}
use Rattle.volume_report.proofs.Texts.{adds-as, then-adds, nothing-adds}
use Rattle.volume_report.proofs.Text.put_bad.Goals as goal

pub loop-i-init : goal.loop-i-init
loop-i-init c = (nothing-adds c.args.self.now (omega arith), omega arith)

pub put_flagged-requires : goal.put_flagged-requires
put_flagged-requires c = omega (arith, c.loop-i.invariant.0.size, c.loop-i.invariant.1)

pub loop-i-preserved : goal.loop-i-preserved
loop-i-preserved c =
    let lines : ℕ → List ℕ = bad_lines (flagged c.args.flags.now) in
    (adds-as (ap lines (sym (add-one c.loop-i.i))) (then-adds c.loop-i.invariant.0 c.put_flagged.ensures.0), omega (arith, c.put_flagged.ensures.1, c.loop-i.invariant.1))
