use Prim.Native.Nat.{ℕ}
use native.Mathlib.Omega.{arith}
use mathlib.Core.List.{◌++◌}
use mathlib.Core.Path.{ap}
use Rattle.volume_report.specs.Report.{field_of, line_of}
use Rattle.volume_report.proofs.Texts.{adds-as, then-adds}
use Rattle.volume_report.proofs.Text.put_layout.Goals as goal

pub returns : goal.returns
returns c =
    let first = c.put_field.ensures in
    let second = c.put_field-2.ensures in
    let third = c.put_field-3.ensures in
    let last = c.put_line.ensures in
    let all = then-adds (then-adds (then-adds first.0 second.0) third.0) last.0 in
    let run = ap (λ (n : ℕ). field_of "tag " c.args.g.width ++ field_of " run " n ++ field_of " sections " c.args.g.sections ++ line_of " provided " c.args.g.provided) c.run_length.ensures.0 in
    (adds-as run all, omega (arith, first.1, second.1, third.1, last.1))
