use native.Mathlib.Omega.{arith}
use Rattle.layout.proofs.Sizes.{shift-high, run-low, run-high}
use Rattle.layout.proofs.run_length.Goals as goal

pub overflow_shl-result : goal.overflow_shl-result
overflow_shl-result c =
    omega (arith, shift-high c.args.g c.requires)

pub returns : goal.returns
returns c =
    let low = run-low c.args.g c.requires in
    let high = run-high c.args.g c.requires in
    omega arith
