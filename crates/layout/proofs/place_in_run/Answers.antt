use native.Mathlib.Omega.{arith}
use Rattle.layout.proofs.Sizes.{shift-high, by-shifts}
use Rattle.layout.proofs.place_in_run.Goals as goal

pub overflow_shr-before : goal.overflow_shr-before
overflow_shr-before c = omega (arith, shift-high c.args.g c.requires)

pub overflow_shl-before : goal.overflow_shl-before
overflow_shl-before c = omega (arith, shift-high c.args.g c.requires)

pub returns : goal.returns
returns c =
    let place = by-shifts c.args.g c.requires c.args.s (omega arith) in
    (place.1, omega (arith, place.1, place.2))
