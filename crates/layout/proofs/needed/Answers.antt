use native.Mathlib.Omega.{arith}
use Rattle.layout.proofs.Sizes.{provided-low, provided-high}
use Rattle.layout.proofs.needed.Goals as goal

pub overflow_sub-g : goal.overflow_sub-g
overflow_sub-g c =
    omega (arith, provided-low c.args.g c.requires)

pub data_at-requires : goal.data_at-requires
data_at-requires c =
    (c.requires, omega (arith, provided-high c.args.g c.requires))
