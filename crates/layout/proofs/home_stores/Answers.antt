use Prim.Native.Nat.{ℕ, ◌%◌}
use mathlib.Core.Path.{sym, ap, ◌∙◌}
use native.Mathlib.Nat.{mul-le-mul}
use native.Mathlib.Omega.{arith}
use Rattle.on_disk.specs.Layout.{run_length}
use Rattle.layout.proofs.Sizes.{width-high, in_one, in_two}
use Rattle.layout.proofs.home_stores.Goals as goal

pub overflow_mul-place_in_run : goal.overflow_mul-place_in_run
overflow_mul-place_in_run c = omega (arith, mul-le-mul c.place_in_run.ensures.1 (width-high c.args.g c.requires))

pub overflow_add-place_in_run : goal.overflow_add-place_in_run
overflow_add-place_in_run c = omega (arith, width-high c.args.g c.requires)

pub returns-then-place_in_run-g-gt-SECTOR_SIZE : goal.returns-then-place_in_run-g-gt-SECTOR_SIZE
returns-then-place_in_run-g-gt-SECTOR_SIZE c = (
  (λ e q. in_two c.args.g c.requires c.place_in_run.result e (c.place_in_run.ensures.0 ∙ ap (λ (s : ℕ). s % run_length c.args.g) (sym q)) (omega arith)),
  omega arith,
  omega arith,
)

pub returns : goal.returns
returns c = (
  (λ e q. in_one c.args.g c.requires c.place_in_run.result e (c.place_in_run.ensures.0 ∙ ap (λ (s : ℕ). s % run_length c.args.g) (sym q)) (omega arith)),
  omega arith,
  omega arith,
)
