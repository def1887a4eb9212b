use Prim.Native.Nat.{◌+◌, ◌≤◌}
use mathlib.Core.Path.{◌≡◌}
use Rattle.model.specs.Advance.{advance_from}
use Rattle.volume.specs.Results.{advanced}
use Rattle.volume.proofs.advance.steps.Given as goal

abbrev pub invariant-loop : goal.invariant-loop
invariant-loop l =
    (l.last.done ≤ l.initial.last.done + l.counter) × (advanced l.last l.s l.v l.st ≡ advance_from l.counter (advanced l.initial.last l.initial.s l.initial.v l.initial.st))
