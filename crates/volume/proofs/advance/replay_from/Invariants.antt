use Prim.Native.Nat.{◌+◌, ◌^◌, ◌<◌}
use mathlib.Core.Path.{◌≡◌}
use Rattle.volume.proofs.Advancing.{Underway}
use Rattle.volume.proofs.advance.replay_from.Given as goal

abbrev pub invariant-loop : goal.invariant-loop
invariant-loop l = (l.made ≡ l.counter) × (l.k + l.made < 2 ^ 64) × Underway l.before l.s l.initial.v l.k l.ids l.made l.at l.x l.v
