-- After i turns the first i events are played, and the bytes behind those are to come.
use Prim.Native.Nat.{◌*◌}
use mathlib.Core.Path.{◌≡◌}
use lib.ListN.{length, drop}
use Rattle.std.specs.Prelude.{option_copied}
use Rattle.std.specs.Slice.Iter.{chunks_exact_rest, chunks_exact_size}
use Rattle.drill.specs.Script.{event_size, events_up_to}
use Rattle.drill.specs.Played.{Ran}
use Rattle.drill.proofs.events.Given as goal

abbrev pub invariant-loop-bytes : goal.invariant-loop-bytes
invariant-loop-bytes l = record {
  size : chunks_exact_size l.bytes-iterator ≡ event_size;
  rest : chunks_exact_rest l.bytes-iterator ≡ drop (event_size * length l.yielded) l.script;
  loan : length l.st ≡ length l.initial.st;
  ran : Ran (option_copied l.x.key) l.x.reserved l.initial.v l.initial.st (events_up_to (length l.initial.st) l.script (length l.yielded)) l.last l.v l.st;
}
