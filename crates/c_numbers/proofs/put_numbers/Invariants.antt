-- After j turns the first j numbers are written.
use Prim.Native.Nat.{◌*◌}
use mathlib.Core.Path.{◌≡◌}
use lib.ListN.{take}
use Rattle.octets.specs.Parts.{patch}
use Rattle.c_numbers.specs.Numbers.{number_bytes}
use Rattle.c_numbers.proofs.put_numbers.Given as goal

abbrev pub invariant-loop-j : goal.invariant-loop-j
invariant-loop-j l = l.buffer ≡ patch l.initial.buffer (8 * l.k) (number_bytes 8 (take l.j l.numbers))
