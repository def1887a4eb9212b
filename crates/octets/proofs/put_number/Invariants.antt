-- The part has the first bytes of x, and v is what is left of x.
use Rattle.std.proofs.Common.{◌≡◌, ◌-◌, ◌≤◌, length, take, drop}
use Rattle.octets.specs.Numbers.{le}
use Rattle.octets.proofs.put_number.Given as goal

abbrev pub invariant-loop-b : goal.invariant-loop-b
invariant-loop-b l = record {
  within : l.b-index ≤ l.n;
  size : length l.b-items ≡ l.n;
  written : take l.b-index l.b-items ≡ take l.b-index (le l.n l.x);
  left : drop l.b-index (le l.n l.x) ≡ le (l.n - l.b-index) l.v;
}
