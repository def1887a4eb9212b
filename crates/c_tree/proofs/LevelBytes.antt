-- The theorem of specs/Theorems: a level is read back from its bytes.
use Prim.Native.Nat.{◌-◌, ◌^◌}
use native.Mathlib.Omega.{arith}
use mathlib.Core.Path.{◌≡◌}
use lib.IntN.{pos, negsuc}
use borrow.Author.Tests.{lt-ltb, le-ltb}
use Rattle.octets.specs.Numbers.{le, value}
use Rattle.octets.proofs.Numbers.{value-le}
use Rattle.c_numbers.specs.Sizes.{level_size}
use Rattle.c_tree.specs.Theorems.{LevelBack}

pub level-back : LevelBack
level-back (pos n) h =
    let e : value (le level_size n) ≡ n = value-le level_size n (omega arith) in
    rw (e, lt-ltb n (2 ^ 31) h)
level-back (negsuc n) h =
    let e : value (le level_size (2 ^ 32 - 1 - n)) ≡ 2 ^ 32 - 1 - n = value-le level_size (2 ^ 32 - 1 - n) (omega arith) in
    let twice : 2 ^ 32 - 1 - (2 ^ 32 - 1 - n) ≡ n = omega arith in
    rw (e, le-ltb (2 ^ 32 - 1 - n) (2 ^ 31) (omega arith), twice)
