-- Parts that are lent: `&v[a..a + n]` and `&v[a..]`.
use Prim.Native.Nat.{ℕ, ◌+◌, ◌-◌, ◌≤◌}
use mathlib.Core.List.{List}
use mathlib.Core.Path.{◌≡◌, ap, ◌∙◌}
use native.Mathlib.Omega.{arith}
use lib.ListN.{length, drop, take, length-drop}
use lib.Seq.{take_all}
use Rattle.octets.specs.Parts.{part}
use Rattle.octets.proofs.Parts.{length_part}

pub lent : (v : List ℕ) (a n : ℕ) → a + n ≤ length v → (part v a (a + n - a) ≡ part v a n) × (length (part v a (a + n - a)) ≡ n)
lent v a n h =
    let same : part v a (a + n - a) ≡ part v a n = ap (part v a) {x = a + n - a} {y = n} (omega arith) in
    (same, ap length same ∙ length_part v a n h)

pub lent-rest : (v : List ℕ) (a : ℕ) → take (length v - a) (drop a v) ≡ drop a v
lent-rest v a = take_all (length v - a) (drop a v) (omega (arith, length-drop a v))
