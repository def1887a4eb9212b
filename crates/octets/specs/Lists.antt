-- Numbers below a bound, tested and collected. Each takes what a function gives for 0, 1, .. up to the bound, in that order.
--
-- collect n f    : the lists f 0, f 1, .. f (n - 1), one behind the other
-- all_below n f   : whether f holds of every number below n
-- first_below n f : the least number below n of which f holds; n − 1 where there is none below that
-- greatest n f   : the greatest of f 0 to f (n - 1); 0 where n is 0
-- if_below n k   : the number k where it is below n, else none
use Rattle.std.specs.Prelude.{ℕ, zero, suc, max, ltb, Option, Some, None, Bool, true, not, ◌&&◌, List, [], ◌++◌}
use Rattle.octets.specs.Choice.{pick}

abbrev pub collect : {A : Type 0} → ℕ → (ℕ → List A) → List A
collect zero f = []
collect (suc n) f = collect n f ++ f n

abbrev pub all_below : ℕ → (ℕ → Bool) → Bool
all_below zero f = true
all_below (suc n) f = all_below n f && f n

abbrev pub first_below : ℕ → (ℕ → Bool) → ℕ
first_below zero f = 0
first_below (suc n) f = pick (all_below n (λ k. not (f k))) n (first_below n f)

abbrev pub greatest : ℕ → (ℕ → ℕ) → ℕ
greatest zero f = 0
greatest (suc n) f = max (greatest n f) (f n)

abbrev pub if_below : ℕ → ℕ → Option ℕ
if_below n k = pick (ltb k n) (Some k) None
