-- Answers are told apart.
use Prim.Native.Nat.{ℕ}
use mathlib.Core.Bool.{false}
use mathlib.Core.Logic.{◌≢◌}
use mathlib.Core.Path.{◌≡◌, refl, ap}
use native.Mathlib.Omega.{arith}
use Rattle.octets.specs.Answer.{Refusal, Answer, taken, refused, is_taken, number_in}

module _ {Value A : Type 0} where
  given : A → Answer Value A → A
  given z (taken x) = x
  given z (refused r) = z

  -- what is given, by its answer
  pub taken-same : (x y : A) → ◌≡◌ {A = Answer Value A} (taken x) (taken y) → x ≡ y
  unfolding given
  taken-same x y e = ap (given x) e

  pub refused-not-taken : (r : Refusal Value) (x : A) → ◌≢◌ {A = Answer Value A} (refused r) (taken x)
  refused-not-taken r x e = absurd (let z : ◌≡◌ {A = ℕ} 0 1 = cc in omega arith)

  -- a number other than 0 is a refusal's
  pub number-refused : (a : Answer Value A) → number_in a ≢ 0 → is_taken a ≡ false
  number-refused (taken x) h = absurd (h refl)
  number-refused (refused r) h = refl
