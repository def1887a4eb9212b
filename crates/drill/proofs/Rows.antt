-- A law of rows of a test and an answer: what holds of the answer of each row that is met, and of the last one, holds of the answer.
use mathlib.Core.Bool.{Bool, true, false}
use mathlib.Core.List.{List, [], ◌∷◌}
use mathlib.Core.Path.{◌≡◌, refl}
use Rattle.octets.specs.Choice.{pick, first_met}

module _ {A : Type 0} (Q : A → Type 0) where
  abbrev pub Each : List (Bool × A) → Type 0
  Each [] = Unit {0}
  Each (row ∷ rows) = (row.0 ≡ true → Q row.1) × Each rows

  pub each : (rows : List (Bool × A)) (z : A) → Each rows → Q z → Q (first_met rows z)
  each [] z h last = last
  each (row ∷ rows) z h last = go row.0 h.0 (each rows z h.1 last)
    where
      go : (t : Bool) → (t ≡ true → Q row.1) → Q (first_met rows z) → Q (pick t row.1 (first_met rows z))
      go true f q = f refl
      go false f q = q
