-- Laws of rows of a test and an answer.
use mathlib.Core.Bool.{Bool, true, false}
use mathlib.Core.List.{List, [], ◌∷◌, ◌++◌}
use mathlib.Core.Logic.{◌≢◌}
use mathlib.Core.Path.{◌≡◌, refl, sym}
use Rattle.octets.specs.Choice.{pick, first_met}

-- the test of every row is false
abbrev pub Unmet : {A : Type 0} → List (Bool × A) → Type 0
Unmet [] = Unit {0}
Unmet (row ∷ rows) = (row.0 ≡ false) × Unmet rows

-- no row has the answer z
abbrev pub NoneAnswers : {A : Type 0} → List (Bool × A) → A → Type 0
NoneAnswers [] z = Unit {0}
NoneAnswers (row ∷ rows) z = (row.1 ≢ z) × NoneAnswers rows z

module _ {A : Type 0} where
  -- where no row is met, the answer is the last one
  pub passes : (rows : List (Bool × A)) (z : A) → Unmet rows → first_met rows z ≡ z
  passes [] z u = refl
  passes (row ∷ rows) z u = rw u.0 (passes rows z u.1)

  -- where the answer is one that no row has, no row is met
  pub unmet : (rows : List (Bool × A)) (z : A) → NoneAnswers rows z → first_met rows z ≡ z → Unmet rows
  unmet [] z n e = tt
  unmet (row ∷ rows) z n e = go (unmet rows z n.1) row.0 refl e
    where
      go : (first_met rows z ≡ z → Unmet rows) → (t : Bool) → row.0 ≡ t → pick t row.1 (first_met rows z) ≡ z → Unmet (row ∷ rows)
      go ih true q e = absurd (n.0 e)
      go ih false q e = (q, ih e)

  -- rows behind others answer where none of those is met
  pub first-append : (rows more : List (Bool × A)) (z : A) → first_met (rows ++ more) z ≡ first_met rows (first_met more z)
  first-append [] more z = refl
  first-append (row ∷ rows) more z = rw (first-append rows more z)

  pub none-append : (rows more : List (Bool × A)) (z : A) → NoneAnswers rows z → NoneAnswers more z → NoneAnswers (rows ++ more) z
  none-append [] more z a b = b
  none-append (row ∷ rows) more z a b = (a.0, none-append rows more z a.1 b)

  -- where the answer is not the last one, it is that of a row, whatever the last one is
  pub met : (rows : List (Bool × A)) (a y z : A) → a ≢ y → first_met rows y ≡ a → first_met rows z ≡ a
  met [] a y z n e = absurd (n (sym e))
  met (row ∷ rows) a y z n e = go (met rows a y z n) row.0 e
    where
      go : (first_met rows y ≡ a → first_met rows z ≡ a) → (t : Bool) → pick t row.1 (first_met rows y) ≡ a → pick t row.1 (first_met rows z) ≡ a
      go ih true e = e
      go ih false e = ih e
