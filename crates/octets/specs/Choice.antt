-- Choice by tests. R69: a refusal is given exactly where its rule is the first that is met. A call's rules are rows of a test and an answer, in the
-- call's order.
use Rattle.std.specs.Prelude.{ℕ, Bool, true, false, not, List, [], ◌∷◌, eqb}

-- whether m and n differ
abbrev pub differs : ℕ → ℕ → Bool
differs m n = not (eqb m n)

-- a where the test is true, else b
abbrev pub pick {ℓ} : {A : Type ℓ} → Bool → A → A → A
pick true a b = a
pick false a b = b

-- the answer of the first row whose test is true, else z
abbrev pub first_met : {A : Type 0} → List (Bool × A) → A → A
first_met [] z = z
first_met (row ∷ rows) z = pick row.0 row.1 (first_met rows z)
