-- What a call of a volume leaves, and the two tests that each begins with. R71.
--
-- Called A                  : what a call leaves: its number, what its other buffers hold, as a value of type A, and what the answer's holds
-- no_values                  : what the answer's buffer holds after a refusal that also returns nothing: five zeros
-- called a bad before made  : what a call leaves that was lent the answer's buffer a, and other buffers that held `before`. Where a has a wrong length it is
--                             refused, and nothing is written; where the call found another buffer bad, it is refused with the same number, and
--                             says so; else `made` is what it leaves
-- CalledRows A              : the rows of `called`, each for itself: a call writes nothing where the answer's buffer has a wrong length, five zeros there alone
--                             where it found another buffer bad, and is made where both have passed
-- Keeps c before            : where a call that leaves c is refused, its other buffers hold `before`, as they did. (R70)
use Rattle.std.specs.Prelude.{ℕ, Bool, true, false, List, [], ◌∷◌, ◌≢◌, ◌≡◌, length}
use Rattle.octets.specs.Choice.{first_met, differs}
use Rattle.c_numbers.specs.Numbers.{number_bytes}
use Rattle.c_numbers.specs.Sizes.{answer_size}
use Rattle.c_numbers.specs.Outcome.{done, wrong_length}

pub record Called (A : Type 0) : Type 0 where
  -- the number that the call answers
  pub number : ℕ
  -- the contents of the buffers afterwards
  pub left : A
  pub answer : List ℕ

unfoldable pub no_values : List ℕ
no_values = number_bytes 8 (0 ∷ 0 ∷ 0 ∷ 0 ∷ 0 ∷ [])

unfoldable pub called : {A : Type 0} → List ℕ → Bool → A → Called A → Called A
called a bad before made =
    first_met
    ((differs (length a) answer_size, record { number = wrong_length; left = before; answer = a }) ∷
    (bad, record { number = wrong_length; left = before; answer = no_values }) ∷
    [])
    made

abbrev pub Keeps : {A : Type 0} → Called A → A → Type 0
Keeps c before = c.number ≢ done → c.left ≡ before

-- the proof is in proofs/Calls
pub record CalledRows (A : Type 0) : Type 0 where
  pub wrong : (a : List ℕ) (bad : Bool) (before : A) (made : Called A) → length a ≢ answer_size
      → called a bad before made ≡ record { number = wrong_length; left = before; answer = a }
  pub refused : (a : List ℕ) (before : A) (made : Called A) → length a ≡ answer_size
      → called a true before made ≡ record { number = wrong_length; left = before; answer = no_values }
  pub made : (a : List ℕ) (before : A) (made : Called A) → length a ≡ answer_size → called a false before made ≡ made
