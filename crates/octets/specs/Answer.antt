-- What a call answers. R100: each answer of the code is mapped onto `Answer` by a definition, which gives the number and values of each of its
-- cases, and the contracts are stated by that definition.
--
-- Refusal Value  : a number of R71's table, and what is also returned, as values of that type
-- Answer Value A : what a call answers: it is taken, and gives something of type A, or it is refused
-- refusal n xs   : the refusal with the number n, which also returns xs
-- refuse n xs    : the answer of a call that is so refused
-- is_taken a      : whether the call was taken
-- number_in a     : the number of the answer: 0 where the call was taken
use Rattle.std.specs.Prelude.{ℕ, Bool, true, false, List}

pub record Refusal (Value : Type 0) : Type 0 where
  pub number : ℕ
  pub values : List Value

pub data Answer (Value A : Type 0) : Type 0 where
  taken : A → Answer Value A
  refused : Refusal Value → Answer Value A

abbrev pub refusal : {Value : Type 0} → ℕ → List Value → Refusal Value
refusal n xs = record { number = n; values = xs }

abbrev pub refuse : {Value A : Type 0} → ℕ → List Value → Answer Value A
refuse n xs = refused (refusal n xs)

abbrev pub is_taken : {Value A : Type 0} → Answer Value A → Bool
is_taken (taken x) = true
is_taken (refused r) = false

abbrev pub number_in : {Value A : Type 0} → Answer Value A → ℕ
number_in (taken x) = 0
number_in (refused r) = r.number
