-- What a call of the C interface answers, and what it leaves where it is lent one buffer to write to. R71.
--
-- done                      : the number of a call that was carried out
-- wrong_length               : the number (R71) where a buffer has a wrong length, or the state's holds no state
-- carried_out b              : the call was carried out, and b is what the buffer then holds
-- refused_with n b           : the call was refused with the number n, and the buffer holds b as before
-- answering a before after  : what a call leaves whose answer is a: where that is taken the buffer holds `after`, else `before`, which it held
use Rattle.std.specs.Prelude.{ℕ, List}
use Rattle.octets.specs.Answer.{Answer, taken, refused}

abbrev pub done : ℕ
done = 0

abbrev pub wrong_length : ℕ
wrong_length = 1

pub record Outcome : Type 0 where
  -- the number that the call answers
  pub number : ℕ
  -- the content of the buffer afterwards
  pub buffer : List ℕ

abbrev pub carried_out : List ℕ → Outcome
carried_out b = record { number = done; buffer = b }

abbrev pub refused_with : ℕ → List ℕ → Outcome
refused_with n b = record { number = n; buffer = b }

abbrev pub answering : {Value A : Type 0} → Answer Value A → List ℕ → List ℕ → Outcome
answering (taken x) before after = carried_out after
answering (refused r) before after = refused_with r.number before
