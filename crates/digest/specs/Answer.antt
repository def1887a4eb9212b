-- The number and values of the refusal, R71 and R100. Nothing is returned beside a digest's refusal.
--
-- answer_of e : what the code's error e answers: refused with 1, the digest's limit is passed
use Rattle.std.specs.Prelude.{ℕ, []}
use Rattle.octets.specs.Answer.{Answer, refuse}
use Rattle.digest.specs.declared.TooLong.{TooLong}

abbrev pub answer_of : TooLong → Answer ℕ (Unit {0})
answer_of e = refuse 1 []
