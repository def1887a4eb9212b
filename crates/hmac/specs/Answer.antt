-- The number and values of each refusal, R71 and R100. Nothing is returned beside a refusal.
--
-- answer_of e : what the code's error e answers: refused with 2 for the key's length, or with 1 where the digest's limit is passed
use Rattle.std.specs.Prelude.{ℕ, []}
use Rattle.octets.specs.Answer.{Answer, refuse}
use Rattle.hmac.specs.declared.Refusal as code
use Rattle.hmac.specs.declared.Refusal.TheVariants.{KeyLength, TooLong}

abbrev pub answer_of : code.Refusal → Answer ℕ (Unit {0})
answer_of KeyLength = refuse 2 []
answer_of TooLong = refuse 1 []
