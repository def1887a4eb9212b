-- HMAC as a call of its own, R104 and R106: any key and message.
--
-- message_limit    : the most bytes that a message may have: with the padded block before it, it is within the digest's limit (R12)
-- MacOutcome      : what the call returns: the answer by number and values, and the 32 bytes, zeros where it is refused
-- called r        : what the code returned, r, so read; an error gives zeros for the mac
-- mac_rows k m     : the rules of the call, in order
-- mac_call_of k m   : the call
use Rattle.std.specs.Prelude.{ℕ, ◌-◌, Bool, not, List, [], ◌∷◌, ltb, length, replicate, Result, Ok, Err}
use Rattle.octets.specs.Answer.{Answer, taken, refused, refuse}
use Rattle.octets.specs.Choice.{first_met}
use Rattle.digest.specs.Pieces.{limit}
use Rattle.digest.specs.Sha256.{digest_size}
use Rattle.hmac.specs.declared.Refusal as code
use Rattle.hmac.specs.Answer.{answer_of}
use Rattle.hmac.specs.Hmac.{block_size, hmac, key_ok}

abbrev pub message_limit : ℕ
message_limit = limit - block_size

pub record MacOutcome : Type 0 where
  pub answer : Answer ℕ (Unit {0})
  pub mac : List ℕ

abbrev pub called : Result (List ℕ) code.Refusal → MacOutcome
called (Ok m) = record { answer = taken tt; mac = m }
called (Err e) = record { answer = answer_of e; mac = replicate digest_size 0 }

abbrev pub mac_rows : List ℕ → List ℕ → List (Bool × Answer ℕ (Unit {0}))
mac_rows k m =
    (not (key_ok k), refuse 2 [])
    ∷ (ltb message_limit (length m), refuse 1 [])
    ∷ []

abbrev pub mac_by : List ℕ → List ℕ → Answer ℕ (Unit {0}) → MacOutcome
mac_by k m (taken x) = record { answer = taken x; mac = hmac k m }
mac_by k m (refused r) = record { answer = refused r; mac = replicate digest_size 0 }

unfoldable pub mac_call_of : List ℕ → List ℕ → MacOutcome
mac_call_of k m = mac_by k m (first_met (mac_rows k m) (taken tt))
