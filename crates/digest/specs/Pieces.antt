-- The digest's calls, R11 and R12: what each returns, for any state, piece and message.
--
-- limit             : the most bytes that a message may have, R12
-- behind_of h n      : the state with the hash value h behind n bytes, all of them in whole blocks
-- fresh_of           : the state before any piece
-- held_of s          : the bytes of the unfinished block, R11: the first (count mod 64) of the tail
-- absorb_of s p      : the state s with the piece p added: the whole blocks of the held bytes and p are hashed, what is left is the tail, with zeros behind it
-- UpdateOutcome     : what adding a piece returns: the answer by number and values, and the state
-- updated s r       : what the code returned, r, so read; an error leaves the state s that was handed in
-- update_of s p      : the call that adds a piece; past the limit it is refused, and the state stays (refused_piece_of)
-- DigestOutcome     : what closing returns: the answer, and the digest
-- closed r          : what the code returned, r, so read; an error gives zeros for the digest
-- close_of s         : the digest of all that was added to s, by adding the padding
-- finish_of s        : the call that closes; past the limit it is refused, and zeros stand for the digest (refused_digest_of)
-- digest_of m        : the call that takes a whole message, refused likewise
use Rattle.std.specs.Prelude.{ℕ, ◌+◌, ◌-◌, ◌*◌, ◌/◌, ◌%◌, ◌^◌, List, [], ◌∷◌, ◌++◌, length, take, drop, replicate, ltb, Result, Ok, Err}
use Rattle.octets.specs.Answer.{Answer, taken, refuse}
use Rattle.octets.specs.Choice.{first_met}
use Rattle.digest.specs.declared.State.{State}
use Rattle.digest.specs.declared.TooLong.{TooLong}
use Rattle.compression.specs.Constants.{initial_hash}
use Rattle.digest.specs.Answer.{answer_of}
use Rattle.digest.specs.Padding.{padding_of, bytes_of}
use Rattle.compression.specs.Compression.{hash_of}
use Rattle.digest.specs.Sha256.{digest_size, sha256}

abbrev pub limit : ℕ
limit = 2 ^ 61 - 1

abbrev pub behind_of : List ℕ → ℕ → State
behind_of h n = record { words = h; tail = replicate 64 0; count = n }

abbrev pub fresh_of : State
fresh_of = behind_of initial_hash 0

abbrev pub held_of : State → List ℕ
held_of s = take (s.count % 64) s.tail

-- the whole blocks of l, in bytes
abbrev pub whole_of : List ℕ → ℕ
whole_of l = length l / 64 * 64

-- l with zeros up to 64 bytes
unfoldable pub filled_of : List ℕ → List ℕ
filled_of l = l ++ replicate (64 - length l) 0

unfoldable pub absorb_of : State → List ℕ → State
absorb_of s p =
    record {
      words = hash_of (length (held_of s ++ p) / 64) s.words (held_of s ++ p);
      tail = filled_of (drop (whole_of (held_of s ++ p)) (held_of s ++ p));
      count = s.count + length p;
    }

-- ---- a piece added

pub record UpdateOutcome : Type 0 where
  pub answer : Answer ℕ (Unit {0})
  pub state : State

abbrev pub updated : State → Result State TooLong → UpdateOutcome
updated s (Ok t) = record { answer = taken tt; state = t }
updated s (Err e) = record { answer = answer_of e; state = s }

abbrev pub refused_piece_of : State → UpdateOutcome
refused_piece_of s = record { answer = refuse 1 []; state = s }

unfoldable pub update_of : State → List ℕ → UpdateOutcome
update_of s p =
    first_met
    ((ltb limit (s.count + length p), refused_piece_of s) ∷ [])
    (record { answer = taken tt; state = absorb_of s p })

-- ---- a digest

pub record DigestOutcome : Type 0 where
  pub answer : Answer ℕ (Unit {0})
  pub digest : List ℕ

abbrev pub closed : Result (List ℕ) TooLong → DigestOutcome
closed (Ok d) = record { answer = taken tt; digest = d }
closed (Err e) = record { answer = answer_of e; digest = replicate digest_size 0 }

abbrev pub refused_digest_of : DigestOutcome
refused_digest_of = record { answer = refuse 1 []; digest = replicate digest_size 0 }

unfoldable pub close_of : State → List ℕ
close_of s = bytes_of (absorb_of s (padding_of s.count)).words

unfoldable pub finish_of : State → DigestOutcome
finish_of s = first_met ((ltb limit s.count, refused_digest_of) ∷ []) (record { answer = taken tt; digest = close_of s })

unfoldable pub digest_of : List ℕ → DigestOutcome
digest_of m = first_met ((ltb limit (length m), refused_digest_of) ∷ []) (record { answer = taken tt; digest = sha256 m })
