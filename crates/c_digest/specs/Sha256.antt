-- The digest's calls over buffers. R10, R11, R12.
--
-- sha256_call m d            : what gaffreel_sha256 leaves of the message m and the digest's buffer d
-- new_call s                 : what gaffreel_sha256_new leaves of the state's buffer s
-- update_call s p            : what gaffreel_sha256_update leaves of the state's buffer s and the piece p
-- finish_call s d            : what gaffreel_sha256_finish leaves of the state's buffer s and the digest's buffer d
use Rattle.std.specs.Prelude.{ℕ, List, [], ◌∷◌, length}
use Rattle.octets.specs.Choice.{first_met, differs}
use Rattle.digest.specs.Sha256.{digest_size}
use Rattle.digest.specs.Pieces.{fresh_of, update_of, finish_of, digest_of}
use Rattle.c_numbers.specs.Sizes.{digest_state_size}
use Rattle.c_numbers.specs.Outcome.{Outcome, wrong_length, carried_out, refused_with, answering}
use Rattle.c_digest.specs.DigestState.{decode_of, encode_of}

unfoldable pub sha256_call : List ℕ → List ℕ → Outcome
sha256_call m d =
    first_met
    ((differs (length d) digest_size, refused_with wrong_length d) ∷ [])
    (answering (digest_of m).answer d (digest_of m).digest)

unfoldable pub new_call : List ℕ → Outcome
new_call s = first_met ((differs (length s) digest_state_size, refused_with wrong_length s) ∷ []) (carried_out (encode_of fresh_of))

unfoldable pub update_call : List ℕ → List ℕ → Outcome
update_call s p =
    first_met
    ((differs (length s) digest_state_size, refused_with wrong_length s) ∷ [])
    (answering (update_of (decode_of s) p).answer s (encode_of (update_of (decode_of s) p).state))

unfoldable pub finish_call : List ℕ → List ℕ → Outcome
finish_call s d =
    first_met
    ((differs (length s) digest_state_size, refused_with wrong_length d) ∷
    (differs (length d) digest_size, refused_with wrong_length d) ∷
    [])
    (answering (finish_of (decode_of s)).answer d (finish_of (decode_of s)).digest)
