-- HMAC's call over buffers. R104, R106, R71.
--
-- hmac_call k m d            : what gaffreel_hmac_sha256 leaves of the key k, the message m and the digest's buffer d. That buffer's length is tested before the
--                             key's
use Rattle.std.specs.Prelude.{ℕ, List, [], ◌∷◌, length}
use Rattle.octets.specs.Choice.{first_met, differs}
use Rattle.digest.specs.Sha256.{digest_size}
use Rattle.hmac.specs.Call.{mac_call_of}
use Rattle.c_numbers.specs.Outcome.{Outcome, wrong_length, refused_with, answering}

unfoldable pub hmac_call : List ℕ → List ℕ → List ℕ → Outcome
hmac_call k m d =
    first_met
    ((differs (length d) digest_size, refused_with wrong_length d) ∷ [])
    (answering (mac_call_of k m).answer d (mac_call_of k m).mac)
