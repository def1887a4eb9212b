-- What is proved beyond each call's own contract; the proofs are in proofs/Theorems.
use Rattle.std.specs.Prelude.{ℕ, List, ◌≡◌, length, Result}
use Rattle.digest.specs.Sha256.{digest_size}
use Rattle.hmac.specs.declared.Refusal as code
use Rattle.hmac.specs.Call.{called}
use Rattle.hmac.specs.Hmac.{block_size, block_of, hmac}
use Rattle.hmac.specs.Kept.{key_of, mac_of}

-- Number and values tell the answers apart: a contract that states them states what the code returned, error or value (R100).
abbrev pub AnswersDiffer : Type 0
AnswersDiffer = (r q : Result (List ℕ) code.Refusal) → called r ≡ called q → r ≡ q

-- R104: what is kept of a key, of any length, gives RFC 2104's value
abbrev pub KeptGivesHmac : Type 0
KeptGivesHmac = (k m : List ℕ) → mac_of (key_of k) m ≡ hmac k m

-- a key is one block, and a mac has a digest's length
abbrev pub BlockLength : Type 0
BlockLength = (k : List ℕ) → length (block_of k) ≡ block_size

abbrev pub MacLength : Type 0
MacLength = (k m : List ℕ) → length (hmac k m) ≡ digest_size
