-- What is proved of a state and its bytes: encoding and decoding are inverse. The proofs are in proofs/DigestStateBytes.
use Rattle.std.specs.Prelude.{ℕ, List, ◌≡◌, length}
use Rattle.octets.specs.Numbers.{Bytes}
use Rattle.digest.specs.declared.State.{State}
use Rattle.c_numbers.specs.Sizes.{digest_state_size}
use Rattle.c_digest.specs.DigestState.{decode_of, encode_of, IsState}

-- Every state is read back from its bytes,
abbrev pub DecodeEncode : Type 0
DecodeEncode = (s : State) → IsState s → decode_of (encode_of s) ≡ s

-- which are as many as a state has.
abbrev pub EncodeBytes : Type 0
EncodeBytes = (s : State) → IsState s → (length (encode_of s) ≡ digest_state_size) × Bytes (encode_of s)

-- Any bytes of that length are those of the state read from them,
abbrev pub EncodeDecode : Type 0
EncodeDecode = (b : List ℕ) → Bytes b → length b ≡ digest_state_size → encode_of (decode_of b) ≡ b

-- and that is a state.
abbrev pub DecodeState : Type 0
DecodeState = (b : List ℕ) → Bytes b → length b ≡ digest_state_size → IsState (decode_of b)
