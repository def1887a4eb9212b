-- What is proved of a state and its bytes: encoding and decoding are inverse. The proofs are in proofs/VolumeStateBytes.
use Rattle.std.specs.Prelude.{true, List, ◌≡◌, ℕ}
use Rattle.octets.specs.Numbers.{Bytes}
use Rattle.model.specs.declared.State.{State}
use Rattle.c_volume_state.specs.VolumeState.{decode_of, encode_of, encodes_state, IsState}

-- Every state is read back from its bytes,
abbrev pub DecodeEncode : Type 0
DecodeEncode = (s : State) → IsState s → decode_of (encode_of s) ≡ s

-- which are bytes that encode a state.
abbrev pub EncodeBytes : Type 0
EncodeBytes = (s : State) → IsState s → (encodes_state (encode_of s) ≡ true) × Bytes (encode_of s)

-- Bytes that encode a state are those of the state read from them,
abbrev pub EncodeDecode : Type 0
EncodeDecode = (b : List ℕ) → Bytes b → encodes_state b ≡ true → encode_of (decode_of b) ≡ b

-- and that is a state.
abbrev pub DecodeState : Type 0
DecodeState = (b : List ℕ) → Bytes b → encodes_state b ≡ true → IsState (decode_of b)
