-- The calls that read a sector and verify many, over buffers. R50, R51, R71.
--
-- read_leaves o              : what gaffreel_volume_read leaves where the model's read has the result o
-- read_call s v st n b a     : what it leaves of the state's buffer s, the volume v, staging st, sector n, the buffer b that receives the sector's bytes, and
--                             the answer's buffer a
-- verify_leaves x            : what gaffreel_volume_verify leaves where the model's verify says x: beside the answer there is no buffer that it writes to
-- verify_call s v n k a      : what it leaves of the state's buffer s, the volume v, k sectors from n on, and the answer's buffer a
-- RefusedReadKeeps          : a read that is refused leaves the sector's buffer as it was
use Rattle.std.specs.Prelude.{ℕ, not, List}
use Rattle.model.specs.Tag.{tag_of}
use Rattle.model.specs.State.{Verdict}
use Rattle.model.specs.Read.{ReadResult, read_of}
use Rattle.model.specs.Verify.{verify_of}
use Rattle.c_numbers.specs.Called.{Called, called, Keeps}
use Rattle.c_volume_state.specs.VolumeState.{decode_of, encodes_state}
use Rattle.c_replies.specs.Replies.{replying, plain_reply}

abbrev pub read_leaves : ReadResult → Called (List ℕ)
read_leaves o = replying (plain_reply o.answer) o.sector

unfoldable pub read_call : List ℕ → List ℕ → List ℕ → ℕ → List ℕ → List ℕ → Called (List ℕ)
read_call s v st n b a = called a (not (encodes_state s)) b (read_leaves (read_of tag_of (decode_of s) v st n b))

abbrev pub verify_leaves : Verdict → Called (Unit {0})
verify_leaves x = replying (plain_reply x) tt

unfoldable pub verify_call : List ℕ → List ℕ → ℕ → ℕ → List ℕ → Called (Unit {0})
verify_call s v n k a = called a (not (encodes_state s)) tt (verify_leaves (verify_of tag_of (decode_of s) v n k))

-- the proof is in proofs/Refusals
abbrev pub RefusedReadKeeps : Type 0
RefusedReadKeeps = (s v st : List ℕ) (n : ℕ) (b a : List ℕ) → Keeps (read_call s v st n b a) b
