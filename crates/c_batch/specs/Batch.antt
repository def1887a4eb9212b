-- The calls that make and commit a batch, over buffers. R41, R42, R71.
--
-- write_leaves o, flush_leaves o : what the call of that name leaves where the model's has the result o
-- WriteBuffers              : what the other buffers of gaffreel_volume_write hold
-- write_call s st n b a      : what it leaves of the state's buffer s, staging st, sector n, its bytes b, and the answer's buffer a
-- flush_call s a             : what gaffreel_volume_flush leaves
-- RefusedBatchKeeps         : a call that is refused leaves every buffer but the answer's as it was
use Rattle.std.specs.Prelude.{ℕ, not, List}
use Rattle.octets.specs.Numbers.{Bytes}
use Rattle.model.specs.Tag.{tag_of}
use Rattle.model.specs.Write.{WriteResult, write_of}
use Rattle.model.specs.Flush.{FlushResult, flush_of}
use Rattle.c_numbers.specs.Called.{Called, called, Keeps}
use Rattle.c_volume_state.specs.VolumeState.{encode_of, decode_of, encodes_state}
use Rattle.c_replies.specs.Replies.{replying, plain_reply, flush_reply}

-- ---- write

pub record WriteBuffers : Type 0 where
  pub state : List ℕ
  pub staging : List ℕ

abbrev pub write_leaves : WriteResult → Called WriteBuffers
write_leaves o = replying (plain_reply o.answer) (record { state = encode_of o.state; staging = o.staging })

unfoldable pub write_call : List ℕ → List ℕ → ℕ → List ℕ → List ℕ → Called WriteBuffers
write_call s st n b a =
    called a (not (encodes_state s)) (record { state = s; staging = st }) (write_leaves (write_of tag_of (decode_of s) st n b))

-- ---- flush

abbrev pub flush_leaves : FlushResult → Called (List ℕ)
flush_leaves o = replying (flush_reply o.answer) (encode_of o.state)

unfoldable pub flush_call : List ℕ → List ℕ → Called (List ℕ)
flush_call s a = called a (not (encodes_state s)) s (flush_leaves (flush_of (decode_of s)))

-- ---- refusals; the proofs are in proofs/Refusals

pub record RefusedBatchKeeps : Type 0 where
  pub write : (s st : List ℕ) (n : ℕ) (b a : List ℕ) → Bytes s → Keeps (write_call s st n b a) (record { state = s; staging = st })
  pub flush : (s a : List ℕ) → Bytes s → Keeps (flush_call s a) s
