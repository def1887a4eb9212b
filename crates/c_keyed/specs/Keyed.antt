-- The calls of a volume whose tags are under a key, over buffers. R105, R106, R71. Each tests the buffers that the call of that name without a key does, and
-- in its order; the key's length is the model's to test.
--
-- format_keyed_call v g k a      : what gaffreel_volume_format_keyed leaves of the volume v, the layout g, the key k and the answer's buffer a
-- open_keyed_call v st r k s a   : what gaffreel_volume_open_keyed leaves, of staging st too; r is the number of reserved sectors, and s the buffer that
--                                receives the state
-- write_keyed_call s st n b k a  : what gaffreel_volume_write_keyed leaves of the state's buffer s, staging st, sector n and its bytes b
-- read_keyed_call s v st n b k a : what gaffreel_volume_read_keyed leaves; b is the buffer that receives the sector's bytes
-- verify_keyed_call s v n m k a  : what gaffreel_volume_verify_keyed leaves, for m sectors from n on
-- RefusedKeyedKeeps            : a call that is refused leaves every buffer but the answer's as it was
use Rattle.std.specs.Prelude.{ℕ, false, not, List, length}
use Rattle.octets.specs.Choice.{differs}
use Rattle.octets.specs.Numbers.{Bytes}
use Rattle.on_disk.specs.declared.Layout.{Layout}
use Rattle.model.specs.Keyed.{format_keyed_of, open_keyed_of, write_keyed_of, read_keyed_of}
use Rattle.model.specs.Verify.{verify_keyed_of}
use Rattle.c_numbers.specs.Sizes.{volume_state_size}
use Rattle.c_numbers.specs.Called.{Called, called, Keeps}
use Rattle.c_volume_state.specs.VolumeState.{decode_of, encodes_state}
use Rattle.c_setup.specs.Setup.{format_leaves, OpenBuffers, open_leaves}
use Rattle.c_batch.specs.Batch.{WriteBuffers, write_leaves}
use Rattle.c_read.specs.Reads.{read_leaves, verify_leaves}

-- it tests the answer's buffer alone
unfoldable pub format_keyed_call : List ℕ → Layout → List ℕ → List ℕ → Called (List ℕ)
format_keyed_call v g k a = called a false v (format_leaves (format_keyed_of k g v))

unfoldable pub open_keyed_call : List ℕ → List ℕ → ℕ → List ℕ → List ℕ → List ℕ → Called OpenBuffers
open_keyed_call v st r k s a =
    called a (differs (length s) volume_state_size) (record { staging = st; state = s }) (open_leaves (open_keyed_of k r v st) s)

unfoldable pub write_keyed_call : List ℕ → List ℕ → ℕ → List ℕ → List ℕ → List ℕ → Called WriteBuffers
write_keyed_call s st n b k a =
    called a (not (encodes_state s)) (record { state = s; staging = st }) (write_leaves (write_keyed_of k (decode_of s) st n b))

unfoldable pub read_keyed_call : List ℕ → List ℕ → List ℕ → ℕ → List ℕ → List ℕ → List ℕ → Called (List ℕ)
read_keyed_call s v st n b k a = called a (not (encodes_state s)) b (read_leaves (read_keyed_of k (decode_of s) v st n b))

unfoldable pub verify_keyed_call : List ℕ → List ℕ → ℕ → ℕ → List ℕ → List ℕ → Called (Unit {0})
verify_keyed_call s v n m k a = called a (not (encodes_state s)) tt (verify_leaves (verify_keyed_of k (decode_of s) v n m))

-- ---- refusals; the proofs are in proofs/Refusals

pub record RefusedKeyedKeeps : Type 0 where
  pub format : (v : List ℕ) (g : Layout) (k a : List ℕ) → Keeps (format_keyed_call v g k a) v
  pub opens : (v st : List ℕ) (r : ℕ) (k s a : List ℕ) → Keeps (open_keyed_call v st r k s a) (record { staging = st; state = s })
  pub write : (s st : List ℕ) (n : ℕ) (b k a : List ℕ) → Bytes s → Keeps (write_keyed_call s st n b k a) (record { state = s; staging = st })
  pub read : (s v st : List ℕ) (n : ℕ) (b k a : List ℕ) → Keeps (read_keyed_call s v st n b k a) b
