-- A call that is refused leaves every buffer but the answer's as it was. The write with a key rests on write-by too.
use Prim.Native.Nat.{ℕ}
use mathlib.Core.Bool.{Bool, true, false}
use mathlib.Core.List.{List}
use mathlib.Core.Path.{refl}
use lib.Dec.{eqb}
use Rattle.octets.specs.Answer.{taken, refused}
use Rattle.octets.specs.Numbers.{Bytes}
use Rattle.octets.specs.Choice.{pick, first_met}
use Rattle.model.specs.declared.State.{State}
use Rattle.model.specs.State.{Verdict, passed}
use Rattle.model.specs.Tag.{Tags, tag_of}
use Rattle.model.specs.Write.{write_rows, write_by, write_of}
use Rattle.model.specs.Flush.{FlushResult, flush_rows, flush_by, flush_of}
use Rattle.c_numbers.specs.Called.{Keeps}
use Rattle.c_numbers.proofs.Calls.{called-keeps}
use Rattle.c_volume_state.specs.VolumeState.{encode_of, decode_of}
use Rattle.c_volume_state.proofs.VolumeStateBytes.{state-kept}
use Rattle.c_batch.specs.Batch.{RefusedBatchKeeps, write_leaves, flush_leaves, write_call, flush_call}

pub write-by : (tags : Tags) (d : State) (st : List ℕ) (i : ℕ) (b : List ℕ) (x : Verdict)
    → Keeps (write_leaves (write_by tags d st i b x)) (record { state = encode_of d; staging = st })
write-by tags d st i b (taken y) h = absurd (h refl)
write-by tags d st i b (refused r) h = refl

pick-keeps : (d : State) (t : Bool) (x y : FlushResult) → Keeps (flush_leaves x) (encode_of d) → Keeps (flush_leaves y) (encode_of d)
    → Keeps (flush_leaves (pick t x y)) (encode_of d)
pick-keeps d true x y p q = p
pick-keeps d false x y p q = q

flush-by : (d : State) (x : Verdict) → Keeps (flush_leaves (flush_by d x)) (encode_of d)
flush-by d (taken y) = pick-keeps d (eqb d.count 0) _ _ (λ h. absurd (h refl)) (λ h. absurd (h refl))
flush-by d (refused r) = λ h. refl

write-refused : (s st : List ℕ) (i : ℕ) (b a : List ℕ) → Bytes s → Keeps (write_call s st i b a) (record { state = s; staging = st })
unfolding write_call write_of
write-refused s st i b a bytes =
    called-keeps a _ _ _ (λ e h. rw (state-kept s bytes e) at (write-by tag_of (decode_of s) st i b (first_met (write_rows (decode_of s) st i b) passed) h))

flush-refused : (s a : List ℕ) → Bytes s → Keeps (flush_call s a) s
unfolding flush_call flush_of
flush-refused s a bytes = called-keeps a _ s _ (λ e h. rw (state-kept s bytes e) at (flush-by (decode_of s) (first_met (flush_rows (decode_of s)) passed) h))

pub refused-batch-keeps : RefusedBatchKeeps
refused-batch-keeps = record { write = write-refused; flush = flush-refused }
