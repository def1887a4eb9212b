-- A call that is refused leaves every buffer but the answer's as it was.
use Prim.Native.Nat.{ℕ}
use mathlib.Core.List.{List}
use Rattle.octets.specs.Choice.{first_met}
use Rattle.octets.specs.Numbers.{Bytes}
use Rattle.on_disk.specs.declared.Layout.{Layout}
use Rattle.on_disk.specs.Superblock.{superblock_at, layout_in}
use Rattle.model.specs.State.{passed}
use Rattle.model.specs.Tag.{hmac_tag_of}
use Rattle.model.specs.Format.{format_rows}
use Rattle.model.specs.Open.{open_rows, replay_verdict}
use Rattle.model.specs.Write.{write_rows}
use Rattle.model.specs.Read.{read_rows}
use Rattle.model.specs.Keyed.{with_key, format_keyed_of, open_keyed_with, write_keyed_of, read_keyed_of}
use Rattle.c_numbers.specs.Called.{Keeps}
use Rattle.c_numbers.proofs.Calls.{called-keeps}
use Rattle.c_volume_state.specs.VolumeState.{decode_of}
use Rattle.c_volume_state.proofs.VolumeStateBytes.{state-kept}
use Rattle.c_setup.proofs.Refusals.{format-by, open_by_lem}
use Rattle.c_batch.proofs.Refusals.{write-by}
use Rattle.c_read.proofs.Refusals.{read-by}
use Rattle.c_keyed.specs.Keyed.{RefusedKeyedKeeps, format_keyed_call, open_keyed_call, write_keyed_call, read_keyed_call}

format-refused : (v : List ℕ) (g : Layout) (k a : List ℕ) → Keeps (format_keyed_call v g k a) v
unfolding format_keyed_call format_keyed_of
format-refused v g k a = called-keeps a _ v _ (λ e. format-by _ g v (first_met (with_key k (format_rows g v)) passed))

open-refused : (v st : List ℕ) (r : ℕ) (k s a : List ℕ) → Keeps (open_keyed_call v st r k s a) (record { staging = st; state = s })
unfolding open_keyed_call open_keyed_with
open-refused v st r k s a =
    let g : Layout = layout_in r (superblock_at r v) in
    called-keeps a _ _ _ (λ e. open_by_lem g v st s (first_met (with_key k (open_rows g r v st)) (replay_verdict (hmac_tag_of k g.width) g v)))

write-refused : (s st : List ℕ) (i : ℕ) (b k a : List ℕ) → Bytes s → Keeps (write_keyed_call s st i b k a) (record { state = s; staging = st })
unfolding write_keyed_call write_keyed_of
write-refused s st i b k a bytes =
    called-keeps a _ _ _ (λ e h. rw (state-kept s bytes e) at (write-by (hmac_tag_of k) (decode_of s) st i b (first_met (with_key k (write_rows (decode_of s) st i b)) passed) h))

read-refused : (s v st : List ℕ) (i : ℕ) (b k a : List ℕ) → Keeps (read_keyed_call s v st i b k a) b
unfolding read_keyed_call read_keyed_of
read-refused s v st i b k a =
    called-keeps a _ b _ (λ e. read-by (hmac_tag_of k) (decode_of s) v st i b (first_met (with_key k (read_rows (hmac_tag_of k) (decode_of s) v st i b)) passed))

pub refused-keyed-keeps : RefusedKeyedKeeps
refused-keyed-keeps = record { format = format-refused; opens = open-refused; write = write-refused; read = read-refused }
