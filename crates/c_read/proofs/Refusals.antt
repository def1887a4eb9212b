-- A read that is refused leaves the sector's buffer as it was. The read with a key rests on read-by too.
use Prim.Native.Nat.{ℕ}
use mathlib.Core.List.{List}
use mathlib.Core.Path.{refl}
use Rattle.octets.specs.Answer.{taken, refused}
use Rattle.octets.specs.Choice.{first_met}
use Rattle.model.specs.declared.State.{State}
use Rattle.model.specs.State.{Verdict, passed}
use Rattle.model.specs.Tag.{Tags, tag_of}
use Rattle.model.specs.Read.{read_rows, read_by, read_of}
use Rattle.c_numbers.specs.Called.{Keeps}
use Rattle.c_numbers.proofs.Calls.{called-keeps}
use Rattle.c_volume_state.specs.VolumeState.{decode_of}
use Rattle.c_read.specs.Reads.{RefusedReadKeeps, read_leaves, read_call}

pub read-by : (tags : Tags) (d : State) (v st : List ℕ) (i : ℕ) (b : List ℕ) (x : Verdict) → Keeps (read_leaves (read_by tags d v st i b x)) b
read-by tags d v st i b (taken y) h = absurd (h refl)
read-by tags d v st i b (refused r) h = refl

pub refused-read-keeps : RefusedReadKeeps
unfolding read_call read_of
refused-read-keeps s v st i b a = called-keeps a _ b _ (λ e. read-by tag_of (decode_of s) v st i b (first_met (read_rows tag_of (decode_of s) v st i b) passed))
