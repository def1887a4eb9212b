-- Write: R41; refusals in the order of R74.
--
-- write_rows s st n bytes  : the rules of the call, in order
-- write_of tags s st n bytes  : the call: its answer, the state and the staging loan afterwards
use Rattle.std.specs.Prelude.{ℕ, ◌+◌, Bool, not, ◌&&◌, List, [], ◌∷◌, leb}
use Rattle.octets.specs.Answer.{taken, refused, refuse}
use Rattle.octets.specs.Choice.{first_met}
use Rattle.model.specs.declared.State.{State}
use Rattle.on_disk.specs.Layout.{entry_count}
use Rattle.on_disk.specs.Section.{Entry, put_entry}
use Rattle.model.specs.Tag.{Tags}
use Rattle.model.specs.State.{Verdict, passed, state_ok, staging_ok, sector_ok, is_filling}

pub record WriteResult : Type 0 where
  pub answer : Verdict
  pub state : State
  pub staging : List ℕ

abbrev pub write_rows : State → List ℕ → ℕ → List ℕ → List (Bool × Verdict)
write_rows s st n bytes =
    (not (state_ok s && (staging_ok s.layout st && sector_ok bytes)), refuse 1 [])
    ∷ (not (is_filling s.phase), refuse 9 [])
    ∷ (leb s.layout.provided n, refuse 6 [])
    ∷ (leb (entry_count s.layout.width) s.count, refuse 8 [])
    ∷ []

module _ (tags : Tags) (s : State) (st : List ℕ) (n : ℕ) (bytes : List ℕ) where
  abbrev pub new_entry : Entry
  new_entry = record { sector = n; bytes = bytes; tag = tags s.layout.width n bytes }

  abbrev pub write_by : Verdict → WriteResult
  write_by (taken x) =
      record {
        answer = taken x;
        state = record { layout = s.layout; phase = s.phase; count = s.count + 1; id = s.id };
        staging = put_entry s.layout.width st s.count new_entry;
      }
  write_by (refused r) = record { answer = refused r; state = s; staging = st }

  unfoldable pub write_of : WriteResult
  write_of = write_by (first_met (write_rows s st n bytes) passed)
