-- A step on a volume with a journal, in each phase but filling.
--
-- commit_steps g      : how many steps a commit takes, of which the last acknowledges the batch
-- staged_entry s st i : entry i of the batch
-- commit_step ..      : a step in committing: sectors 0 to M − 1 of the section for the state's id, in order (R44)
-- home_step ..        : store h of the entry e is made; after the last of all the volume is filling and staging is left, else the phase p is next
-- write_back_step ..   : a step in writing back: of each entry in order the data, then the tag (R46, R116); after the last, staging is an empty section (R47)
-- recover_step ..     : a step in recovering: the replay, in order (R48)
use Rattle.std.specs.Prelude.{ℕ, ◌+◌, Bool, ◌&&◌, List, ltb, eqb}
use Rattle.octets.specs.Choice.{pick}
use Rattle.on_disk.specs.declared.Layout.{Layout}
use Rattle.model.specs.declared.Phase.{Phase}
use Rattle.model.specs.declared.Phase.TheVariants.{Committing, WritingBack, Recovering}
use Rattle.model.specs.declared.State.{State}
use Rattle.on_disk.specs.Layout.{section_size, section_at}
use Rattle.on_disk.specs.Section.{Entry, entry_of, empty_section}
use Rattle.model.specs.Journal.{section_for, sealed, replay}
use Rattle.model.specs.Store.{Store, home_count, home_store, store_of, RecoveryStep, storing, steps_of, recovery_step_at}
use Rattle.model.specs.StepResult.{StepResult, stored, acknowledged, filled}

abbrev pub commit_steps : Layout → ℕ
commit_steps g = section_size g.width

abbrev pub staged_entry : State → List ℕ → ℕ → Entry
staged_entry s st i = entry_of s.layout.width st i

module _ (s : State) (v st : List ℕ) where
  abbrev pub commit_store : ℕ → Store
  commit_store j =
      record { at = section_at s.layout (section_for s.layout s.id) + j; content = sealed s.layout st s.id j }

  unfoldable pub commit_step : ℕ → StepResult
  commit_step j =
      pick (ltb (j + 1) (section_size s.layout.width))
      (stored s st (commit_store j) (Committing (j + 1)))
      (acknowledged s st (commit_store j))

  unfoldable pub home_step : Entry → ℕ → (last : Bool) → (p : Phase) → (left : List ℕ) → StepResult
  home_step e h last p left =
      pick last (filled s (home_store s.layout v e h) left) (stored s st (home_store s.layout v e h) p)

  abbrev pub write_back_step : ℕ → ℕ → StepResult
  write_back_step i h =
      home_step (staged_entry s st i) h
      (eqb (h + 1) (home_count s.layout (staged_entry s st i)) && eqb (i + 1) s.count)
      (pick (eqb (h + 1) (home_count s.layout (staged_entry s st i))) (WritingBack (i + 1) 0) (WritingBack i (h + 1)))
      (empty_section s.layout.width)

  abbrev pub recover_at : ℕ → RecoveryStep → StepResult
  recover_at k (storing (store_of x h)) =
      home_step x.entry h (eqb (k + 1) (steps_of s.layout (replay s.layout v))) (Recovering (k + 1)) st

  abbrev pub recover_step : ℕ → StepResult
  recover_step k = recover_at k (recovery_step_at s.layout v k)
