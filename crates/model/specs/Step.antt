-- Step: R43, one store, or none when filling; refusals in the order of R76. What it does in each other phase is in JournalStep.antt.
--
-- recovery_row g x, range_rows s v st p : refusal 6, only of the entry that is being replayed or written back
-- step_rows s v st : the rules of the call, in order
-- step_of s v st   : the call
use Rattle.std.specs.Prelude.{None, ℕ, Bool, not, ◌&&◌, List, [], ◌∷◌, leb}
use Rattle.octets.specs.Answer.{taken, refused, refuse}
use Rattle.octets.specs.Choice.{first_met}
use Rattle.on_disk.specs.declared.Layout.{Layout}
use Rattle.model.specs.declared.Phase.{Phase}
use Rattle.model.specs.declared.Phase.TheVariants as phases
use Rattle.model.specs.declared.Says.TheVariants as says
use Rattle.model.specs.declared.State.{State}
use Rattle.model.specs.Store.{none, store_of, RecoveryStep, storing, recovery_step_at}
use Rattle.model.specs.State.{Verdict, passed, state_ok, volume_ok, staged_ok}
use Rattle.model.specs.StepResult.{StepResult}
use Rattle.model.specs.JournalStep.{staged_entry, commit_step, write_back_step, recover_step}

abbrev pub recovery_row : Layout → RecoveryStep → Bool × Verdict
recovery_row g (storing (store_of x h)) = (leb g.provided x.entry.sector, refuse 6 (x.section ∷ x.index ∷ []))

abbrev pub range_rows : State → List ℕ → List ℕ → Phase → List (Bool × Verdict)
range_rows s v st phases.Filling = []
range_rows s v st (phases.Committing j) = []
range_rows s v st (phases.WritingBack i h) = (leb s.layout.provided (staged_entry s st i).sector, refuse 6 (i ∷ [])) ∷ []
range_rows s v st (phases.Recovering k) = recovery_row s.layout (recovery_step_at s.layout v k) ∷ []

abbrev pub step_rows : State → List ℕ → List ℕ → List (Bool × Verdict)
step_rows s v st = (not (state_ok s && (volume_ok s v && staged_ok s st)), refuse 1 []) ∷ range_rows s v st s.phase

module _ (s : State) (v st : List ℕ) where
  abbrev pub phase_step : Phase → StepResult
  phase_step phases.Filling = record { answer = taken (None, says.Filling); state = s; effect = none; staging = st }
  phase_step (phases.Committing j) = commit_step s v st j
  phase_step (phases.WritingBack i h) = write_back_step s v st i h
  phase_step (phases.Recovering k) = recover_step s v st k

  abbrev pub step_by : Verdict → StepResult
  step_by (taken x) = phase_step s.phase
  step_by (refused r) = record { answer = refused r; state = s; effect = none; staging = st }

  unfoldable pub step_of : StepResult
  step_of = step_by (first_met (step_rows s v st) passed)
