-- What an advance handed back and left in its loans, as the model's result.
--
-- advanced r s v st : advance's, with the state, the volume and the staging loan afterwards
-- step_added a x    : what advance hands back of the steps that a tells of and one step more, which answered x
-- Scanned a s k v i : no step was made yet, s is a sound state that is recovering at step k, and i is the table of the journal of v, which its layout fits
use Rattle.std.specs.Prelude.{Result, ℕ, ◌+◌, ◌*◌, true, ◌&&◌, List, ◌≡◌, leb, length}
use Rattle.octets.specs.Choice.{pick}
use Rattle.octets.specs.Sectors.{sector_size}
use Rattle.on_disk.specs.Layout.{needed}
use Rattle.model.specs.State.{state_ok, volume_loan_ok}
use Rattle.model.specs.Refusal.{step_answer}
use Rattle.model.specs.StepResult.{step_acknowledges}
use Rattle.model.specs.Advance.{AdvanceResult, done_in}
use Rattle.model.specs.declared.Advanced.{Advanced}
use Rattle.model.specs.declared.Phase.TheVariants.{Recovering}
use Rattle.model.specs.declared.Refusal.{Refusal}
use Rattle.model.specs.declared.State.{State}
use Rattle.model.specs.declared.Step.{Step}
use Rattle.journal.specs.Replay.{ids_of}

abbrev pub advanced : Advanced → State → List ℕ → List ℕ → AdvanceResult
advanced r s v st = record { answer = step_answer r.answer; done = r.done; acknowledged = r.acknowledged; state = s; volume = v; staging = st }

abbrev pub step_added : Advanced → Result Step Refusal → Advanced
step_added a x =
    record {
      answer = x;
      done = a.done + done_in (step_answer x);
      acknowledged = pick (step_acknowledges (step_answer x)) true a.acknowledged;
    }

abbrev pub Scanned : Advanced → State → ℕ → List ℕ → List ℕ → Type 0
Scanned a s k v ids =
    (a.done ≡ 0)
    × (state_ok s ≡ true)
    × (volume_loan_ok v && leb (needed s.layout * sector_size) (length v) ≡ true)
    × (s.phase ≡ Recovering k)
    × (ids ≡ ids_of s.layout v)
