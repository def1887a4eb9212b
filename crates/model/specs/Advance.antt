-- Advance: so many steps, one after the other. No rule has this call; each step is that of R43.
--
-- AdvanceResult       : what they leave: the last step's answer, how many steps did something, whether a step said acknowledged; state, volume and staging
-- no_step s v st       : what no step leaves
-- done_in a            : how many steps that did something the answer a of a step tells of: one, or none
-- one_more o           : what steps that left o and one step more leave
-- advance_from n o     : what steps that left o and n steps more leave
-- advance_of n s v st  : the call: n steps
use Rattle.std.specs.Prelude.{Option, Some, None, ℕ, zero, suc, ◌+◌, Bool, true, false, List}
use Rattle.octets.specs.Answer.{Answer, taken, refused}
use Rattle.octets.specs.Choice.{pick}
use Rattle.model.specs.declared.Says.{Says}
use Rattle.model.specs.declared.Says.TheVariants.{Nothing}
use Rattle.model.specs.declared.State.{State}
use Rattle.model.specs.Store.{after_effect}
use Rattle.model.specs.Step.{step_of}
use Rattle.model.specs.StepResult.{step_acknowledges, StepResult}

pub record AdvanceResult : Type 0 where
  pub answer : Answer ℕ (Option ℕ × Says)
  pub done : ℕ
  pub acknowledged : Bool
  pub state : State
  pub volume : List ℕ
  pub staging : List ℕ

-- nothing was done, and nothing is said
abbrev pub no_step : State → List ℕ → List ℕ → AdvanceResult
no_step s v st = record { answer = taken (None, Nothing); done = 0; acknowledged = false; state = s; volume = v; staging = st }

-- today what a step does is a store
abbrev pub done_in : Answer ℕ (Option ℕ × Says) → ℕ
done_in (taken (None, says)) = 0
done_in (taken (Some at, says)) = 1
done_in (refused r) = 0

abbrev pub step_made : AdvanceResult → StepResult → AdvanceResult
step_made o x =
    record {
      answer = x.answer;
      done = o.done + done_in x.answer;
      acknowledged = pick (step_acknowledges x.answer) true o.acknowledged;
      state = x.state;
      volume = after_effect o.volume x.effect;
      staging = x.staging;
    }

abbrev pub one_more : AdvanceResult → AdvanceResult
one_more o = step_made o (step_of o.state o.volume o.staging)

unfoldable pub advance_from : ℕ → AdvanceResult → AdvanceResult
advance_from zero o = o
advance_from (suc n) o = one_more (advance_from n o)

abbrev pub advance_of : ℕ → State → List ℕ → List ℕ → AdvanceResult
advance_of n s v st = advance_from n (no_step s v st)
