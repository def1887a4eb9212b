-- What a step answered and left in its loans, as the model's result.
--
-- stored_in_recovery s at k more : the answer of a step of a recovery that stored sector `at`, and the state after it; `more` says whether there is a store k,
--                                  the next
-- Leaves v o r s' v' st'         : a step on the volume v answered r and left the state s', the volume v' and the staging loan st', as its result o says
-- Fills out o r s' out' st'      : a call that leaves the store to be made answered r, and left the state s', out' in the loan for the content, which held
--                                  out, and the staging loan st', as its result o says
-- LeavesBoth ..                  : it left the volume, and its content in a loan, as both say
-- Inside v a                     : the sector that the answer a names, if any, lies in the volume v
use Rattle.std.specs.Prelude.{Option, Some, None, Result, ℕ, ◌+◌, ◌*◌, ◌≤◌, Bool, List, ◌≡◌, length}
use Rattle.octets.specs.Answer.{Answer, taken, refused}
use Rattle.octets.specs.Choice.{pick}
use Rattle.octets.specs.Sectors.{sector_size}
use Rattle.model.specs.Refusal.{step_answer}
use Rattle.model.specs.State.{in_phase}
use Rattle.model.specs.Store.{after_effect, content_of}
use Rattle.model.specs.StepResult.{StepResult}
use Rattle.model.specs.declared.Phase.TheVariants as phases
use Rattle.model.specs.declared.Refusal.{Refusal}
use Rattle.model.specs.declared.Says.{Says}
use Rattle.model.specs.declared.Says.TheVariants.{Nothing, Filling}
use Rattle.model.specs.declared.State.{State}
use Rattle.model.specs.declared.Step.{Step}

abbrev pub stored_in_recovery : State → ℕ → ℕ → Bool → Step × State
stored_in_recovery s at k more =
    pick more
    (record { stored = Some at; says = Nothing }, in_phase s (phases.Recovering k))
    (record { stored = Some at; says = Filling }, record { layout = s.layout; phase = phases.Filling; count = 0; id = s.id })

pub record Leaves (v : List ℕ) (o : StepResult) (r : Result Step Refusal) (s' : State) (v' st' : List ℕ) : Type 0 where
  pub answer : step_answer r ≡ o.answer
  pub state : s' ≡ o.state
  pub volume : v' ≡ after_effect v o.effect
  pub staging : st' ≡ o.staging

pub record Fills (out : List ℕ) (o : StepResult) (r : Result Step Refusal) (s' : State) (out' st' : List ℕ) : Type 0 where
  pub answer : step_answer r ≡ o.answer
  pub state : s' ≡ o.state
  pub content : out' ≡ content_of out o.effect
  pub staging : st' ≡ o.staging

abbrev pub LeavesBoth : List ℕ → List ℕ → StepResult → Result Step Refusal → State → List ℕ → List ℕ → List ℕ → Type 0
LeavesBoth v out o r s' v' out' st' = Leaves v o r s' v' st' × (out' ≡ content_of out o.effect)

abbrev pub Inside : List ℕ → Answer ℕ (Option ℕ × Says) → Type 0
Inside v (taken (None, x)) = Unit {0}
Inside v (taken (Some at, x)) = (at + 1) * sector_size ≤ length v
Inside v (refused r) = Unit {0}
