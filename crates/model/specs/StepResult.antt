-- What a step gives, and the ways in which it can store.
--
-- StepResult          : its answer and the state afterwards, its effect on the volume, the staging loan afterwards
-- step_acknowledges a  : whether the answer a says acknowledged; step_settles a: whether it says filling (R49)
-- stored s st x p     : the store x is made, and the phase p is next
-- acknowledged s st x : the store x is the M-th of a commit: the batch is acknowledged, the id grows, and writing back is next (R45)
-- filled s x left     : the store x is the last: the volume is filling, and left is in staging
use Rattle.std.specs.Prelude.{Option, Some, ℕ, ◌+◌, Bool, true, false, List}
use Rattle.octets.specs.Answer.{Answer, taken, refused}
use Rattle.model.specs.declared.Phase.{Phase}
use Rattle.model.specs.declared.Phase.TheVariants as phases
use Rattle.model.specs.declared.Says.{Says}
use Rattle.model.specs.declared.Says.TheVariants.{Nothing, Acknowledged, Filling}
use Rattle.model.specs.declared.State.{State}
use Rattle.model.specs.Store.{Store, Effect, one}
use Rattle.model.specs.State.{in_phase}

pub record StepResult : Type 0 where
  pub answer : Answer ℕ (Option ℕ × Says)
  pub state : State
  pub effect : Effect
  pub staging : List ℕ

abbrev pub says_acknowledged : Says → Bool
says_acknowledged Nothing = false
says_acknowledged Acknowledged = true
says_acknowledged Filling = false

abbrev pub says_filling : Says → Bool
says_filling Nothing = false
says_filling Acknowledged = false
says_filling Filling = true

abbrev pub step_acknowledges : Answer ℕ (Option ℕ × Says) → Bool
step_acknowledges (taken x) = says_acknowledged x.1
step_acknowledges (refused r) = false

abbrev pub step_settles : Answer ℕ (Option ℕ × Says) → Bool
step_settles (taken x) = says_filling x.1
step_settles (refused r) = false

module _ (s : State) (st : List ℕ) where
  abbrev pub stored : Store → Phase → StepResult
  stored x p = record { answer = taken (Some x.at, Nothing); state = in_phase s p; effect = one x; staging = st }

  abbrev pub acknowledged : Store → StepResult
  acknowledged x =
      record {
        answer = taken (Some x.at, Acknowledged);
        state = record { layout = s.layout; phase = phases.WritingBack 0 0; count = s.count; id = s.id + 1 };
        effect = one x;
        staging = st;
      }

abbrev pub filled : State → Store → (left : List ℕ) → StepResult
filled s x left =
    record {
      answer = taken (Some x.at, Filling);
      state = record { layout = s.layout; phase = phases.Filling; count = 0; id = s.id };
      effect = one x;
      staging = left;
    }
