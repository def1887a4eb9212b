-- What is asked of a step of a recovery over a journal that has been scanned.
--
-- StepOfRecovery s v k x more : s is at step k, which x names, and more says whether there is one after it
use Rattle.std.specs.Prelude.{ℕ, ◌+◌, ◌<◌, Bool, true, List, ◌≡◌, ltb}
use Rattle.model.specs.declared.Phase.TheVariants.{Recovering}
use Rattle.model.specs.declared.State.{State}
use Rattle.model.specs.Journal.{section_of, replay}
use Rattle.model.specs.Store.{steps_of}
use Rattle.model.specs.State.{state_ok, volume_ok}
use Rattle.section.specs.Locations.{Locates}
use Rattle.section.specs.declared.Location.{Location}
use Rattle.journal.specs.Replay.{entry_store_at}

pub record StepOfRecovery (s : State) (v : List ℕ) (k : ℕ) (x : Location) (more : Bool) : Type 0 where
  pub sound : state_ok s ≡ true
  pub fits : volume_ok s v ≡ true
  pub phase : s.phase ≡ Recovering k
  pub goes_on : more ≡ ltb (k + 1) (steps_of s.layout (replay s.layout v))
  pub named : Locates s.layout (section_of s.layout v x.section) x (entry_store_at s.layout v k)
  pub section : x.section < s.layout.sections
