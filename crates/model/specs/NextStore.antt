-- Next store: a step but for its store, which the volume's owner makes; for a volume that can be read in place and not stored to, as flash that is mapped
-- for reading. No rule has this call. The proofs are in proofs/NextStore.
--
-- next_store_of s v st out : the call: answer, state, staging and effect of a step, of which the loan out gets the content (content_of in Store.antt); refused
--                          1 also where that loan is not a sector long
-- store_named v a c       : the volume v with the content c stored at the sector that the answer a names, if it names one
-- Placed g v x           : the store x is a sector's content, at a sector of the layout g behind the superblock, inside the lent volume v (R1)
-- Within g v x           : the effect x stores so, if it stores
-- StepStores s v st      : what holds of a step's store, whatever state, volume and staging are (R2, R43)
use Rattle.std.specs.Prelude.{Option, Some, None, ℕ, ◌+◌, ◌*◌, ◌≤◌, ◌<◌, true, not, List, [], ◌∷◌, ◌≡◌, length}
use Rattle.octets.specs.Answer.{Answer, taken, refused, refuse}
use Rattle.octets.specs.Choice.{first_met}
use Rattle.octets.specs.Sectors.{sector_size, put_sector}
use Rattle.on_disk.specs.declared.Layout.{Layout}
use Rattle.model.specs.declared.Says.{Says}
use Rattle.model.specs.declared.State.{State}
use Rattle.on_disk.specs.Layout.{superblock_size, needed}
use Rattle.model.specs.Store.{Store, Effect, none, one, after_effect, content_of}
use Rattle.model.specs.State.{passed, sector_ok}
use Rattle.model.specs.Step.{step_rows, step_by, step_of}
use Rattle.model.specs.StepResult.{StepResult}

unfoldable pub next_store_of : State → List ℕ → List ℕ → List ℕ → StepResult
next_store_of s v st out = step_by s v st (first_met ((not (sector_ok out), refuse 1 []) ∷ step_rows s v st) passed)

abbrev pub store_named : List ℕ → Answer ℕ (Option ℕ × Says) → List ℕ → List ℕ
store_named v (taken (None, x)) c = v
store_named v (taken (Some at, x)) c = put_sector v at c
store_named v (refused r) c = v

pub record Placed (g : Layout) (v : List ℕ) (x : Store) : Type 0 where
  pub behind : g.reserved + superblock_size ≤ x.at
  pub inside : x.at < needed g
  pub lent : needed g * sector_size ≤ length v
  pub whole : length x.content ≡ sector_size

abbrev pub Within : Layout → List ℕ → Effect → Type 0
Within g v none = Unit {0}
Within g v (one x) = Placed g v x

-- the sector that an answer names, and that of an effect, if there is one
abbrev pub sector_named : Answer ℕ (Option ℕ × Says) → List ℕ
sector_named (taken (None, x)) = []
sector_named (taken (Some at, x)) = at ∷ []
sector_named (refused r) = []

abbrev pub sector_stored : Effect → List ℕ
sector_stored none = []
sector_stored (one x) = x.at ∷ []

pub record StepStores (s : State) (v st : List ℕ) : Type 0 where
  pub within : Within s.layout v (step_of s v st).effect
  -- R49: the answer names the sector stored
  pub sector : sector_named (step_of s v st).answer ≡ sector_stored (step_of s v st).effect
  -- with a loan of a sector next_store tells what the step does
  pub told : (out : List ℕ) → sector_ok out ≡ true → next_store_of s v st out ≡ step_of s v st
  -- the content told, stored at the sector named, leaves what the step leaves
  pub made : (out : List ℕ) → store_named v (step_of s v st).answer (content_of out (step_of s v st).effect) ≡ after_effect v (step_of s v st).effect
