-- Flush: R42; refusals in the order of R75.
--
-- flush_rows s : the rules of the call, in order
-- flush_of s   : the call: its answer and the state afterwards
use Rattle.std.specs.Prelude.{ℕ, Bool, true, false, not, ◌&&◌, List, [], ◌∷◌, ltb, eqb}
use Rattle.octets.specs.Answer.{Answer, taken, refused, refuse}
use Rattle.octets.specs.Choice.{pick, first_met}
use Rattle.model.specs.declared.Phase.TheVariants.{Committing}
use Rattle.model.specs.declared.State.{State}
use Rattle.model.specs.State.{Verdict, passed, last_id, state_ok, is_filling, in_phase}

abbrev pub flush_rows : State → List (Bool × Verdict)
flush_rows s =
    (not (state_ok s), refuse 1 [])
    ∷ (not (is_filling s.phase), refuse 9 [])
    ∷ (ltb 0 s.count && eqb s.id last_id, refuse 10 [])
    ∷ []

-- the answer says whether the batch is acknowledged at once
pub record FlushResult : Type 0 where
  pub answer : Answer ℕ Bool
  pub state : State

abbrev pub flush_by : State → Verdict → FlushResult
flush_by s (taken x) =
    pick (eqb s.count 0)
    (record { answer = taken true; state = s })
    (record { answer = taken false; state = in_phase s (Committing 0) })
flush_by s (refused r) = record { answer = refused r; state = s }

unfoldable pub flush_of : State → FlushResult
flush_of s = flush_by s (first_met (flush_rows s) passed)
