-- A step and a next store that are refused leave every buffer but the answer's as it was. (Of several steps, those before the refused one stay made.)
use Prim.Native.Nat.{ℕ}
use native.Mathlib.Omega.{arith}
use mathlib.Core.List.{List, []}
use mathlib.Core.Logic.{◌≢◌}
use mathlib.Core.Path.{◌≡◌, refl, sym, ◌∙◌}
use Rattle.std.proofs.Common.{Option}
use Rattle.octets.specs.Answer.{Answer, taken, refused}
use Rattle.octets.specs.Numbers.{Bytes}
use Rattle.model.specs.declared.Says.{Says}
use Rattle.model.specs.declared.State.{State}
use Rattle.model.specs.State.{sector_ok}
use Rattle.model.specs.Store.{Effect, none, one, content_of}
use Rattle.model.specs.Step.{step_of}
use Rattle.model.specs.NextStore.{next_store_of, sector_named, sector_stored}
use Rattle.model.specs.Advance.{done_in}
use Rattle.model.proofs.Advances.{Still, step-quiet}
use Rattle.model.proofs.NextStore.{step-stores}
use Rattle.model.proofs.Replays.{Which, is_true, is_false, which}
use Rattle.c_numbers.specs.Outcome.{done}
use Rattle.c_numbers.specs.Called.{Keeps}
use Rattle.c_numbers.proofs.Calls.{called-keeps}
use Rattle.c_volume_state.specs.VolumeState.{encode_of, decode_of}
use Rattle.c_volume_state.proofs.VolumeStateBytes.{state-kept}
use Rattle.c_replies.specs.Replies.{step_reply}
use Rattle.c_step.specs.Steps.{RefusedStepKeeps, step_buffers, next_store_buffers, step_leaves, next_store_leaves, step_call, next_store_call}

-- a refused step did nothing, and names no sector
did_nothing : (a : Answer ℕ (Option ℕ × Says)) → (step_reply a 0 0).number ≢ done → (done_in a ≡ 0) × (sector_named a ≡ [])
did_nothing (taken x) h = absurd (h refl)
did_nothing (refused r) h = (refl, refl)

nothing-told : (x : Effect) (out : List ℕ) → sector_stored x ≡ [] → content_of out x ≡ out
nothing-told none out e = refl
nothing-told (one y) out e = absurd (let z : ◌≡◌ {A = ℕ} 0 1 = cc in omega arith)

module _ (d : State) (v st : List ℕ) where
  still : (step_reply (step_of d v st).answer 0 0).number ≢ done → Still d v st (step_of d v st)
  still h = step-quiet d v st (did_nothing (step_of d v st).answer h).0

  step_keeps : Keeps (step_leaves v (step_of d v st)) (step_buffers (encode_of d) v st)
  step_keeps h = λ i. step_buffers (encode_of ((still h).state i)) ((still h).volume i) ((still h).staging i)

  -- where the sector's buffer has the right length a next store is a step; else it is refused before anything else is tested
  next-keeps : (out : List ℕ) → Keeps (next_store_leaves out (next_store_of d v st out)) (next_store_buffers (encode_of d) st out)
  unfolding next_store_of
  next-keeps out = go (which (sector_ok out))
    where
      as_step : Keeps (next_store_leaves out (step_of d v st)) (next_store_buffers (encode_of d) st out)
      as_step h =
          let named = (step-stores d v st).sector in
          let same = nothing-told (step_of d v st).effect out (sym named ∙ (did_nothing (step_of d v st).answer h).1) in
          λ i. next_store_buffers (encode_of ((still h).state i)) ((still h).staging i) (same i)

      go : Which (sector_ok out) → Keeps (next_store_leaves out (next_store_of d v st out)) (next_store_buffers (encode_of d) st out)
      go (is_true e) = rw ((step-stores d v st).told out e) as_step
      go (is_false e) = rw e (λ h. refl)

step-refused : (s v st a : List ℕ) → Bytes s → Keeps (step_call s v st a) (step_buffers s v st)
unfolding step_call
step-refused s v st a bytes = called-keeps a _ _ _ (λ e h. rw (state-kept s bytes e) at (step_keeps (decode_of s) v st h))

next-refused : (s v st out a : List ℕ) → Bytes s → Keeps (next_store_call s v st out a) (next_store_buffers s st out)
unfolding next_store_call
next-refused s v st out a bytes = called-keeps a _ _ _ (λ e h. rw (state-kept s bytes e) at (next-keeps (decode_of s) v st out h))

pub refused-step-keeps : RefusedStepKeeps
refused-step-keeps = record { step = step-refused; next = next-refused }
