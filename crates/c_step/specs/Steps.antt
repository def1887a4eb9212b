-- The calls that store, over buffers. R43, R71.
--
-- StepBuffers, step_buffers s v st : what the other buffers of gaffreel_volume_step and gaffreel_volume_advance hold
-- step_leaves v o            : what gaffreel_volume_step leaves where the model's step has the result o
-- step_call s v st a         : what it leaves of the state's buffer s, the volume v, staging st and the answer's buffer a
-- advance_reply o            : what gaffreel_volume_advance says where the model's advance has the result o
-- advance_leaves o           : what it then leaves
-- advance_call s v st n a    : what it leaves, for n steps
-- NextStoreBuffers, next_store_buffers s st out : what the other buffers of gaffreel_volume_next_store hold
-- next_store_leaves out o     : what it leaves where the model's next store has the result o, and the sector's buffer held out
-- next_store_call s v st out a : what it leaves of the state's buffer s, staging st, the sector's buffer out and the answer's buffer a; v is only read
-- RefusedStepKeeps          : a call that is refused leaves every buffer but the answer's as it was, but for advance
use Rattle.std.specs.Prelude.{ℕ, not, List}
use Rattle.octets.specs.Numbers.{Bytes}
use Rattle.octets.specs.Choice.{pick}
use Rattle.model.specs.Store.{after_effect, content_of}
use Rattle.model.specs.Step.{step_of}
use Rattle.model.specs.StepResult.{StepResult}
use Rattle.model.specs.NextStore.{next_store_of}
use Rattle.model.specs.Advance.{AdvanceResult, advance_of}
use Rattle.c_numbers.specs.Called.{Called, called, Keeps}
use Rattle.c_volume_state.specs.VolumeState.{encode_of, decode_of, encodes_state}
use Rattle.c_replies.specs.declared.Reply.{Reply}
use Rattle.c_replies.specs.Replies.{replying, step_reply}

-- ---- step and advance

pub record StepBuffers : Type 0 where
  pub state : List ℕ
  pub volume : List ℕ
  pub staging : List ℕ

abbrev pub step_buffers : List ℕ → List ℕ → List ℕ → StepBuffers
step_buffers s v st = record { state = s; volume = v; staging = st }

abbrev pub step_leaves : List ℕ → StepResult → Called StepBuffers
step_leaves v o =
    replying (step_reply o.answer 0 0) (step_buffers (encode_of o.state) (after_effect v o.effect) o.staging)

unfoldable pub step_call : List ℕ → List ℕ → List ℕ → List ℕ → Called StepBuffers
step_call s v st a =
    called a (not (encodes_state s)) (step_buffers s v st) (step_leaves v (step_of (decode_of s) v st))

-- also how many steps did something, and whether a step acknowledged the batch, where the last step is refused too
abbrev pub advance_reply : AdvanceResult → Reply
advance_reply o = step_reply o.answer o.done (pick o.acknowledged 1 0)

-- state, volume and staging are as the steps before a refused one left them
abbrev pub advance_leaves : AdvanceResult → Called StepBuffers
advance_leaves o = replying (advance_reply o) (step_buffers (encode_of o.state) o.volume o.staging)

unfoldable pub advance_call : List ℕ → List ℕ → List ℕ → ℕ → List ℕ → Called StepBuffers
advance_call s v st n a =
    called a (not (encodes_state s)) (step_buffers s v st) (advance_leaves (advance_of n (decode_of s) v st))

-- ---- next store

pub record NextStoreBuffers : Type 0 where
  pub state : List ℕ
  pub staging : List ℕ
  pub sector : List ℕ

abbrev pub next_store_buffers : List ℕ → List ℕ → List ℕ → NextStoreBuffers
next_store_buffers s st out = record { state = s; staging = st; sector = out }

abbrev pub next_store_leaves : List ℕ → StepResult → Called NextStoreBuffers
next_store_leaves out o =
    replying (step_reply o.answer 0 0) (next_store_buffers (encode_of o.state) o.staging (content_of out o.effect))

unfoldable pub next_store_call : List ℕ → List ℕ → List ℕ → List ℕ → List ℕ → Called NextStoreBuffers
next_store_call s v st out a =
    called a (not (encodes_state s)) (next_store_buffers s st out) (next_store_leaves out (next_store_of (decode_of s) v st out))

-- ---- refusals. Of several steps, those before the refused one stay made. The proofs are in proofs/Refusals.

pub record RefusedStepKeeps : Type 0 where
  pub step : (s v st a : List ℕ) → Bytes s → Keeps (step_call s v st a) (step_buffers s v st)
  pub next : (s v st out a : List ℕ) → Bytes s → Keeps (next_store_call s v st out a) (next_store_buffers s st out)
