-- Lists of calls and cuts, and what they leave. Calls are made by the definitions that the contracts of the code cite.
--
-- Event           : a cut, or a call with the arguments that are not handed back, which may be anything (R59); also a step by next_store whose store
--                   the volume's owner makes, and a call with a key that no call takes (R106)
-- Setting         : what all calls of a list share: the tag functions, those of the rule and key in use (R109), and r
-- Live            : state and staging as last returned or left; there are none at first and after a cut
-- World           : the medium, what is live, and whether the last event was an open that reports no store to come or a step that says filling (R66)
-- resting m y     : the world after an event that settles nothing; begin v: the world at first
-- Happened        : what an event leaves, and what the ledger is told of it; by_open, by_write, by_flush, by_step: of a call's result
-- happens x m y e : the event e, on the medium m with y live
-- next x w e      : the world after it; noted x w e: what the ledger is told
-- after x w es    : the world after a list of events; transcript x w es: what the ledger is told of them
use Rattle.std.specs.Prelude.{ℕ, Bool, true, false, List, [], ◌∷◌, ◌≡◌, eqb}
use Rattle.octets.specs.Answer.{Answer, taken, refused, is_taken}
use Rattle.hmac.specs.Hmac.{key_ok}
use Rattle.on_disk.specs.declared.Layout.{Layout}
use Rattle.model.specs.declared.State.{State}
use Rattle.model.specs.Tag.{Tags}
use Rattle.model.specs.Store.{content_of}
use Rattle.model.specs.Open.{OpenResult, open_of}
use Rattle.model.specs.Write.{WriteResult, write_of}
use Rattle.model.specs.Flush.{FlushResult, flush_of}
use Rattle.model.specs.StepResult.{StepResult, step_settles}
use Rattle.model.specs.Step.{step_of}
use Rattle.model.specs.NextStore.{next_store_of, store_named}
use Rattle.model.specs.Read.{read_of}
use Rattle.model.specs.Keyed.{open_keyed_of, write_keyed_of, read_keyed_of}
use Rattle.model.specs.Ledger.{Noted, cut, opened, wrote, flushed, stepped, read}
use Rattle.model.specs.Medium.{Medium, medium_of, volume_in, medium_after, medium_cut}

pub data Event : Type 0 where
  a_cut : Event
  an_open : (staging : List ℕ) → Event
  a_write : (sector : ℕ) (bytes : List ℕ) → Event
  a_flush : Event
  a_step : Event
  -- with any loan for the content; the store that is named is made before any other call
  a_next_store : (loan : List ℕ) → Event
  a_read : (sector : ℕ) (loan : List ℕ) → Event
  -- with an empty or a too long key; an open, a write or a read with the key in use is one of those above (AsOverTags)
  a_keyed_open : (key staging : List ℕ) → key_ok key ≡ false → Event
  a_keyed_write : (key : List ℕ) (sector : ℕ) (bytes : List ℕ) → key_ok key ≡ false → Event
  a_keyed_read : (key : List ℕ) (sector : ℕ) (loan : List ℕ) → key_ok key ≡ false → Event

pub record Setting : Type 0 where
  pub tags : Tags
  pub reserved : ℕ

abbrev pub setting_of : Tags → Layout → Setting
setting_of tags g = record { tags = tags; reserved = g.reserved }

pub data Live : Type 0 where
  off : Live
  on : State → List ℕ → Live

pub record World : Type 0 where
  pub medium : Medium
  pub live : Live
  pub settled : Bool

abbrev pub resting : Medium → Live → World
resting m y = record { medium = m; live = y; settled = false }

abbrev pub begin : List ℕ → World
begin v = resting (medium_of v) off

pub record Happened : Type 0 where
  pub world : World
  pub told : Noted

abbrev pub by_open : Medium → List ℕ → Answer ℕ (State × ℕ) → Happened
by_open m st (taken (s, n)) = record { world = record { medium = m; live = on s st; settled = eqb n 0 }; told = opened true }
by_open m st (refused r) = record { world = resting m off; told = opened false }

abbrev pub by_write : Medium → ℕ → List ℕ → WriteResult → Happened
by_write m n b o = record { world = resting m (on o.state o.staging); told = wrote (is_taken o.answer) n b }

abbrev pub by_flush : Medium → List ℕ → FlushResult → Happened
by_flush m st o = record { world = resting m (on o.state st); told = flushed (is_taken o.answer) }

-- m is the medium with the step's store made
abbrev pub by_step : Medium → StepResult → Happened
by_step m o =
    record {
      world = record { medium = m; live = on o.state o.staging; settled = step_settles o.answer };
      told = stepped (is_taken o.answer);
    }

-- R58: at first and after each cut only opens and cuts can come, until an open is taken; then anything but an open. A call that cannot come is not made, and
-- is put down as refused.
module _ (x : Setting) where
  abbrev pub happens : Medium → Live → Event → Happened
  happens m y a_cut = record { world = resting (medium_cut m) off; told = cut }
  happens m off (an_open st) =
      let o : OpenResult = open_of x.tags x.reserved (volume_in m) st in by_open m o.staging o.answer
  happens m (on s st) (a_write n b) = by_write m n b (write_of x.tags s st n b)
  happens m (on s st) a_flush = by_flush m st (flush_of s)
  happens m (on s st) a_step = let o : StepResult = step_of s (volume_in m) st in by_step (medium_after m o.effect) o
  happens m (on s st) (a_next_store b) =
      let o : StepResult = next_store_of s (volume_in m) st b in by_step (medium_of (store_named (volume_in m) o.answer (content_of b o.effect))) o
  happens m (on s st) (a_read n b) = record { world = resting m (on s st); told = read (is_taken (read_of x.tags s (volume_in m) st n b).answer) }
  happens m off (a_keyed_open key st z) =
      let o : OpenResult = open_keyed_of key x.reserved (volume_in m) st in by_open m o.staging o.answer
  happens m (on s st) (a_keyed_write key n b z) = by_write m n b (write_keyed_of key s st n b)
  happens m (on s st) (a_keyed_read key n b z) =
      record { world = resting m (on s st); told = read (is_taken (read_keyed_of key s (volume_in m) st n b).answer) }
  happens m (on s st) (an_open b) = record { world = resting m (on s st); told = opened false }
  happens m off (a_write n b) = record { world = resting m off; told = wrote false n b }
  happens m off a_flush = record { world = resting m off; told = flushed false }
  happens m off a_step = record { world = resting m off; told = stepped false }
  happens m off (a_next_store b) = record { world = resting m off; told = stepped false }
  happens m off (a_read n b) = record { world = resting m off; told = read false }
  happens m (on s st) (a_keyed_open key b z) = record { world = resting m (on s st); told = opened false }
  happens m off (a_keyed_write key n b z) = record { world = resting m off; told = wrote false n b }
  happens m off (a_keyed_read key n b z) = record { world = resting m off; told = read false }

  abbrev pub next : World → Event → World
  next w e = (happens w.medium w.live e).world

  abbrev pub noted : World → Event → Noted
  noted w e = (happens w.medium w.live e).told

  unfoldable pub after : World → List Event → World
  after w [] = w
  after w (e ∷ es) = after (next w e) es

  unfoldable pub transcript : World → List Event → List Noted
  transcript w [] = []
  transcript w (e ∷ es) = noted w e ∷ transcript (next w e) es
