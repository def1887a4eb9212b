-- What a drill hands back and leaves in its two loans. The world of the model has the volume and, while a state is live, its staging; demand 3 (R5)
-- speaks of that world. The staging loan has bytes also while nothing is live. A key that is missing stands for calls without one.
--
-- tags_for key             : the tags of a key; those of R14 where there is none
-- key_fits key            : whether the calls take the key, if there is one
-- open_under key, write_under key : those calls with the key, or without one
-- setting key r           : those tags, and r reserved sectors
-- at_rest x               : what an event leaves that settles nothing, with x live
-- last_of p               : what the last event of a drill left; nothing is live where format is refused
-- live_of x st             : what is live, with the staging loan st
-- world_of m v st          : the world with the volume v
-- loan_for e st             : the staging loan st as the call of e finds it: an open fills the first bytes, those that it is lent
-- staging_in x st          : the staging loan after an event that found it as st and left x live
-- staging_next key r v x st e : the staging loan st after the event e, on the volume v with x live
-- staging_after key r w st es : the same after the events es, from the world w
-- Turn ..                 : the event e, on the volume v with x live and the staging loan st, led to m, and left v' and st' in the loans
-- Ran ..                  : the events es, with nothing live at first, did so
-- played_by y script st    : the events of a drill where format answered y
-- Plays ..                : the drill of a script, on a volume of which format left o with the staging loan st, handed back p, and left v' and st' in the loans
use Rattle.std.specs.Prelude.{ℕ, Bool, true, false, Option, Some, None, Result, Ok, Err, List, [], ◌∷◌, ◌≡◌, length}
use Rattle.octets.specs.Answer.{is_taken}
use Rattle.octets.specs.Choice.{pick}
use Rattle.octets.specs.Parts.{patch}
use Rattle.model.specs.Tag.{Tags, tag_of, hmac_tag_of}
use Rattle.model.specs.State.{Verdict}
use Rattle.hmac.specs.Hmac.{key_ok}
use Rattle.model.specs.Refusal.{answer_by}
use Rattle.model.specs.declared.Refusal.{Refusal}
use Rattle.model.specs.declared.State.{State}
use Rattle.model.specs.Format.{FormatResult}
use Rattle.model.specs.Open.{OpenResult, open_of}
use Rattle.model.specs.Write.{WriteResult, write_of}
use Rattle.model.specs.Keyed.{open_keyed_of, write_keyed_of}
use Rattle.model.specs.JournalStep.{commit_steps}
use Rattle.model.specs.Ledger.{ledger_of}
use Rattle.model.specs.Medium.{medium_of, volume_in}
use Rattle.model.specs.World.{Event, a_cut, an_open, a_write, a_flush, a_step, a_next_store, a_read, a_keyed_open, a_keyed_write, a_keyed_read, Setting, Live, off, on, World, begin, happens, next, after, transcript}
use Rattle.model.specs.Demand3.{Agrees}
use Rattle.on_disk.specs.declared.Layout.{Layout}
use Rattle.drill.specs.declared.Moment.{Moment}
use Rattle.drill.specs.Script.{events_of}

abbrev pub tags_for : Option (List ℕ) → Tags
tags_for None = tag_of
tags_for (Some key) = hmac_tag_of key

abbrev pub key_fits : Option (List ℕ) → Bool
key_fits None = true
key_fits (Some key) = key_ok key

abbrev pub open_under : Option (List ℕ) → ℕ → List ℕ → List ℕ → OpenResult
open_under None = open_of tag_of
open_under (Some key) = open_keyed_of key

abbrev pub write_under : Option (List ℕ) → State → List ℕ → ℕ → List ℕ → WriteResult
write_under None = write_of tag_of
write_under (Some key) = write_keyed_of key

abbrev pub setting : Option (List ℕ) → ℕ → Setting
setting key r = record { tags = tags_for key; reserved = r }

abbrev pub at_rest : Option State → Moment
at_rest x = record { live = x; settled = false }

abbrev pub last_of : Result Moment Refusal → Moment
last_of (Ok m) = m
last_of (Err r) = at_rest None

abbrev pub live_of : Option State → List ℕ → Live
live_of None st = off
live_of (Some s) st = on s st

abbrev pub world_of : Moment → List ℕ → List ℕ → World
world_of m v st = record { medium = medium_of v; live = live_of m.live st; settled = m.settled }

-- ---- the staging loan

abbrev pub loan_for : Event → List ℕ → List ℕ
loan_for a_cut st = st
loan_for (an_open staging) st = patch st 0 staging
loan_for (a_write n b) st = st
loan_for a_flush st = st
loan_for a_step st = st
loan_for (a_next_store b) st = st
loan_for (a_read n loan) st = st
loan_for (a_keyed_open key staging z) st = patch st 0 staging
loan_for (a_keyed_write key n b z) st = st
loan_for (a_keyed_read key n loan z) st = st

-- the staging of a live state is the whole loan; a refused open and a cut leave the bytes as they are
abbrev pub staging_in : Live → List ℕ → List ℕ
staging_in off st = st
staging_in (on s staging) st = staging

module _ (key : Option (List ℕ)) (r : ℕ) where
  abbrev pub staging_next : List ℕ → Live → List ℕ → Event → List ℕ
  staging_next v x st e = staging_in (happens (setting key r) (medium_of v) x e).world.live (loan_for e st)

  unfoldable pub staging_after : World → List ℕ → List Event → List ℕ
  staging_after w st [] = st
  staging_after w st (e ∷ es) = staging_after (next (setting key r) w e) (staging_next (volume_in w.medium) w.live st e) es

  -- ---- an event, and a list of them

  pub record Turn (v : List ℕ) (x : Live) (st : List ℕ) (e : Event) (m : Moment) (v' st' : List ℕ) : Type 0 where
    pub world : world_of m v' st' ≡ (happens (setting key r) (medium_of v) x e).world
    pub staging : st' ≡ staging_next v x st e

  pub record Ran (v st : List ℕ) (es : List Event) (m : Moment) (v' st' : List ℕ) : Type 0 where
    pub world : world_of m v' st' ≡ after (setting key r) (begin v) es
    pub staging : st' ≡ staging_after (begin v) st es

-- ---- a whole drill

-- none where format is refused
abbrev pub played_by : Verdict → List ℕ → List ℕ → List Event
played_by y script st = pick (is_taken y) (events_of (length st) script) []

module _ (key : Option (List ℕ)) (g : Layout) (o : FormatResult) (script st : List ℕ) where
  abbrev pub played : List Event
  played = played_by o.answer script st

  pub record Plays (p : Result Moment Refusal) (v' st' : List ℕ) : Type 0 where
    pub format : answer_by (λ m. tt) p ≡ o.answer
    pub events : Ran key g.reserved o.volume st played (last_of p) v' st'
    -- R5: demand 3, of what ran
    pub agrees : (last_of p).settled ≡ true
        → Agrees (tags_for key) g o.volume (world_of (last_of p) v' st')
        (ledger_of (commit_steps g) (transcript (setting key g.reserved) (begin o.volume) played))
