-- Demand 3: R5, as one claim about every list of calls and cuts (R57). The proof is in proofs/Demand3.
--
-- world_after tags g v es  : the world after the events es on the volume that format left of v
-- ledger_after tags g v es : the ledger of their transcript
-- Agrees tags g v₀ w l    : the world w agrees with the ledger l, for the layout g and the volume v₀ at the start (R6)
-- Demand3For tags g v     : the claim for one family of tag functions, layout and lent volume
-- Demand3                 : demand 3: any tag functions of which that for T gives tags of T bytes, any layout, any volume
-- Demand3Sha256           : demand 3 for the tag of R14, where nothing is left to assume
-- Demand3Hmac             : demand 3 for the tags of any key, R105, likewise; that calls with a key are calls over its tags is in Keyed
use Rattle.std.specs.Prelude.{ℕ, ◌+◌, ◌*◌, ◌<◌, true, ◌≡◌, List, length, get_or}
use Rattle.octets.specs.Sectors.{sector_size, sector_at}
use Rattle.on_disk.specs.declared.Layout.{Layout}
use Rattle.model.specs.declared.State.{State}
use Rattle.on_disk.specs.Layout.{superblock_size, data_at}
use Rattle.model.specs.Tag.{Tags, TagsOf, tag_of, hmac_tag_of, tag_at}
use Rattle.model.specs.State.{passed}
use Rattle.model.specs.Format.{format_of}
use Rattle.model.specs.JournalStep.{commit_steps}
use Rattle.model.specs.Read.{read_of}
use Rattle.model.specs.Ledger.{last_for, Ledger, ledger_of}
use Rattle.model.specs.Medium.{volume_in}
use Rattle.model.specs.World.{Event, setting_of, on, World, begin, after, transcript}

abbrev pub world_after : Tags → Layout → List ℕ → List Event → World
world_after tags g v es = after (setting_of tags g) (begin (format_of tags g v).volume) es

abbrev pub ledger_after : Tags → Layout → List ℕ → List Event → Ledger
ledger_after tags g v es = ledger_of (commit_steps g) (transcript (setting_of tags g) (begin (format_of tags g v).volume) es)

pub record Agrees (tags : Tags) (g : Layout) (v₀ : List ℕ) (w : World) (l : Ledger) : Type 0 where
  -- R66: sector s is content s, and its tag fits
  pub home : (s : ℕ) → s < g.provided → sector_at (volume_in w.medium) (data_at g s) ≡ l.contents s
  pub fits : (s : ℕ) → s < g.provided → tag_at g (volume_in w.medium) s ≡ tags g.width s (l.contents s)
  -- R67: a read taken next gives the last bytes for s in the batch, else content s
  pub reads : (state : State) (staging loan : List ℕ) (s : ℕ) → w.live ≡ on state staging → length loan ≡ sector_size → s < g.provided
      → read_of tags state (volume_in w.medium) staging s loan ≡ record { answer = passed; sector = last_for l.batch s (l.contents s) }
  -- R68: reserved sectors and superblock are as at the start
  pub kept : (b : ℕ) → b < (g.reserved + superblock_size) * sector_size → get_or (volume_in w.medium) b 0 ≡ get_or v₀ b 0

abbrev pub Demand3For : Tags → Layout → List ℕ → Type 0
Demand3For tags g v =
    (format_of tags g v).answer ≡ passed
    → (es : List Event)
    -- R66: the last is an open that finds nothing to replay, or a step that says filling
    → (world_after tags g v es).settled ≡ true
    → Agrees tags g (format_of tags g v).volume (world_after tags g v es) (ledger_after tags g v es)

abbrev pub Demand3 : Type 0
Demand3 = (tags : Tags) (g : Layout) → TagsOf tags g.width → (v : List ℕ) → Demand3For tags g v

abbrev pub Demand3Sha256 : Type 0
Demand3Sha256 = (g : Layout) (v : List ℕ) → Demand3For tag_of g v

abbrev pub Demand3Hmac : Type 0
Demand3Hmac = (key : List ℕ) (g : Layout) (v : List ℕ) → Demand3For (hmac_tag_of key) g v
