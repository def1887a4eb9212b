-- What holds beside demand 3, which says nothing of a volume whose opens are all refused (R102). For the world and the ledger after every list of calls and
-- cuts on a formatted volume. The proof is in proofs/Guarantees.
--
-- Outside g b          : byte b is in no journal sector, in no data sector and in no tag: reserved (R16), superblock, tag padding (R20), behind the runs (R24)
-- Guarantees ..        : what holds of them
-- Guaranteed           : that it does, over any family of tag functions; GuaranteedSha256, GuaranteedHmac: for the tags of R14, and of any key (R105), where
--                        nothing is left to assume
-- FreshOpens           : a volume that format left holds the layout that was formatted, and an open finds nothing to replay
use Rattle.std.specs.Prelude.{ℕ, ◌+◌, ◌*◌, ◌≤◌, ◌<◌, true, ◌⊎◌, ◌≡◌, List, ◌∷◌, length, get_or, replicate, eqb}
use Rattle.octets.specs.Answer.{taken, is_taken}
use Rattle.octets.specs.Sectors.{sector_size, sector_at}
use Rattle.on_disk.specs.declared.Layout.{Layout}
use Rattle.model.specs.declared.Phase.TheVariants.{Filling}
use Rattle.model.specs.declared.State.{State}
use Rattle.on_disk.specs.Layout.{section_size, section_at, base, data_at, tag_byte, needed}
use Rattle.on_disk.specs.Superblock.{superblock_at, layout_in}
use Rattle.on_disk.specs.Section.{empty_section}
use Rattle.model.specs.Tag.{Tags, TagsOf, tag_of, hmac_tag_of}
use Rattle.model.specs.State.{passed}
use Rattle.model.specs.Format.{format_of}
use Rattle.model.specs.Open.{open_of}
use Rattle.model.specs.Query.{query_of}
use Rattle.model.specs.Step.{step_of}
use Rattle.model.specs.Ledger.{Ledger, enters_next}
use Rattle.model.specs.Medium.{volume_in}
use Rattle.model.specs.World.{Event, an_open, a_step, setting_of, off, on, World, after}
use Rattle.model.specs.Demand3.{world_after, ledger_after}
use Rattle.model.specs.StepResult.{step_acknowledges}

pub record Outside (g : Layout) (b : ℕ) : Type 0 where
  pub journal : (b < section_at g 0 * sector_size) ⊎ (base g * sector_size ≤ b)
  pub contents : (s : ℕ) → s < g.provided → (b < data_at g s * sector_size) ⊎ (data_at g s * sector_size + sector_size ≤ b)
  pub tags : (s : ℕ) → s < g.provided → (b < tag_byte g s) ⊎ (tag_byte g s + g.width ≤ b)

pub record Guarantees (tags : Tags) (g : Layout) (v₀ : List ℕ) (w : World) (l : Ledger) : Type 0 where
  -- an open with staging of the right length is taken
  pub opens : (staging : List ℕ) → w.live ≡ off → length staging ≡ section_size g.width * sector_size
      → is_taken (open_of tags g.reserved (volume_in w.medium) staging).answer ≡ true
  -- no step is refused
  pub steps : (s : State) (staging : List ℕ) → w.live ≡ on s staging → is_taken (step_of s (volume_in w.medium) staging).answer ≡ true
  -- acknowledged is said exactly when the ledger enters a batch (R45, R64)
  pub acknowledged : (s : State) (staging : List ℕ) → w.live ≡ on s staging
      → step_acknowledges (step_of s (volume_in w.medium) staging).answer ≡ enters_next l
  -- open's number is the number of steps to filling (R40): the volume is settled after as many, and not before
  pub counts : (staging : List ℕ) (s : State) (n : ℕ) → w.live ≡ off
      → (open_of tags g.reserved (volume_in w.medium) staging).answer ≡ taken (s, n)
      → (k : ℕ) → k ≤ n → (after (setting_of tags g) w (an_open staging ∷ replicate k a_step)).settled ≡ eqb k n
  -- the superblock holds the layout that was formatted, and what is live has it
  pub layout : layout_in g.reserved (superblock_at g.reserved (volume_in w.medium)) ≡ g
  pub live : (s : State) (staging : List ℕ) → w.live ≡ on s staging → s.layout ≡ g
  -- R20 and R24: what format leaves there, no step changes
  pub untouched : (b : ℕ) → Outside g b → get_or (volume_in w.medium) b 0 ≡ get_or v₀ b 0
  pub behind : (a : ℕ) → needed g ≤ a → sector_at (volume_in w.medium) a ≡ sector_at v₀ a

abbrev pub GuaranteedFor : Tags → Layout → List ℕ → Type 0
GuaranteedFor tags g v =
    (format_of tags g v).answer ≡ passed → (es : List Event)
    → Guarantees tags g (format_of tags g v).volume (world_after tags g v es) (ledger_after tags g v es)

abbrev pub Guaranteed : Type 0
Guaranteed = (tags : Tags) (g : Layout) → TagsOf tags g.width → (v : List ℕ) → GuaranteedFor tags g v

abbrev pub GuaranteedSha256 : Type 0
GuaranteedSha256 = (g : Layout) (v : List ℕ) → GuaranteedFor tag_of g v

abbrev pub GuaranteedHmac : Type 0
GuaranteedHmac = (key : List ℕ) (g : Layout) (v : List ℕ) → GuaranteedFor (hmac_tag_of key) g v

pub record OpensFresh (tags : Tags) (g : Layout) (v₀ : List ℕ) : Type 0 where
  pub queried : query_of g.reserved v₀ ≡ taken (g, section_size g.width * sector_size)
  pub opened : (staging : List ℕ) → length staging ≡ section_size g.width * sector_size
      → open_of tags g.reserved v₀ staging
      ≡ record { answer = taken (record { layout = g; phase = Filling; count = 0; id = 1 }, 0); staging = empty_section g.width }

abbrev pub FreshOpens : Type 0
FreshOpens =
    (tags : Tags) (g : Layout) → TagsOf tags g.width → (v : List ℕ) → (format_of tags g v).answer ≡ passed → OpensFresh tags g (format_of tags g v).volume
