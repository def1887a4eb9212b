-- What the stores of a tag bring about, and which calls ask whether an entry has a third. The proofs are in proofs/TagStores.
--
-- BringsHome      : the stores of an entry, made in order, replace its data sector and the bytes of its tag, and no other byte (R46, R116)
-- TagByItsSectors : volumes that agree on the sectors in which a tag lies agree on the tag
-- ThirdStore tags : R118, of the state s with entry i being written back: write and flush take its store 2 as they take its store 0, whatever staging holds;
--                   step, next_store and read refuse it where the staged entry's tag does not cross; where it crosses, and the entry is not below P, a step
--                   gives 6; a fourth store is refused by all
use Rattle.std.specs.Prelude.{ℕ, ◌+◌, ◌*◌, ◌≤◌, ◌<◌, true, false, List, [], ◌∷◌, ◌≡◌, length}
use Rattle.octets.specs.Answer.{refuse}
use Rattle.octets.specs.Parts.{patch}
use Rattle.octets.specs.Sectors.{sector_size, sector_at}
use Rattle.on_disk.specs.declared.Layout.{Layout}
use Rattle.on_disk.specs.Layout.{data_at, tag_byte, tag_sector, crosses, needed, layout_ok}
use Rattle.on_disk.specs.Section.{Entry, entry_of}
use Rattle.model.specs.declared.Phase.TheVariants.{WritingBack}
use Rattle.model.specs.declared.State.{State}
use Rattle.model.specs.Tag.{Tags, tag_at}
use Rattle.model.specs.Store.{home_count, homes_made}
use Rattle.model.specs.State.{state_ok, volume_ok, staging_ok, in_phase}
use Rattle.model.specs.Write.{write_of}
use Rattle.model.specs.Flush.{flush_of}
use Rattle.model.specs.Step.{step_of}
use Rattle.model.specs.NextStore.{next_store_of}
use Rattle.model.specs.Read.{read_of}

abbrev pub BringsHome : Type 0
BringsHome =
    (g : Layout) → layout_ok g ≡ true → (v : List ℕ) → needed g * sector_size ≤ length v
    → (e : Entry) → e.sector < g.provided → length e.bytes ≡ sector_size → length e.tag ≡ g.width
    → homes_made g v e (home_count g e) ≡ patch (patch v (data_at g e.sector * sector_size) e.bytes) (tag_byte g e.sector) e.tag

abbrev pub TagByItsSectors : Type 0
TagByItsSectors =
    (g : Layout) → layout_ok g ≡ true → (v w : List ℕ) → length v ≡ length w → (s : ℕ)
    → sector_at v (tag_sector g s) ≡ sector_at w (tag_sector g s)
    → (crosses g s ≡ true → sector_at v (tag_sector g s + 1) ≡ sector_at w (tag_sector g s + 1))
    → tag_at g v s ≡ tag_at g w s

pub record ThirdStore (tags : Tags) : Type 0 where
  pub write : (s : State) (st : List ℕ) (n : ℕ) (bytes : List ℕ) (i : ℕ)
      → (write_of tags (in_phase s (WritingBack i 2)) st n bytes).answer ≡ (write_of tags (in_phase s (WritingBack i 0)) st n bytes).answer
  pub flush : (s : State) (i : ℕ) → (flush_of (in_phase s (WritingBack i 2))).answer ≡ (flush_of (in_phase s (WritingBack i 0))).answer
  pub step : (s : State) (v st : List ℕ) (i : ℕ) → crosses s.layout (entry_of s.layout.width st i).sector ≡ false
      → (step_of (in_phase s (WritingBack i 2)) v st).answer ≡ refuse 1 []
  pub next : (s : State) (v st out : List ℕ) (i : ℕ) → crosses s.layout (entry_of s.layout.width st i).sector ≡ false
      → (next_store_of (in_phase s (WritingBack i 2)) v st out).answer ≡ refuse 1 []
  pub read : (s : State) (v st : List ℕ) (n : ℕ) (loan : List ℕ) (i : ℕ) → crosses s.layout (entry_of s.layout.width st i).sector ≡ false
      → (read_of tags (in_phase s (WritingBack i 2)) v st n loan).answer ≡ refuse 1 []
  pub beyond : (s : State) (v st : List ℕ) (i : ℕ) → state_ok (in_phase s (WritingBack i 2)) ≡ true → volume_ok (in_phase s (WritingBack i 2)) v ≡ true
      → staging_ok s.layout st ≡ true → crosses s.layout (entry_of s.layout.width st i).sector ≡ true
      → s.layout.provided ≤ (entry_of s.layout.width st i).sector
      → (step_of (in_phase s (WritingBack i 2)) v st).answer ≡ refuse 6 (i ∷ [])
  pub fourth-write : (s : State) (st : List ℕ) (n : ℕ) (bytes : List ℕ) (i : ℕ) → (write_of tags (in_phase s (WritingBack i 3)) st n bytes).answer ≡ refuse 1 []
  pub fourth-flush : (s : State) (i : ℕ) → (flush_of (in_phase s (WritingBack i 3))).answer ≡ refuse 1 []
  pub fourth-step : (s : State) (v st : List ℕ) (i : ℕ) → (step_of (in_phase s (WritingBack i 3)) v st).answer ≡ refuse 1 []
  pub fourth-read : (s : State) (v st : List ℕ) (n : ℕ) (loan : List ℕ) (i : ℕ) → (read_of tags (in_phase s (WritingBack i 3)) v st n loan).answer ≡ refuse 1 []
