-- Stores. A step's effect on the volume is a value: nothing, or one sector with its new content (R43).
--
-- Store               : a sector of the volume and what it is to hold; made v x: the volume v with the store x made
-- Effect              : what a call does to the volume; after_effect v x: the volume after it
-- content_of out x     : what a loan that held out holds when the content of the effect x, if it has one, is put in it
-- home_count g e       : how many stores bring the entry e home; most_home_stores: the most
-- home_store g v e h   : the store h of them: the data sector, then the sector with its tag, with only that tag's bytes replaced (R46), then, for a tag that
--                       goes on in the next sector, that one with only the other bytes of the tag replaced (R116)
-- homes_made g v e n   : the volume v with the first n of them made
-- EntryStore          : such a store of an entry to be replayed
-- entry_stores g xs    : those of the entries xs, in order; stores_of g xs: how many there are
-- RecoveryStep        : what a step of a recovery does
-- recovery_steps g xs  : the steps of a recovery that replays the entries xs; steps_of g xs: how many there are, which open reports (R40)
-- recovery_step_at g v k: step k of the recovery of the volume v
use Rattle.std.specs.Prelude.{ℕ, zero, suc, ◌+◌, List, [], ◌∷◌, ◌++◌, map, length, take, drop, get_or}
use Rattle.octets.specs.Choice.{pick}
use Rattle.octets.specs.Parts.{patch}
use Rattle.octets.specs.Sectors.{sector_at, put_sector}
use Rattle.on_disk.specs.declared.Layout.{Layout}
use Rattle.on_disk.specs.Layout.{data_at, tag_sector, tag_offset, crosses, first_piece}
use Rattle.on_disk.specs.Section.{Entry}
use Rattle.octets.specs.Tables.{tabulate}
use Rattle.model.specs.Journal.{Replayed, replay}

pub record Store : Type 0 where
  pub at : ℕ
  pub content : List ℕ

abbrev pub made : List ℕ → Store → List ℕ
made v x = put_sector v x.at x.content

pub data Effect : Type 0 where
  none : Effect
  one : Store → Effect

abbrev pub after_effect : List ℕ → Effect → List ℕ
after_effect v none = v
after_effect v (one x) = made v x

abbrev pub content_of : List ℕ → Effect → List ℕ
content_of out none = out
content_of out (one x) = x.content

abbrev pub most_home_stores : ℕ
most_home_stores = 3

-- asked of the entry's number alone, which need not be below P (R117)
unfoldable pub home_count : Layout → Entry → ℕ
home_count g e = pick (crosses g e.sector) 3 2

abbrev pub home_store : Layout → List ℕ → Entry → ℕ → Store
home_store g v e zero = record { at = data_at g e.sector; content = e.bytes }
home_store g v e (suc zero) =
    record {
      at = tag_sector g e.sector;
      content = patch (sector_at v (tag_sector g e.sector)) (tag_offset g e.sector) (take (first_piece g e.sector) e.tag);
    }
home_store g v e (suc (suc h)) =
    record {
      at = tag_sector g e.sector + 1;
      content = patch (sector_at v (tag_sector g e.sector + 1)) 0 (drop (first_piece g e.sector) e.tag);
    }

abbrev pub homes_made : Layout → List ℕ → Entry → ℕ → List ℕ
homes_made g v e zero = v
homes_made g v e (suc n) = made (homes_made g v e n) (home_store g (homes_made g v e n) e n)

-- ---- the stores of the entries to be replayed, and the steps of a recovery: today those stores and nothing else

pub data EntryStore : Type 0 where
  store_of : (of : Replayed) (h : ℕ) → EntryStore

abbrev pub stores_of_entry : Layout → Replayed → List EntryStore
stores_of_entry g x = tabulate (home_count g x.entry) (store_of x)

abbrev pub entry_stores : Layout → List Replayed → List EntryStore
entry_stores g [] = []
entry_stores g (x ∷ xs) = stores_of_entry g x ++ entry_stores g xs

abbrev pub stores_of : Layout → List Replayed → ℕ
stores_of g xs = length (entry_stores g xs)

pub data RecoveryStep : Type 0 where
  storing : EntryStore → RecoveryStep

abbrev pub recovery_steps : Layout → List Replayed → List RecoveryStep
recovery_steps g xs = map storing (entry_stores g xs)

abbrev pub steps_of : Layout → List Replayed → ℕ
steps_of g xs = length (recovery_steps g xs)

-- what stands past the end of these lists: never met in a sound state
abbrev pub no_entry : Replayed
no_entry = record { section = 0; index = 0; entry = record { sector = 0; bytes = []; tag = [] } }

abbrev pub no_store : EntryStore
no_store = store_of no_entry 0

abbrev pub recovery_step_at : Layout → List ℕ → ℕ → RecoveryStep
recovery_step_at g v k = get_or (recovery_steps g (replay g v)) k (storing no_store)
