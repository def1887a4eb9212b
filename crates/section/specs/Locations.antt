-- The stores that bring the used entries of a section home, as the code names them: R48.
--
-- entry_store_of t sec x : the store that x names in the section sec
-- location_of p       : the store p as the code names it
-- Locates g sec x p  : in the section sec, x names the store p, with a used entry and a store that there are
-- stores_below g k sec i : the stores that bring the used entries below i home, in section k, whose bytes are sec
-- stores_in g k sec   : those of all its used entries
-- store_number g sec x : the number of x among the stores of its section, whose bytes are sec
-- FoundFrom g sec from r : r is the store that is as many stores on as `from` says, from the first of its entry; where the section has not so many, r
--                      says how many are left
use Rattle.std.specs.Prelude.{ℕ, ◌+◌, ◌<◌, Result, Ok, Err, List, ◌≢◌, ◌≡◌, length, get_or}
use Rattle.on_disk.specs.Layout.{entry_count}
use Rattle.on_disk.specs.Section.{unused, entry_of}
use Rattle.octets.specs.Lists.{collect}
use Rattle.model.specs.Journal.{used_entry, used_of}
use Rattle.model.specs.Store.{home_count, EntryStore, store_of, entry_stores, no_store}
use Rattle.on_disk.specs.declared.Layout.{Layout}
use Rattle.section.specs.declared.Location.{Location}

-- ---- a store of the replay

abbrev pub entry_store_of : ℕ → List ℕ → Location → EntryStore
entry_store_of t sec x = store_of (record { section = x.section; index = x.entry; entry = entry_of t sec x.entry }) x.store

abbrev pub location_of : EntryStore → Location
location_of (store_of x h) = record { section = x.section; entry = x.index; store = h }

pub record Locates (g : Layout) (sec : List ℕ) (x : Location) (p : EntryStore) : Type 0 where
  pub names : entry_store_of g.width sec x ≡ p
  pub entry : x.entry < entry_count g.width
  pub used : (entry_of g.width sec x.entry).sector ≢ unused
  pub store : x.store < home_count g (entry_of g.width sec x.entry)

-- ---- its number in the section

abbrev pub stores_below : Layout → ℕ → List ℕ → ℕ → List EntryStore
stores_below g k sec i = entry_stores g (collect i (λ j. used_entry k j (entry_of g.width sec j)))

abbrev pub stores_in : Layout → ℕ → List ℕ → List EntryStore
stores_in g k sec = entry_stores g (used_of g.width k sec)

abbrev pub store_number : Layout → List ℕ → Location → ℕ
store_number g sec x = length (stores_below g x.section sec x.entry) + x.store

abbrev pub FoundFrom : Layout → List ℕ → Location → Result Location ℕ → Type 0
FoundFrom g sec from (Ok x) = Locates g sec x (get_or (stores_in g x.section sec) (store_number g sec x) no_store) × (store_number g sec x ≡ store_number g sec from) × (x.section ≡ from.section)
FoundFrom g sec from (Err left) = length (stores_in g from.section sec) + left ≡ store_number g sec from
