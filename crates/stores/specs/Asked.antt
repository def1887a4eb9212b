-- What is asked where a store is filled.
--
-- SectorOfCommit s st j         : in the state s, j is a sector of the section st that is to be committed
-- StoreOfEntry g sec i sector h : entry i of the section sec is for the logical sector `sector`, which the volume provides, and h is one of its stores
use Rattle.std.specs.Prelude.{ℕ, ◌*◌, ◌<◌, true, List, ◌≡◌, length}
use Rattle.octets.specs.Sectors.{sector_size}
use Rattle.on_disk.specs.Layout.{entry_count, section_size, layout_ok}
use Rattle.on_disk.specs.Section.{entry_of}
use Rattle.model.specs.Store.{home_count}
use Rattle.on_disk.specs.declared.Layout.{Layout}
use Rattle.model.specs.declared.State.{State}

pub record SectorOfCommit (s : State) (st : List ℕ) (j : ℕ) : Type 0 where
  pub layout : layout_ok s.layout ≡ true
  pub long : length st ≡ section_size s.layout.width * sector_size
  pub sector : j < section_size s.layout.width
  pub id : 0 < s.id

pub record StoreOfEntry (g : Layout) (sec : List ℕ) (i sector h : ℕ) : Type 0 where
  pub layout : layout_ok g ≡ true
  pub long : length sec ≡ section_size g.width * sector_size
  pub entry : i < entry_count g.width
  pub is : sector ≡ (entry_of g.width sec i).sector
  pub low : sector < g.provided
  pub store : h < home_count g (entry_of g.width sec i)
