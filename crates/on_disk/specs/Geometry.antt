-- The geometry of a layout in range, over any T (R103). The proof is in proofs/Geometry.
--
-- Apart a n b m : the n units from a on and the m units from b on have none in common
-- Geometry g    : where the parts of a volume lie; in sectors, a tag in bytes
-- Geometric     : that it is so of every layout in range
-- EntrySizes    : the size of an entry, by ranges of T (R115)
use Rattle.std.specs.Prelude.{ℕ, ◌+◌, ◌*◌, ◌%◌, ◌≤◌, ◌<◌, true, false, ◌≢◌, ◌≡◌}
use Rattle.octets.specs.Sectors.{sector_size}
use Rattle.on_disk.specs.declared.Layout.{Layout}
use Rattle.on_disk.specs.Layout.{superblock_size, entry_size, section_size, section_at, base, run_length, tag_area, run_at, data_at, tag_byte, tag_sector, tag_offset, crosses, needed, layout_ok}

pub data Apart (a n b m : ℕ) : Type 0 where
  before : a + n ≤ b → Apart a n b m
  behind : b + m ≤ a → Apart a n b m

pub record Geometry (g : Layout) : Type 0 where
  -- the sections lie behind the superblock, one apart from another, up to the base
  pub journal : (k : ℕ) → k < g.sections → (g.reserved + superblock_size ≤ section_at g k) × (section_at g k + section_size g.width ≤ base g)
  pub sections : (k k' : ℕ) → k ≢ k' → Apart (section_at g k) (section_size g.width) (section_at g k') (section_size g.width)
  -- data sectors lie from the base on, inside the layout, one apart from another
  pub contents : (s : ℕ) → s < g.provided → (base g ≤ data_at g s) × (data_at g s < needed g)
  pub contents-apart : (s s' : ℕ) → s ≢ s' → Apart (data_at g s) 1 (data_at g s') 1
  -- tag areas too, and apart from every data sector
  pub areas : (s : ℕ) → s < g.provided → (base g ≤ run_at g s) × (run_at g s + tag_area g ≤ needed g)
  pub areas-apart : (s s' : ℕ) → Apart (run_at g s) (tag_area g) (data_at g s') 1
  -- the bytes of a tag lie in its run's tag area, apart from those of every other
  pub tags : (s : ℕ) → (run_at g s * sector_size ≤ tag_byte g s) × (tag_byte g s + g.width ≤ (run_at g s + tag_area g) * sector_size)
  pub tags-apart : (s s' : ℕ) → s ≢ s' → Apart (tag_byte g s) g.width (tag_byte g s') g.width
  -- they begin in one sector, and end in it or in the next one of the area (R116)
  pub tag-begins : (s : ℕ) → (tag_sector g s * sector_size + tag_offset g s ≡ tag_byte g s) × (tag_offset g s < sector_size)
  pub tag-in-one : (s : ℕ) → crosses g s ≡ false → tag_offset g s + g.width ≤ sector_size
  pub tag-in-two : (s : ℕ) → crosses g s ≡ true
      → (sector_size < tag_offset g s + g.width) × (tag_offset g s + g.width ≤ 2 * sector_size) × (tag_sector g s + 1 < run_at g s + tag_area g)
  -- which of the two depends on s mod N alone
  pub crossing : (s : ℕ) → crosses g s ≡ crosses g (s % run_length g)

abbrev pub Geometric : Type 0
Geometric = (g : Layout) → layout_ok g ≡ true → Geometry g

pub record EntrySizes (t : ℕ) : Type 0 where
  pub to-8 : 1 ≤ t → t ≤ 8 → entry_size t ≡ 24
  pub to-16 : 9 ≤ t → t ≤ 16 → entry_size t ≡ 32
  pub to-24 : 17 ≤ t → t ≤ 24 → entry_size t ≡ 40
  pub to-32 : 25 ≤ t → t ≤ 32 → entry_size t ≡ 48
