-- Sizes and addresses, stated once over T (R103). Unless another unit is named, a size is in sectors, and an address is the number of a sector of the
-- volume. The parameters: reserved is r, 2 ^ shift is N, width is T, sections is S, provided is P.
--
-- tag_part t        : the bytes that a tag takes in a journal entry; entry_size t: the bytes of the entry
-- per_sector t      : the entries in a metadata sector
-- entry_count t     : E, the entries of a section
-- section_size t    : M, the size of a section
-- section_at g k    : the first sector of section k
-- base g           : B, the first sector behind the journal
-- run_length g      : N, the data sectors of a run
-- tag_area g        : A, the size of a run's tag area
-- run_at g s        : the first sector of the run that has logical sector s
-- data_at g s       : where logical sector s lies
-- tag_byte g s      : the byte of the volume at which the tag of s starts: byte tag_offset g s of sector tag_sector g s
-- crosses g s      : whether the tag of s goes on in the next sector; first_piece g s: the bytes from its start to the end of its first sector
-- needed g         : the sectors that the layout needs
-- layout_ok g       : whether every parameter is in range
use Rattle.std.specs.Prelude.{ℕ, ◌+◌, ◌-◌, ◌*◌, ◌/◌, ◌%◌, ◌^◌, Bool, ◌&&◌, leb, ltb}
use Rattle.octets.specs.Sectors.{sector_size}
use Rattle.on_disk.specs.declared.Layout.{Layout}

-- ---- limits: R25

abbrev pub most_sectors : ℕ
most_sectors = 65536

abbrev pub most_reserved : ℕ
most_reserved = 64

abbrev pub least_shift : ℕ
least_shift = 3

abbrev pub most_shift : ℕ
most_shift = 15

abbrev pub most_width : ℕ
most_width = 32

abbrev pub most_sections : ℕ
most_sections = 64

abbrev pub most_provided : ℕ
most_provided = 65536

-- ---- a section: R27, an entry has a logical sector (8 bytes), the last 8 data bytes and the tag part; R28, whole entries in 496 bytes; R26, M = 8 + E

-- R115: the tag, rounded up to a multiple of 8 bytes
abbrev pub tag_part : ℕ → ℕ
tag_part t = 8 * ((t + 7) / 8)

abbrev pub entry_size : ℕ → ℕ
entry_size t = 16 + tag_part t

abbrev pub per_sector : ℕ → ℕ
per_sector t = 496 / entry_size t

abbrev pub entry_count : ℕ → ℕ
entry_count t = 8 * per_sector t

abbrev pub section_size : ℕ → ℕ
section_size t = 8 + entry_count t

-- ---- the volume: R15, reserved sectors, superblock, journal, runs

abbrev pub superblock_size : ℕ
superblock_size = 8

abbrev pub section_at : Layout → ℕ → ℕ
section_at g k = g.reserved + superblock_size + k * section_size g.width

-- R21: B = r + 8 + S × M
abbrev pub base : Layout → ℕ
base g = section_at g g.sections

abbrev pub run_length : Layout → ℕ
run_length g = 2 ^ g.shift

-- R19: A = 8 × ceil(N × T / 4096)
abbrev pub tag_area : Layout → ℕ
tag_area g = 8 * ((run_length g * g.width + 4095) / 4096)

-- R18: a run is A sectors of tags and N of data
abbrev pub run_at : Layout → ℕ → ℕ
run_at g s = base g + s / run_length g * (tag_area g + run_length g)

-- R22: B + (s div N) × (A + N) + A + (s mod N)
abbrev pub data_at : Layout → ℕ → ℕ
data_at g s = run_at g s + tag_area g + s % run_length g

-- the byte of its run's tag area at which the tag of s starts
abbrev pub tag_start : Layout → ℕ → ℕ
tag_start g s = s % run_length g * g.width

-- R23: (B + (s div N) × (A + N)) × 512 + (s mod N) × T
abbrev pub tag_byte : Layout → ℕ → ℕ
tag_byte g s = run_at g s * sector_size + tag_start g s

abbrev pub tag_sector : Layout → ℕ → ℕ
tag_sector g s = run_at g s + tag_start g s / sector_size

abbrev pub tag_offset : Layout → ℕ → ℕ
tag_offset g s = tag_start g s % sector_size

-- R116: a matter of s mod N alone, so that it may be asked of any number
abbrev pub crosses : Layout → ℕ → Bool
crosses g s = ltb sector_size (tag_offset g s + g.width)

abbrev pub first_piece : Layout → ℕ → ℕ
first_piece g s = sector_size - tag_offset g s

-- R18: the last run ends with the last data sector
abbrev pub needed : Layout → ℕ
needed g = data_at g (g.provided - 1) + 1

-- ---- ranges: R25

unfoldable pub width_ok : ℕ → Bool
width_ok t = leb 1 t && leb t most_width

unfoldable pub layout_ok : Layout → Bool
layout_ok g =
    leb g.reserved most_reserved
    && (leb least_shift g.shift && leb g.shift most_shift)
    && width_ok g.width
    && (leb 1 g.sections && leb g.sections most_sections)
    && (leb 1 g.provided && leb g.provided most_provided)
