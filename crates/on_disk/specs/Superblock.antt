-- The superblock: R17.
--
-- magic             : the bytes `integrt` and a zero (R93)
-- superblock_of g    : the 4,096 bytes that format writes for the layout g
-- superblock_at r v  : the superblock of the volume v behind r reserved sectors
-- layout_in r b      : the layout whose numbers the superblock b holds
-- is_zero b          : whether all bytes of b are zero
-- superblock_ok r b  : whether b is valid: its numbers are in range, and it is what format writes for them, byte for byte
use Rattle.std.specs.Prelude.{ℕ, ◌*◌, Bool, ◌&&◌, List, [], ◌∷◌, ◌++◌, length, replicate, get_or}
use Rattle.octets.specs.Numbers.{le, value}
use Rattle.octets.specs.Parts.{part, same}
use Rattle.octets.specs.Sectors.{sector_size}
use Rattle.on_disk.specs.declared.Layout.{Layout}
use Rattle.on_disk.specs.Layout.{superblock_size, layout_ok}

abbrev pub magic : List ℕ
magic = 0x69 ∷ 0x6e ∷ 0x74 ∷ 0x65 ∷ 0x67 ∷ 0x72 ∷ 0x74 ∷ 0 ∷ []

-- version 128 at 8, log2 N at 9, T at 10, S at 12, P at 16, and zeros from 24 on
unfoldable pub superblock_of : Layout → List ℕ
superblock_of g =
    magic ++ (128 ∷ g.shift ∷ (le 2 g.width ++ (le 4 g.sections ++ (le 8 g.provided ++ replicate 4072 0))))

abbrev pub superblock_at : ℕ → List ℕ → List ℕ
superblock_at r v = part v (r * sector_size) (superblock_size * sector_size)

abbrev pub layout_in : ℕ → List ℕ → Layout
layout_in r b =
    record { reserved = r; shift = get_or b 9 0; width = value (part b 10 2); sections = value (part b 12 4); provided = value (part b 16 8) }

abbrev pub is_zero : List ℕ → Bool
is_zero b = same b (replicate (length b) 0)

abbrev pub superblock_ok : ℕ → List ℕ → Bool
superblock_ok r b = same b (superblock_of (layout_in r b)) && layout_ok (layout_in r b)
