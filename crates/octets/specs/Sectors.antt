-- The sectors of a volume, R15: a volume is a list of bytes, and sector a starts at byte a × 512.
use Rattle.std.specs.Prelude.{ℕ, ◌*◌, List}
use Rattle.octets.specs.Parts.{part, patch}

-- the length of a sector, in bytes
abbrev pub sector_size : ℕ
sector_size = 512

-- the bytes of sector a of v; a is in sectors
abbrev pub sector_at : List ℕ → ℕ → List ℕ
sector_at v a = part v (a * sector_size) sector_size

-- v with c stored at sector a; a is in sectors, and c is a sector long
abbrev pub put_sector : List ℕ → ℕ → List ℕ → List ℕ
put_sector v a c = patch v (a * sector_size) c
