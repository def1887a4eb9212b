-- Uses of the geometry at the last section, the last sector's data, two neighbours' tags and the greatest number: so that a statement which is made weaker, and is then still
-- proved, is refused here.
use Prim.Native.Nat.{ℕ, ◌+◌, ◌-◌, ◌%◌, ◌^◌, ◌≤◌, ◌<◌}
use mathlib.Core.Bool.{true, false}
use mathlib.Core.Path.{◌≡◌}
use native.Mathlib.Omega.{arith}
use Rattle.on_disk.specs.declared.Layout.{Layout}
use Rattle.on_disk.specs.Layout.{entry_size, section_size, section_at, base, run_length, tag_area, run_at, data_at, tag_byte, tag_sector, tag_offset, crosses, needed, layout_ok}
use Rattle.on_disk.specs.Geometry.{Apart}
use Rattle.on_disk.proofs.Geometry.{geometric, entry-sizes}

last-section : (g : Layout) → layout_ok g ≡ true → 0 < g.sections → section_at g (g.sections - 1) + section_size g.width ≤ base g
last-section g ok l = ((geometric g ok).journal (g.sections - 1) (omega arith)).1

last-data : (g : Layout) → layout_ok g ≡ true → 0 < g.provided → data_at g (g.provided - 1) < needed g
last-data g ok l = ((geometric g ok).contents (g.provided - 1) (omega arith)).1

neighbours : (g : Layout) → layout_ok g ≡ true → (s : ℕ) → Apart (tag_byte g s) g.width (tag_byte g (s + 1)) g.width
neighbours g ok s = (geometric g ok).tags-apart s (s + 1) (λ z. omega (arith, z))

module _ (g : Layout) (ok : layout_ok g ≡ true) where
  greatest-begins : tag_offset g (2 ^ 64 - 1) < 512
  greatest-begins = ((geometric g ok).tag-begins (2 ^ 64 - 1)).1

  greatest-in-one : crosses g (2 ^ 64 - 1) ≡ false → tag_offset g (2 ^ 64 - 1) + g.width ≤ 512
  greatest-in-one e = (geometric g ok).tag-in-one (2 ^ 64 - 1) e

  greatest-in-two : crosses g (2 ^ 64 - 1) ≡ true → tag_sector g (2 ^ 64 - 1) + 1 < run_at g (2 ^ 64 - 1) + tag_area g
  greatest-in-two e = ((geometric g ok).tag-in-two (2 ^ 64 - 1) e).2

-- either end of each range of T
ends-of-ranges : ((entry_size 1 ≡ 24) × (entry_size 8 ≡ 24)) × ((entry_size 9 ≡ 32) × (entry_size 16 ≡ 32))
    × ((entry_size 17 ≡ 40) × (entry_size 24 ≡ 40)) × ((entry_size 25 ≡ 48) × (entry_size 32 ≡ 48))
ends-of-ranges = (
  ((entry-sizes 1).to-8 (omega arith) (omega arith), (entry-sizes 8).to-8 (omega arith) (omega arith)),
  ((entry-sizes 9).to-16 (omega arith) (omega arith), (entry-sizes 16).to-16 (omega arith) (omega arith)),
  ((entry-sizes 17).to-24 (omega arith) (omega arith), (entry-sizes 24).to-24 (omega arith) (omega arith)),
  ((entry-sizes 25).to-32 (omega arith) (omega arith), (entry-sizes 32).to-32 (omega arith) (omega arith)),
)

greatest-crosses : (g : Layout) → layout_ok g ≡ true → crosses g (2 ^ 64 - 1) ≡ crosses g ((2 ^ 64 - 1) % run_length g)
greatest-crosses g ok = (geometric g ok).crossing (2 ^ 64 - 1)
