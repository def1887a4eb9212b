-- Laws of the sectors of a volume: the laws of parts, at whole sectors.
use Prim.Native.Nat.{ℕ, ◌+◌, ◌*◌, ◌≤◌, ◌<◌}
use native.Mathlib.Decide.{dec_le}
use native.Mathlib.Omega.{arith}
use mathlib.Core.List.{List}
use mathlib.Core.Logic.{◌≢◌}
use mathlib.Core.Path.{◌≡◌, sym, ap, ◌∙◌}
use lib.ListN.{length}
use Rattle.octets.specs.Parts.{part, patch}
use Rattle.octets.specs.Sectors.{sector_size, sector_at, put_sector}
use Rattle.octets.proofs.Parts.{length_part, length-patch, part-patch-same, part-patch-before, part-patch-after, part-part, patch-patch}

pub length-sector : (v : List ℕ) (a : ℕ) → (a + 1) * sector_size ≤ length v → length (sector_at v a) ≡ sector_size
length-sector v a h = length_part v (a * sector_size) sector_size (omega arith)

-- a whole sector stored inside the volume
module _ (v : List ℕ) (a : ℕ) (c : List ℕ) (whole : length c ≡ sector_size) (inside : (a + 1) * sector_size ≤ length v) where
  fits : a * sector_size + length c ≤ length v
  fits = omega arith

  pub length-put : length (put_sector v a c) ≡ length v
  length-put = length-patch v (a * sector_size) c fits

  pub sector-put-same : sector_at (put_sector v a c) a ≡ c
  sector-put-same = part-patch-same v (a * sector_size) c fits sector_size (sym whole)

  pub sector-put-other : (b : ℕ) → b ≢ a → sector_at (put_sector v a c) b ≡ sector_at v b
  sector-put-other b n = side (dec_le b a)
    where
      side : Dec (b ≤ a) → sector_at (put_sector v a c) b ≡ sector_at v b
      side (yes l) = part-patch-before v (a * sector_size) c fits (b * sector_size) sector_size (omega arith)
      side (no g) = part-patch-after v (a * sector_size) c fits (b * sector_size) sector_size (omega arith)

-- a sector stored with only some of its bytes replaced is a patch of the volume
pub put-inside : (v : List ℕ) (a off : ℕ) (x : List ℕ) → off + length x ≤ sector_size → (a + 1) * sector_size ≤ length v
    → put_sector v a (patch (sector_at v a) off x) ≡ patch v (a * sector_size + off) x
put-inside v a off x h k = patch-patch v (a * sector_size) sector_size off x h (omega arith)

-- sector j of the n sectors from sector a on
pub sector-part : (v : List ℕ) (a n j : ℕ) → j < n → sector_at (part v (a * sector_size) (n * sector_size)) j ≡ sector_at v (a + j)
sector-part v a n j h =
    let e : a * sector_size + j * sector_size ≡ (a + j) * sector_size = omega arith in
    part-part v (a * sector_size) (n * sector_size) (j * sector_size) sector_size (omega arith) ∙ ap (λ (b : ℕ). part v b sector_size) e
