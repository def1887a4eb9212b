-- The geometry of a layout in range, from the laws of its regions.
use Prim.Native.Nat.{ℕ, ◌+◌, ◌*◌, ◌%◌}
use mathlib.Core.Path.{sym, ap}
use native.Mathlib.Omega.{arith}
use native.Mathlib.Nat.{mod-mod}
use lib.Dec.{ltb}
use Rattle.octets.specs.Sectors.{sector_size}
use Rattle.on_disk.specs.Layout.{section_size, section_at, run_length, data_at}
use Rattle.on_disk.specs.Geometry.{Apart, before, behind, Geometric, EntrySizes}
use Rattle.on_disk.proofs.Addresses.{ranged, tag-in-area, area-data, data-data, tag-tag, tag-sector, tag-offset, not-crossing, crossing, next-in-area, data-high, data-room, area-room, section-low, section-apart}

-- what lies apart by bytes lies apart by sectors
by-sectors : (a n b m : ℕ) → Apart (a * 512) (n * 512) (b * 512) (m * 512) → Apart a n b m
by-sectors a n b m (before h) = before (omega arith)
by-sectors a n b m (behind h) = behind (omega arith)

pub geometric : Geometric
geometric g ok =
    let R = ranged g ok in
    record {
      journal = λ k l. (omega arith, section-low g R k l);
      sections = λ k k' n. by-sectors (section_at g k) (section_size g.width) (section_at g k') (section_size g.width) (section-apart g R k k' n);
      contents = λ s l. (data-high g R s, omega (arith, data-room g R s l));
      contents-apart = λ s s' n. by-sectors (data_at g s) 1 (data_at g s') 1 (data-data g R s s' n);
      areas = λ s l. (omega arith, area-room g R s l);
      areas-apart = area-data g R;
      tags = λ s. (omega arith, omega (arith, tag-in-area g R s));
      tags-apart = tag-tag g R;
      tag-begins = λ s. (tag-sector g R s, tag-offset g R s);
      tag-in-one = not-crossing g R;
      tag-in-two = λ s e. (crossing g R s e, omega (arith, tag-offset g R s, R.t.bound), next-in-area g R s e);
      crossing = λ s. sym (ap (λ (x : ℕ). ltb sector_size (x * g.width % sector_size + g.width)) (mod-mod s (run_length g)));
    }

pub entry-sizes : (t : ℕ) → EntrySizes t
entry-sizes t =
    record { to-8 = λ l h. omega arith; to-16 = λ l h. omega arith; to-24 = λ l h. omega arith; to-32 = λ l h. omega arith }
