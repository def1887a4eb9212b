use Prim.Native.Nat.{ℕ, ◌+◌, ◌-◌, ◌*◌}
use mathlib.Core.Path.{ap, refl, ◌≡◌}
use native.Mathlib.Omega.{arith}
use Rattle.octets.proofs.Parts.{length_part}
use Rattle.volume_read.proofs.Reading.{fits-is}
use Rattle.layout.proofs.Sizes.{width-high, provided-high}
use Rattle.on_disk.proofs.Addresses.{ranged, data-room, tag-end}
use Rattle.volume_read.proofs.fits.tag_fits.Goals as goal

pub data_at-start-requires : goal.data_at-start-requires
data_at-start-requires c = (c.requires.0, omega (arith, provided-high c.args.g c.requires.0))

pub slice_bounds-tag-end : goal.slice_bounds-tag-end
slice_bounds-tag-end c = omega (arith, c.data_at-start.ensures.0, data-room c.args.g (ranged c.args.g c.requires.0) c.args.sector c.requires.2)

pub tag-digest-requires : goal.tag-digest-requires
tag-digest-requires c =
    let size : c.data_at-start.result * 512 + 512 - c.data_at-start.result * 512 ≡ 512 = omega arith in
    rw size (length_part c.args.v.now (c.data_at-start.result * 512) 512 (omega (arith, c.data_at-start.ensures.0, data-room c.args.g (ranged c.args.g c.requires.0) c.args.sector c.requires.2)))

pub tag_byte-requires : goal.tag_byte-requires
tag_byte-requires c = (c.requires.0, omega (arith, provided-high c.args.g c.requires.0))

pub same_at-requires : goal.same_at-requires
same_at-requires c = omega (arith, c.tag_byte.ensures.0, c.tag-digest.ensures.1, width-high c.args.g c.requires.0, tag-end c.args.g (ranged c.args.g c.requires.0) c.args.sector c.requires.2)

pub returns : goal.returns
returns c =
    fits-is c.args.rule c.args.g c.args.v.now c.args.sector c.tag-digest.result c.same_at.result c.tag_byte.result (c.data_at-start.result * 512) (c.data_at-start.result * 512 + 512)
    c.tag_byte.ensures.0 (ap (λ (x : ℕ). x * 512) c.data_at-start.ensures.0) refl c.tag-digest.ensures.0 c.same_at.ensures
