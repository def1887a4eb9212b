use native.Mathlib.Omega.{arith}
use Rattle.on_disk.proofs.Addresses.{ranged, crossing, tag-offset}
use Rattle.layout.proofs.Sizes.{provided-high}
use Rattle.stores.proofs.Contents.{first-size, part-behind-first, part_to_end, part-whole}
use Rattle.stores.proofs.tags.tag_piece.Goals as goal

pub tag_byte-byte-requires : goal.tag_byte-byte-requires
tag_byte-byte-requires c = (c.requires.0, omega (arith, c.requires.1, provided-high c.args.g c.requires.0))

pub overflow_sub-result : goal.overflow_sub-result
overflow_sub-result c =
    let R = ranged c.args.g c.requires.0 in
    let first = first-size c.args.g c.requires.0 c.args.sector c.tag_byte-byte.result c.tag_byte-byte.ensures.0 in
    omega (arith, first, crossing c.args.g (ranged c.args.g c.requires.0) c.args.sector (c.requires.2 (λ q. omega (arith, q, c.if-h-ne1.true))), tag-offset c.args.g (ranged c.args.g c.requires.0) c.args.sector)

pub returns-then-h-ne1 : goal.returns-then-h-ne1
returns-then-h-ne1 c = part-behind-first c.args.g c.requires.0 c.args.sector c.tag_byte-byte.result c.tag_byte-byte.ensures.0 c.args.h (λ q. omega (arith, q, c.if-h-ne1.true))

pub returns-then-first-g : goal.returns-then-first-g
returns-then-first-g c = part_to_end c.args.g c.requires.0 c.args.sector c.tag_byte-byte.result c.tag_byte-byte.ensures.0 c.args.h (omega (arith, c.if-h-ne1.false)) (omega (arith, c.if-first-g.true))

pub returns : goal.returns
returns c = part-whole c.args.g c.requires.0 c.args.sector c.tag_byte-byte.result c.tag_byte-byte.ensures.0 c.args.h (omega (arith, c.if-h-ne1.false)) (omega (arith, c.if-first-g.false))
