use native.Mathlib.Omega.{arith}
use Rattle.layout.proofs.Sizes.{width-high, provided-high}
use Rattle.stores.proofs.Contents.{goes_on, part-found, data-changed, tag-changed}
use Rattle.stores.proofs.changes.home_part.Goals as goal

pub entry_data-requires : goal.entry_data-requires
entry_data-requires c = (width-high c.args.g c.requires.0.layout, c.requires.0.entry, c.requires.0.long, c.requires.1)

pub data_at-requires : goal.data_at-requires
data_at-requires c = (c.requires.0.layout, omega (arith, c.requires.0.low, provided-high c.args.g c.requires.0.layout))

pub returns-then-h-eq0 : goal.returns-then-h-eq0
returns-then-h-eq0 c =
    λ v room.
    data-changed c.args.g c.requires.0.layout c.args.section.now c.requires.0.long c.args.i c.requires.0.entry c.args.sector c.requires.0.is c.requires.0.low c.args.h _ v room
    (omega (arith, c.if-h-eq0.true)) c.data_at.result c.data_at.ensures.0 c.entry_data.ensures

pub entry_tag-tag-requires : goal.entry_tag-tag-requires
entry_tag-tag-requires c = (width-high c.args.g c.requires.0.layout, c.requires.0.entry, c.requires.0.long)

pub tag_piece-p-requires : goal.tag_piece-p-requires
tag_piece-p-requires c = (
  c.requires.0.layout,
  c.requires.0.low,
  goes_on c.args.g c.args.section.now c.args.i c.args.sector c.args.h c.requires.0 (λ q. omega (arith, q, c.if-h-eq0.false)),
)

pub copy_at-requires : goal.copy_at-requires
copy_at-requires c =
    let found = part-found c.args.g c.args.section.now c.args.i c.args.sector c.args.h c.requires.0 (λ q. omega (arith, q, c.if-h-eq0.false)) c.args.out.now
    c.tag_piece-p.result c.tag_piece-p.ensures in
    (omega (arith, found.inside, c.requires.1), omega (arith, found.within, c.entry_tag-tag.ensures.1))

pub returns : goal.returns
returns c =
    λ v room.
    tag-changed c.args.g c.requires.0.layout c.args.section.now c.requires.0.long c.args.i c.requires.0.entry c.args.sector c.requires.0.is c.requires.0.low c.args.h _ v room
    c.tag_piece-p.result
    (part-found c.args.g c.args.section.now c.args.i c.args.sector c.args.h c.requires.0 (λ q. omega (arith, q, c.if-h-eq0.false)) v
    c.tag_piece-p.result c.tag_piece-p.ensures)
    c.entry_tag-tag.result.now c.args.out.now c.entry_tag-tag.ensures.0 c.requires.1 c.copy_at.ensures
