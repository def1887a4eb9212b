use native.Mathlib.Omega.{arith}
use Rattle.on_disk.specs.Section.{entry_of}
use Rattle.layout.proofs.Sizes.{width-high, provided-high}
use Rattle.stores.proofs.Contents.{goes_on, part-found, data-filled, tag-filled}
use Rattle.stores.proofs.home_store.Goals as goal

pub entry_data-requires : goal.entry_data-requires
entry_data-requires c = (width-high c.args.g c.requires.0.layout, omega (arith, c.requires.0.entry), c.requires.0.long, c.requires.2)

pub data_at-requires : goal.data_at-requires
data_at-requires c = (c.requires.0.layout, omega (arith, c.requires.0.low, provided-high c.args.g c.requires.0.layout))

pub returns-then-h-eq0 : goal.returns-then-h-eq0
returns-then-h-eq0 c =
    data-filled c.args.g c.args.v.now (entry_of c.args.g.width c.args.section.now c.args.i) c.args.sector c.requires.0.is c.args.h c.data_at.result _
    (omega (arith, c.if-h-eq0.true)) c.data_at.ensures.0 c.entry_data.ensures

pub entry_tag-tag-requires : goal.entry_tag-tag-requires
entry_tag-tag-requires c = (width-high c.args.g c.requires.0.layout, c.requires.0.entry, c.requires.0.long)

pub tag_piece-requires : goal.tag_piece-requires
tag_piece-requires c = (
  c.requires.0.layout,
  c.requires.0.low,
  goes_on c.args.g c.args.section.now c.args.i c.args.sector c.args.h c.requires.0 (λ q. omega (arith, q, c.if-h-eq0.false)),
)

pub tag_store-requires : goal.tag_store-requires
tag_store-requires c =
    let found = part-found c.args.g c.args.section.now c.args.i c.args.sector c.args.h c.requires.0 (λ q. omega (arith, q, c.if-h-eq0.false)) c.args.v.now
    c.tag_piece.result c.tag_piece.ensures in
    (omega (arith, found.room, c.requires.1), found.inside, omega (arith, found.within, c.entry_tag-tag.ensures.1), c.requires.2)

pub returns : goal.returns
returns c =
    tag-filled c.args.g c.args.v.now (entry_of c.args.g.width c.args.section.now c.args.i) c.args.sector c.requires.0.is c.args.h c.tag_store.result _
    c.tag_piece.result
    (part-found c.args.g c.args.section.now c.args.i c.args.sector c.args.h c.requires.0 (λ q. omega (arith, q, c.if-h-eq0.false)) c.args.v.now
    c.tag_piece.result c.tag_piece.ensures)
    c.entry_tag-tag.result.now c.entry_tag-tag.ensures.0 c.tag_store.ensures.0 c.tag_store.ensures.1
