use mathlib.Core.Path.{sym, ◌∙◌}
use native.Mathlib.Omega.{arith}
use Rattle.layout.proofs.Sizes.{width-high}
use Rattle.on_disk.specs.Section.{entry_of}
use Rattle.sound.specs.Rule.{tag_by}
use Rattle.volume_open.proofs.Checks.{entry-unused, entry-out-of-range, entry-mismatch, entry-fits, entry-fits-is}
use Rattle.volume_open.proofs.open.check_entry.Goals as goal

pub entry_sector-sector-requires : goal.entry_sector-sector-requires
entry_sector-sector-requires c = (width-high c.args.g c.requires.0, c.requires.2, c.requires.1)

pub returns-then-sector : goal.returns-then-sector
returns-then-sector c =
    let a = c.args in
    entry-unused (tag_by a.rule a.g.width) a.g a.k a.i (entry_of a.g.width a.section.now a.i) (sym c.entry_sector-sector.ensures ∙ c.if-sector.true)

pub returns-then-g-sector : goal.returns-then-g-sector
returns-then-g-sector c =
    let a = c.args in
    entry-out-of-range (tag_by a.rule a.g.width) a.g a.k a.i (entry_of a.g.width a.section.now a.i)
    (λ q. c.if-sector.false (c.entry_sector-sector.ensures ∙ q)) (omega (arith, c.entry_sector-sector.ensures, c.if-g-sector.true))

pub entry_data-requires : goal.entry_data-requires
entry_data-requires c = (width-high c.args.g c.requires.0, c.requires.2, c.requires.1, omega arith)

pub entry_tag-stored-requires : goal.entry_tag-stored-requires
entry_tag-stored-requires c = (width-high c.args.g c.requires.0, c.requires.2, c.requires.1)

pub same_at-requires : goal.same_at-requires
same_at-requires c =
    let small = width-high c.args.g c.requires.0 in
    (omega (arith, c.entry_tag-stored.ensures.1), omega (arith, c.tag-digest.ensures.1))

pub returns-then-not-same_at : goal.returns-then-not-same_at
returns-then-not-same_at c =
    let a = c.args in
    let e = entry_of a.g.width a.section.now a.i in
    let fits = entry-fits-is a.rule a.g.width e c.entry_sector-sector.result c.entry_data.new.bytes c.tag-digest.result c.entry_tag-stored.result.now c.same_at.result
    c.entry_sector-sector.ensures c.entry_data.ensures c.entry_tag-stored.ensures.0 c.entry_tag-stored.ensures.1 c.tag-digest.ensures.0 c.same_at.ensures in
    entry-mismatch (tag_by a.rule a.g.width) a.g a.k a.i e
    (λ q. c.if-sector.false (c.entry_sector-sector.ensures ∙ q)) (omega (arith, c.entry_sector-sector.ensures, c.if-g-sector.false)) (sym fits ∙ c.if-not-same_at.true)

pub returns : goal.returns
returns c =
    let a = c.args in
    let e = entry_of a.g.width a.section.now a.i in
    let fits = entry-fits-is a.rule a.g.width e c.entry_sector-sector.result c.entry_data.new.bytes c.tag-digest.result c.entry_tag-stored.result.now c.same_at.result
    c.entry_sector-sector.ensures c.entry_data.ensures c.entry_tag-stored.ensures.0 c.entry_tag-stored.ensures.1 c.tag-digest.ensures.0 c.same_at.ensures in
    entry-fits (tag_by a.rule a.g.width) a.g a.k a.i e
    (λ q. c.if-sector.false (c.entry_sector-sector.ensures ∙ q)) (omega (arith, c.entry_sector-sector.ensures, c.if-g-sector.false)) (sym fits ∙ c.if-not-same_at.false)
