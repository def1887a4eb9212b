use mathlib.Core.Path.{sym, ap, ◌∙◌, ◌≡◌}
use Rattle.layout.proofs.Sizes.{width-high}
use Rattle.on_disk.specs.declared.Layout.{Layout}
use Rattle.on_disk.specs.Layout.{layout_ok}
use Rattle.on_disk.specs.Superblock.{superblock_at, layout_in}
use Rattle.model.specs.Query.{query_with}
use Rattle.volume_open.proofs.Queries.{wrong-loan, out_of_range, short-of-superblock, not-formatted, invalid, short, holds, valid-layout}
use Rattle.volume_open.proofs.query.query.Goals as goal

pub returns-then-not-volume_loan_ok : goal.returns-then-not-volume_loan_ok
returns-then-not-volume_loan_ok c =
    let r = c.args.r in
    let v = c.args.v.now in
    wrong-loan (layout_in r (superblock_at r v)) r v (sym c.volume_loan_ok.ensures ∙ c.if-not-volume_loan_ok.true)

pub returns-then-r-gt-MOST_RESERVED : goal.returns-then-r-gt-MOST_RESERVED
returns-then-r-gt-MOST_RESERVED c =
    let r = c.args.r in
    let v = c.args.v.now in
    out_of_range (layout_in r (superblock_at r v)) r v (sym c.volume_loan_ok.ensures ∙ c.if-not-volume_loan_ok.false) c.if-r-gt-MOST_RESERVED.true

pub returns-then-v-r : goal.returns-then-v-r
returns-then-v-r c =
    let r = c.args.r in
    let v = c.args.v.now in
    short-of-superblock (layout_in r (superblock_at r v)) r v (sym c.volume_loan_ok.ensures ∙ c.if-not-volume_loan_ok.false) c.if-r-gt-MOST_RESERVED.false c.if-v-r.true

pub returns-then-is_zero : goal.returns-then-is_zero
returns-then-is_zero c =
    let r = c.args.r in
    let v = c.args.v.now in
    not-formatted (layout_in r (superblock_at r v)) r v (sym c.volume_loan_ok.ensures ∙ c.if-not-volume_loan_ok.false) c.if-r-gt-MOST_RESERVED.false c.if-v-r.false
    c.superblock_at-block.result.now c.superblock_at-block.ensures.0 (sym c.is_zero.ensures ∙ c.if-is_zero.true)

pub superblock_ok-requires : goal.superblock_ok-requires
superblock_ok-requires c = c.superblock_at-block.ensures.1

pub returns-then-not-superblock_ok : goal.returns-then-not-superblock_ok
returns-then-not-superblock_ok c =
    let r = c.args.r in
    let v = c.args.v.now in
    invalid (layout_in r (superblock_at r v)) r v (sym c.volume_loan_ok.ensures ∙ c.if-not-volume_loan_ok.false) c.if-r-gt-MOST_RESERVED.false c.if-v-r.false
    c.superblock_at-block.result.now c.superblock_at-block.ensures.0 (sym c.is_zero.ensures ∙ c.if-is_zero.false) (sym c.superblock_ok.ensures ∙ c.if-not-superblock_ok.true)

pub layout_in-layout-requires : goal.layout_in-layout-requires
layout_in-layout-requires c = c.superblock_at-block.ensures.1

pub needed-needed-requires : goal.needed-needed-requires
needed-needed-requires c =
    ap layout_ok c.layout_in-layout.ensures
    ∙ valid-layout c.args.r c.superblock_at-block.result.now (sym c.superblock_ok.ensures ∙ c.if-not-superblock_ok.false)

pub returns-then-v-needed : goal.returns-then-v-needed
returns-then-v-needed c =
    let r = c.args.r in
    let v = c.args.v.now in
    let g = c.layout_in-layout.result in
    let is : g ≡ layout_in r (superblock_at r v) = c.layout_in-layout.ensures ∙ ap (layout_in r) c.superblock_at-block.ensures.0 in
    short g r v (sym c.volume_loan_ok.ensures ∙ c.if-not-volume_loan_ok.false) c.if-r-gt-MOST_RESERVED.false c.if-v-r.false
    c.superblock_at-block.result.now c.superblock_at-block.ensures.0 (sym c.is_zero.ensures ∙ c.if-is_zero.false) (sym c.superblock_ok.ensures ∙ c.if-not-superblock_ok.false)
    c.needed-needed.result c.needed-needed.ensures.0 c.if-v-needed.true
    ∙ ap (λ (x : Layout). query_with x r v) is

pub section_size-staging-requires : goal.section_size-staging-requires
section_size-staging-requires c =
    width-high c.layout_in-layout.result
    (ap layout_ok c.layout_in-layout.ensures ∙ valid-layout c.args.r c.superblock_at-block.result.now (sym c.superblock_ok.ensures ∙ c.if-not-superblock_ok.false))

pub returns : goal.returns
returns c =
    let r = c.args.r in
    let v = c.args.v.now in
    let g = c.layout_in-layout.result in
    let is : g ≡ layout_in r (superblock_at r v) = c.layout_in-layout.ensures ∙ ap (layout_in r) c.superblock_at-block.ensures.0 in
    holds g r v (sym c.volume_loan_ok.ensures ∙ c.if-not-volume_loan_ok.false) c.if-r-gt-MOST_RESERVED.false c.if-v-r.false
    c.superblock_at-block.result.now c.superblock_at-block.ensures.0 (sym c.is_zero.ensures ∙ c.if-is_zero.false) (sym c.superblock_ok.ensures ∙ c.if-not-superblock_ok.false)
    c.needed-needed.result c.section_size-staging.result c.needed-needed.ensures.0 c.if-v-needed.false c.section_size-staging.ensures.0
    ∙ ap (λ (x : Layout). query_with x r v) is
