use mathlib.Core.Path.{sym, ◌∙◌, ap}
use native.Mathlib.Omega.{arith}
use Rattle.on_disk.specs.Superblock.{is_zero}
use Rattle.layout.proofs.Sizes.{width-high}
use Rattle.model.proofs.Demand3.{length-tags_by}
use Rattle.sound.specs.Rule.{digest_by, tag_by}
use Rattle.volume_format.proofs.Formats.{wrong-loan, wrong-layout, too_short, not-zero, formatted, all-stored}
use Rattle.volume_format.proofs.format.format_by.Goals as goal

pub returns-then-not-volume_loan_ok : goal.returns-then-not-volume_loan_ok
returns-then-not-volume_loan_ok c = wrong-loan (tag_by c.args.rule) c.args.g c.args.v.now (sym c.volume_loan_ok.ensures ∙ c.if-not-volume_loan_ok.true)

pub returns-then-not-layout_ok : goal.returns-then-not-layout_ok
returns-then-not-layout_ok c = wrong-layout (tag_by c.args.rule) c.args.g c.args.v.now (sym c.volume_loan_ok.ensures ∙ c.if-not-volume_loan_ok.false) (sym c.layout_ok.ensures ∙ c.if-not-layout_ok.true)

pub needed-needed-requires : goal.needed-needed-requires
needed-needed-requires c = sym c.layout_ok.ensures ∙ c.if-not-layout_ok.false

pub returns-then-v-needed : goal.returns-then-v-needed
returns-then-v-needed c = too_short (tag_by c.args.rule) c.args.g c.args.v.now (sym c.volume_loan_ok.ensures ∙ c.if-not-volume_loan_ok.false) (sym c.layout_ok.ensures ∙ c.if-not-layout_ok.false) c.needed-needed.result c.needed-needed.ensures.0 c.if-v-needed.true

pub returns-then-not-is_zero : goal.returns-then-not-is_zero
returns-then-not-is_zero c = not-zero (tag_by c.args.rule) c.args.g c.args.v.now (sym c.volume_loan_ok.ensures ∙ c.if-not-volume_loan_ok.false) (sym c.layout_ok.ensures ∙ c.if-not-layout_ok.false) (omega (arith, c.needed-needed.ensures.0)) (sym (c.is_zero.ensures ∙ ap is_zero c.superblock_at.ensures.0) ∙ c.if-not-is_zero.true)

pub put_head-requires : goal.put_head-requires
put_head-requires c = (sym c.layout_ok.ensures ∙ c.if-not-layout_ok.false, omega (arith, c.needed-needed.ensures.0))

pub put_tail-requires : goal.put_tail-requires
put_tail-requires c = (sym c.layout_ok.ensures ∙ c.if-not-layout_ok.false, omega (arith, c.needed-needed.ensures.0, c.put_head.auto.v), c.requires)

pub returns : goal.returns
returns c =
    formatted (tag_by c.args.rule) c.args.g c.args.v.now (sym c.volume_loan_ok.ensures ∙ c.if-not-volume_loan_ok.false) (sym c.layout_ok.ensures ∙ c.if-not-layout_ok.false) (omega (arith, c.needed-needed.ensures.0)) c.put_tail.new.v (sym (c.is_zero.ensures ∙ ap is_zero c.superblock_at.ensures.0) ∙ c.if-not-is_zero.false)
    (all-stored c.args.g (sym c.layout_ok.ensures ∙ c.if-not-layout_ok.false) c.args.v.now (omega (arith, c.needed-needed.ensures.0)) (tag_by c.args.rule c.args.g.width) (length-tags_by (digest_by c.args.rule) c.requires c.args.g.width (width-high c.args.g (sym c.layout_ok.ensures ∙ c.if-not-layout_ok.false))) c.put_head.new.v c.put_tail.new.v c.put_head.ensures c.put_tail.ensures)
