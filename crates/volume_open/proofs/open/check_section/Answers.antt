use mathlib.Core.Path.{◌≡◌, ap, ◌∙◌}
use native.Mathlib.Omega.{arith}
use Rattle.layout.proofs.Sizes.{width-high}
use Rattle.on_disk.specs.Layout.{entry_count}
use Rattle.model.specs.Refusal.{plain_answer}
use Rattle.sound.specs.Rule.{tag_by}
use Rattle.volume_open.proofs.Checks.{used_at, entries-more, entries-stop}
use Rattle.volume_open.proofs.open.check_section.Goals as goal

pub entry_count-i-end-requires : goal.entry_count-i-end-requires
entry_count-i-end-requires c = width-high c.args.g c.requires.0

pub returns-in_err-check_entry : goal.returns-in_err-check_entry
returns-in_err-check_entry c =
    let a = c.args in
    let same : c.from_residual.result ≡ c.check_entry.result = grind arith in
    ap plain_answer same
    ∙ entries-stop (tag_by a.rule a.g.width) a.g (used_at a.g a.section.now a.k) c.loop-i.i c.check_entry.result c.loop-i.invariant c.check_entry.ensures
    _ c.in_err-check_entry.was (entry_count a.g.width) (omega (arith, c.loop-i-test.true, c.entry_count-i-end.ensures.0))

pub loop-i-preserved : goal.loop-i-preserved
loop-i-preserved c =
    let a = c.args in
    entries-more (tag_by a.rule a.g.width) a.g (used_at a.g a.section.now a.k) c.loop-i.i c.check_entry.result c.loop-i.invariant c.check_entry.ensures c.in_ok-check_entry.was
