use Prim.Native.Nat.{◌+◌}
use mathlib.Core.Path.{sym, ◌∙◌}
use native.Mathlib.Omega.{arith}
use borrow.Author.Count.{below_more}
use Rattle.model.specs.Verify.{tag_fits}
use Rattle.sound.specs.Rule.{tag_by}
use Rattle.volume_verify.proofs.Verifying.{first-unfit, all-fit}
use Rattle.volume_verify.proofs.verify.verify_tags.Goals as goal

pub returns-then-not-tag_fits : goal.returns-then-not-tag_fits
returns-then-not-tag_fits c =
    let a = c.args in
    first-unfit (λ i. tag_fits (tag_by a.rule) a.g a.v.now (a.first + i)) a.first a.count c.loop-i.i c.loop-i-test.true (sym c.tag_fits.ensures ∙ c.if-not-tag_fits.true) c.loop-i.invariant

pub loop-i-preserved : goal.loop-i-preserved
loop-i-preserved c = below_more _ _ c.loop-i.invariant (sym c.tag_fits.ensures ∙ c.if-not-tag_fits.false)

pub returns : goal.returns
returns c =
    let a = c.args in
    all-fit (λ i. tag_fits (tag_by a.rule) a.g a.v.now (a.first + i)) a.first a.count (λ j l. c.loop-i.invariant j (omega arith))
