use mathlib.Core.Path.{sym, ap, ◌∙◌}
use Rattle.model.specs.Tag.{Tags}
use Rattle.model.specs.Verify.{verify_of, verify_keyed_of}
use Rattle.model.proofs.Verify.{verifies-keyed}
use Rattle.sound.specs.declared.tag.Rule.{Rule}
use Rattle.sound.specs.Rule.{tag_by}
use Rattle.sound.proofs.Rules.{keyed-tags}
use Rattle.volume_verify.proofs.verify.verify_keyed.Goals as goal

pub returns-then-not-loans_ok : goal.returns-then-not-loans_ok
unfolding verify_keyed_of
returns-then-not-loans_ok c = rw (sym c.loans_ok.ensures ∙ c.if-not-loans_ok.true)

pub returns-then-not-key_ok : goal.returns-then-not-key_ok
unfolding verify_keyed_of
returns-then-not-key_ok c = rw (sym c.loans_ok.ensures ∙ c.if-not-loans_ok.false, sym c.key_ok.ensures ∙ c.if-not-key_ok.true)

pub returns : goal.returns
returns c =
    let a = c.args in
    c.verify_by.ensures
    ∙ ap (λ (x : Rule). verify_of (tag_by x) a.s a.v.now a.first a.count) c.of_key.ensures
    ∙ ap (λ (tags : Tags). verify_of tags a.s a.v.now a.first a.count) (keyed-tags a.key.now)
    ∙ sym (verifies-keyed.taken a.key.now (sym c.key_ok.ensures ∙ c.if-not-key_ok.false) a.s a.v.now a.first a.count)
