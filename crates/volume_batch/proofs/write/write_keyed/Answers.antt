use mathlib.Core.Path.{sym, ap, ◌∙◌}
use Rattle.model.specs.Keyed.{write_keyed_of}
use Rattle.model.specs.Tag.{Tags}
use Rattle.model.specs.Write.{write_of}
use Rattle.model.proofs.Keyed.{keyed-calls}
use Rattle.sound.specs.declared.tag.Rule.{Rule}
use Rattle.sound.specs.Rule.{tag_by}
use Rattle.sound.proofs.Rules.{keyed-tags}
use Rattle.volume_batch.proofs.write.write_keyed.Goals as goal

pub returns-then-not-loans_ok : goal.returns-then-not-loans_ok
unfolding write_keyed_of
returns-then-not-loans_ok c = rw (sym c.loans_ok.ensures ∙ c.if-not-loans_ok.true)

pub returns-then-not-key_ok : goal.returns-then-not-key_ok
unfolding write_keyed_of
returns-then-not-key_ok c = rw (sym c.loans_ok.ensures ∙ c.if-not-loans_ok.false, sym c.key_ok.ensures ∙ c.if-not-key_ok.true)

pub returns : goal.returns
returns c =
    let a = c.args in
    let key = a.key.now in
    c.write_by.ensures
    ∙ ap (λ (x : Rule). write_of (tag_by x) a.s.now a.st.now a.sector a.bytes.now) c.of_key.ensures
    ∙ ap (λ (tags : Tags). write_of tags a.s.now a.st.now a.sector a.bytes.now) (keyed-tags key)
    ∙ sym ((keyed-calls.taken key (sym c.key_ok.ensures ∙ c.if-not-key_ok.false)).write a.s.now a.st.now a.sector a.bytes.now)
