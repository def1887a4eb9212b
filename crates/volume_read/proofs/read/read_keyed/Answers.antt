use mathlib.Core.Path.{sym, ap, ◌∙◌}
use Rattle.model.specs.Keyed.{read_keyed_of}
use Rattle.model.specs.Tag.{Tags}
use Rattle.model.specs.Read.{read_of}
use Rattle.model.proofs.Keyed.{keyed-calls}
use Rattle.sound.specs.declared.tag.Rule.{Rule}
use Rattle.sound.specs.Rule.{tag_by}
use Rattle.sound.proofs.Rules.{keyed-tags}
use Rattle.volume_read.proofs.read.read_keyed.Goals as goal

pub returns-then-not-loans_ok : goal.returns-then-not-loans_ok
unfolding read_keyed_of
returns-then-not-loans_ok c = rw (sym c.loans_ok.ensures ∙ c.if-not-loans_ok.true)

pub returns-then-not-key_ok : goal.returns-then-not-key_ok
unfolding read_keyed_of
returns-then-not-key_ok c = rw (sym c.loans_ok.ensures ∙ c.if-not-loans_ok.false, sym c.key_ok.ensures ∙ c.if-not-key_ok.true)

pub returns : goal.returns
returns c =
    let a = c.args in
    c.read_by.ensures
    ∙ ap (λ (x : Rule). read_of (tag_by x) a.s a.v.now a.st.now a.sector a.bytes.now) c.of_key.ensures
    ∙ ap (λ (tags : Tags). read_of tags a.s a.v.now a.st.now a.sector a.bytes.now) (keyed-tags a.key.now)
    ∙ sym ((keyed-calls.taken a.key.now (sym c.key_ok.ensures ∙ c.if-not-key_ok.false)).read a.s a.v.now a.st.now a.sector a.bytes.now)
