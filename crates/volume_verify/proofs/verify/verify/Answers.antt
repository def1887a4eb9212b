use mathlib.Core.Path.{sym, ◌∙◌}
use Rattle.model.specs.Verify.{verify_of}
use Rattle.volume_verify.proofs.verify.verify.Goals as goal

pub returns-then-not-loans_ok : goal.returns-then-not-loans_ok
unfolding verify_of
returns-then-not-loans_ok c = rw (sym c.loans_ok.ensures ∙ c.if-not-loans_ok.true)
