use mathlib.Core.Path.{sym, ◌∙◌}
use Rattle.model.specs.Write.{write_of}
use Rattle.volume_batch.proofs.write.write.Goals as goal

pub returns-then-not-loans_ok : goal.returns-then-not-loans_ok
unfolding write_of
returns-then-not-loans_ok c = rw (sym c.loans_ok.ensures ∙ c.if-not-loans_ok.true)
