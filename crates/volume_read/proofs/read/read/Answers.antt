use mathlib.Core.Path.{sym, ◌∙◌}
use Rattle.model.specs.Read.{read_of}
use Rattle.volume_read.proofs.read.read.Goals as goal

pub returns-then-not-loans_ok : goal.returns-then-not-loans_ok
unfolding read_of
returns-then-not-loans_ok c = rw (sym c.loans_ok.ensures ∙ c.if-not-loans_ok.true)
