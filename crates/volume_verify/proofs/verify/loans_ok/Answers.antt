use mathlib.Core.Path.{sym, ◌∙◌}
use Rattle.volume_verify.proofs.verify.loans_ok.Goals as goal

pub returns-then-not-state_ok : goal.returns-then-not-state_ok
returns-then-not-state_ok c = rw (sym c.state_ok.ensures ∙ c.if-not-state_ok.true)

pub volume_ok-requires : goal.volume_ok-requires
volume_ok-requires c = sym c.state_ok.ensures ∙ c.if-not-state_ok.false

pub returns : goal.returns
returns c = rw (sym c.state_ok.ensures ∙ c.if-not-state_ok.false, c.volume_ok.ensures)
