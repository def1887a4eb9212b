use mathlib.Core.Path.{sym, ◌∙◌}
use Rattle.volume_read.proofs.read.loans_ok.Goals as goal

pub returns-then-not-state_ok : goal.returns-then-not-state_ok
returns-then-not-state_ok c = rw (sym c.state_ok.ensures ∙ c.if-not-state_ok.true)

pub volume_ok-volume-requires : goal.volume_ok-volume-requires
volume_ok-volume-requires c = sym c.state_ok.ensures ∙ c.if-not-state_ok.false

pub staged_ok-staging-requires : goal.staged_ok-staging-requires
staged_ok-staging-requires c = sym c.state_ok.ensures ∙ c.if-not-state_ok.false

pub returns : goal.returns
returns c = rw (sym c.state_ok.ensures ∙ c.if-not-state_ok.false, c.volume_ok-volume.ensures, c.staged_ok-staging.ensures)
