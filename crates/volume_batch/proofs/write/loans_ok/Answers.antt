use mathlib.Core.Path.{sym, ◌∙◌}
use Rattle.model.proofs.States.{state-layout}
use Rattle.volume_batch.proofs.write.loans_ok.Goals as goal

pub staging_ok-staging-requires : goal.staging_ok-staging-requires
staging_ok-staging-requires c = state-layout c.args.s (sym c.state_ok.ensures ∙ c.if-not-state_ok.false)
