use mathlib.Core.Path.{sym, ◌∙◌}
use Rattle.model.proofs.States.{state-layout, state-writing-back, staging-length}
use Rattle.sound.proofs.state.staged_ok.Goals as goal

pub staging_ok-requires : goal.staging_ok-requires
staging_ok-requires c = state-layout c.args.s c.requires

pub staged_stores-requires : goal.staged_stores-requires
staged_stores-requires c = (
  state-layout c.args.s c.requires,
  (state-writing-back c.args.s c.requires _ _ c.in-WritingBack.is).1,
  staging-length c.args.s.layout c.args.st.now (sym c.staging_ok.ensures ∙ c.if-not-staging_ok.false),
)
