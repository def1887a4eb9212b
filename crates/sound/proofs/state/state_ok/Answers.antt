use mathlib.Core.Path.{sym, ◌∙◌}
use Rattle.layout.proofs.Sizes.{width-high}
use Rattle.sound.proofs.state.state_ok.Goals as goal

pub entry_count-requires : goal.entry_count-requires
entry_count-requires c = width-high c.args.s.layout (sym c.layout_ok.ensures ∙ c.if-layout_ok.true)
