use mathlib.Core.Path.{sym, ◌∙◌}
use Rattle.model.proofs.States.{state-layout, fit-room}
use Rattle.sound.proofs.state.volume_ok.Goals as goal

pub layout_fits-requires : goal.layout_fits-requires
layout_fits-requires c = state-layout c.args.s c.requires

pub recovery_steps-requires : goal.recovery_steps-requires
recovery_steps-requires c =
    let s = c.args.s in
    (state-layout s c.requires, fit-room s c.args.v.now (sym c.layout_fits.ensures ∙ c.if-not-layout_fits.false))
