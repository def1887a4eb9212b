use mathlib.Core.Path.{refl}
use Rattle.model.proofs.States.{state-layout, fit-room}
use Rattle.volume.proofs.Advancing.{unmoved}
use Rattle.volume.proofs.advance.recover.Goals as goal

pub returns-then-not-state_ok : goal.returns-then-not-state_ok
returns-then-not-state_ok c =
    let args = c.args in
    unmoved args.before args.s.now args.v.now args.st.now args.n c.requires.0

pub layout_fits-requires : goal.layout_fits-requires
layout_fits-requires c = state-layout c.args.s.now (cc)

pub returns-then-not-layout_fits : goal.returns-then-not-layout_fits
returns-then-not-layout_fits c =
    let args = c.args in
    unmoved args.before args.s.now args.v.now args.st.now args.n c.requires.0

pub staging_ok-requires : goal.staging_ok-requires
staging_ok-requires c = state-layout c.args.s.now (cc)

pub returns-then-not-staging_ok : goal.returns-then-not-staging_ok
returns-then-not-staging_ok c =
    let args = c.args in
    unmoved args.before args.s.now args.v.now args.st.now args.n c.requires.0

pub scan-requires : goal.scan-requires
scan-requires c = (state-layout c.args.s.now (cc), fit-room c.args.s.now c.args.v.now (cc), refl)
