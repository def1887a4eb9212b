use mathlib.Core.Path.{refl, sym}
use native.Mathlib.Omega.{arith}
use Rattle.model.specs.declared.Phase.TheVariants.{Filling}
use Rattle.model.proofs.States.{state-layout, state-id, state-committing, staged-length, staged-lent, volume-unfit, volume-in}
use Rattle.volume_step.proofs.Steps.{wrong-loan, told, unsound, wrong-volume, wrong-staging, runs, idles}
use Rattle.volume_step.proofs.next_store.next_store.Goals as goal

pub returns-then-out-ne-SECTOR_SIZE : goal.returns-then-out-ne-SECTOR_SIZE
returns-then-out-ne-SECTOR_SIZE c =
    let args = c.args in
    wrong-loan args.s.now args.v.now args.st.now args.out.now (λ z. omega arith)

pub returns-then-not-state_ok : goal.returns-then-not-state_ok
returns-then-not-state_ok c =
    let args = c.args in
    rw (told args.s.now args.v.now args.st.now args.out.now (omega arith)) (unsound args.s.now args.v.now args.st.now args.out.now (cc))

pub layout_fits-requires : goal.layout_fits-requires
layout_fits-requires c = state-layout c.args.s.now (cc)

pub returns-then-not-layout_fits : goal.returns-then-not-layout_fits
returns-then-not-layout_fits c =
    let args = c.args in
    rw (told args.s.now args.v.now args.st.now args.out.now (omega arith))
    (wrong-volume args.s.now args.v.now args.st.now args.out.now (cc) (sym (volume-unfit args.s.now args.v.now (cc))))

pub returns-then-not-staged_ok : goal.returns-then-not-staged_ok
returns-then-not-staged_ok c =
    let args = c.args in
    rw (told args.s.now args.v.now args.st.now args.out.now (omega arith)) (wrong-staging args.s.now args.v.now args.st.now args.out.now (cc) (cc))

pub commit_step-requires : goal.commit_step-requires
commit_step-requires c =
    let s = c.args.s.now in
    let place = state-committing s (cc) _ c.in-Committing.is in
    (record { layout = state-layout s (cc); long = staged-length s c.args.st.now (cc); sector = place.0; id = state-id s (cc) }, place.1, omega arith)

pub write_back_step-requires : goal.write_back_step-requires
write_back_step-requires c =
    ((cc), volume-in c.args.s.now c.args.v.now (cc) _ c.in-WritingBack.is refl, (cc), c.in-WritingBack.is, omega arith)

pub returns-in-Filling : goal.returns-in-Filling
returns-in-Filling c =
    let args = c.args in
    rw (told args.s.now args.v.now args.st.now args.out.now (omega arith))
    (idles args.s.now args.v.now args.st.now args.out.now (cc) (volume-in args.s.now args.v.now (cc) Filling c.in-Filling.is refl) (cc) c.in-Filling.is)

pub returns-in-Committing : goal.returns-in-Committing
returns-in-Committing c =
    let args = c.args in
    rw (told args.s.now args.v.now args.st.now args.out.now (omega arith))
    (runs args.s.now args.v.now args.st.now args.out.now (cc) (volume-in args.s.now args.v.now (cc) _ c.in-Committing.is refl) (cc)
    _ c.in-Committing.is refl _ _ _ args.st.now (c.commit_step.ensures args.v.now))

pub returns-in-WritingBack : goal.returns-in-WritingBack
returns-in-WritingBack c =
    let args = c.args in
    rw (told args.s.now args.v.now args.st.now args.out.now (omega arith)) c.write_back_step.ensures

pub returns-in-Recovering : goal.returns-in-Recovering
returns-in-Recovering c =
    let args = c.args in
    rw (told args.s.now args.v.now args.st.now args.out.now (omega arith)) (c.scan_step.ensures args.st.now (staged-lent args.s.now args.st.now (cc)))
