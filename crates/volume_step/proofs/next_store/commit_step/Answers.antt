use native.Mathlib.Omega.{arith}
use Rattle.layout.proofs.Sizes.{width-high}
use Rattle.volume_step.proofs.Steps.{goes_on, ends}
use Rattle.volume_step.proofs.next_store.commit_step.Goals as goal

pub section_size-requires : goal.section_size-requires
section_size-requires c = width-high c.args.s.now.layout c.requires.0.layout

pub returns-then-j-section_size : goal.returns-then-j-section_size
returns-then-j-section_size c =
    let args = c.args in
    λ v. rw (c.stored.ensures.0, c.stored.ensures.1) (goes_on args.s.now v args.st.now args.out.now args.j _ _ (c.commit_store-at.ensures v) (omega arith))

pub returns : goal.returns
returns c =
    let args = c.args in
    λ v. ends args.s.now v args.st.now args.out.now args.j _ _ (c.commit_store-at.ensures v) (omega arith)
