use borrow.Author.Rules.{rules}
use Rattle.volume_step.proofs.Making.{inside-volume, step-made}
use Rattle.volume_step.proofs.step.step_through.Goals as goal

pub make-requires : goal.make-requires
make-requires c =
    let args = c.args in
    let next-store = c.next_store-answer in
    inside-volume args.s.now args.v.now args.st.now _ (search rules) next-store.result _ _ _ next-store.ensures

pub returns : goal.returns
returns c =
    let args = c.args in
    let next-store = c.next_store-answer in
    step-made args.s.now args.v.now args.st.now _ (search rules) next-store.result _ _ _ next-store.ensures _ c.make.ensures
