use mathlib.Core.Path.{ap}
use native.Mathlib.Omega.{arith}
use Rattle.model.specs.declared.Advanced.{Advanced}
use Rattle.volume.specs.Results.{advanced}
use Rattle.volume.proofs.Advancing.{made_none, made_more, made_all}
use Rattle.volume.proofs.advance.steps.Goals as goal

pub loop-init : goal.loop-init
loop-init c = (omega arith, made_none _)

pub returns-then-done_in-eq0 : goal.returns-then-done_in-eq0
returns-then-done_in-eq0 c =
    let args = c.args in
    let turn = c.loop in
    let more = c.one_more-last in
    made_all turn.last more.result _ more.ensures turn.s turn.v turn.st _ _ _ c.step_through-answer.ensures.0
    (advanced args.before args.s.now args.v.now args.st.now) turn.counter turn.invariant.1 args.n (omega arith) (omega arith)

pub loop-preserved : goal.loop-preserved
loop-preserved c =
    let args = c.args in
    let turn = c.loop in
    let more = c.one_more-last in (
      omega (arith, ap (λ (a : Advanced). a.done) more.ensures),
      made_more turn.last more.result _ more.ensures turn.s turn.v turn.st _ _ _ c.step_through-answer.ensures.0
          (advanced args.before args.s.now args.v.now args.st.now) turn.counter turn.invariant.1,
    )
