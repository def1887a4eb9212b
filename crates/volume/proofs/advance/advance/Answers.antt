use Rattle.volume.proofs.Advancing.{made-rest}
use Rattle.volume.proofs.advance.advance.Goals as goal

pub returns-in-Recovering : goal.returns-in-Recovering
returns-in-Recovering c =
    let recovered = c.recover-last in
    made-rest _ _ _ recovered.result.done c.args.n recovered.ensures.1 recovered.ensures.0 c.steps-in-Recovering.ensures
