use Rattle.std.proofs.lemmas.Result.{err_from_is_err_and}
use Rattle.digest.proofs.Closing.{whole-past, whole-fits}
use Rattle.digest.proofs.sha256.Goals as goal

pub returns-in_err-update : goal.returns-in_err-update
returns-in_err-update c =
    let e = err_from_is_err_and c.from_residual.result c.from_residual.ensures.1 in
    rw e.1 (whole-past c.args.message.now c.fresh.result c.fresh.ensures c.in_err-update.ensures)

pub returns : goal.returns
returns c = whole-fits c.args.message.now c.fresh.result c.fresh.ensures c.in_ok-update.field-0 _ c.in_ok-update.ensures c.finish.ensures
