use Rattle.c_digest.proofs.Calls.{update-wrong, update-refused, update-done}
use Rattle.c_digest.proofs.update.Goals as goal

pub returns-then-state-digest_state_size : goal.returns-then-state-digest_state_size
returns-then-state-digest_state_size c = update-wrong c.args.state.now c.args.piece.now c.digest_state_size.ensures c.wrong_length.ensures c.if-state-digest_state_size.true

pub returns-in-Err : goal.returns-in-Err
returns-in-Err c = update-refused c.args.state.now c.args.piece.now c.digest_state_size.ensures c.if-state-digest_state_size.false c.decode.ensures c.in-Err.e c.in-Err.ensures c.from.ensures

pub returns-in-Ok : goal.returns-in-Ok
returns-in-Ok c = update-done c.args.state.now c.args.piece.now c.digest_state_size.ensures c.if-state-digest_state_size.false c.decode.ensures c.in-Ok.ensures c.done.ensures c.encode.ensures
