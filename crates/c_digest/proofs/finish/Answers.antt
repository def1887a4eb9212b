use Rattle.c_digest.proofs.Calls.{finish-wrong-state, finish-wrong-digest, finish-refused, finish-done}
use Rattle.c_digest.proofs.finish.Goals as goal

pub returns-then-state-digest_state_size : goal.returns-then-state-digest_state_size
returns-then-state-digest_state_size c = finish-wrong-state c.args.state.now c.args.digest.now c.digest_state_size.ensures c.wrong_length.ensures c.if-state-digest_state_size.true

pub returns-then-digest-digest_size : goal.returns-then-digest-digest_size
returns-then-digest-digest_size c = finish-wrong-digest c.args.state.now c.args.digest.now c.digest_state_size.ensures c.if-state-digest_state_size.false c.digest_size.ensures c.wrong_length-then-digest-digest_size.ensures c.if-digest-digest_size.true

pub returns-in-Err : goal.returns-in-Err
returns-in-Err c = finish-refused c.args.state.now c.args.digest.now c.digest_state_size.ensures c.if-state-digest_state_size.false c.digest_size.ensures c.if-digest-digest_size.false c.decode.ensures c.in-Err.e c.in-Err.ensures c.from.ensures

pub returns-in-Ok : goal.returns-in-Ok
returns-in-Ok c = finish-done c.args.state.now c.args.digest.now c.digest_state_size.ensures c.if-state-digest_state_size.false c.digest_size.ensures c.if-digest-digest_size.false c.decode.ensures c.in-Ok.ensures c.done.ensures c.put_digest.ensures
