use Rattle.c_digest.proofs.Calls.{new-wrong, new-done}
use Rattle.c_digest.proofs.new.Goals as goal

pub returns-then-state-digest_state_size : goal.returns-then-state-digest_state_size
returns-then-state-digest_state_size c = new-wrong c.args.state.now c.digest_state_size.ensures c.wrong_length.ensures c.if-state-digest_state_size.true

pub returns : goal.returns
returns c = new-done c.args.state.now c.digest_state_size.ensures c.if-state-digest_state_size.false c.done.ensures c.fresh.ensures c.encode.ensures
