use Rattle.c_digest.proofs.Calls.{sha256-wrong, sha256-refused, sha256-done}
use Rattle.c_digest.proofs.sha256.Goals as goal

pub returns-then-digest-digest_size : goal.returns-then-digest-digest_size
returns-then-digest-digest_size c = sha256-wrong c.args.message.now c.args.digest.now c.digest_size.ensures c.wrong_length.ensures c.if-digest-digest_size.true

pub returns-in-Err : goal.returns-in-Err
returns-in-Err c = sha256-refused c.args.message.now c.args.digest.now c.digest_size.ensures c.if-digest-digest_size.false c.in-Err.e c.in-Err.ensures c.from.ensures

pub returns-in-Ok : goal.returns-in-Ok
returns-in-Ok c = sha256-done c.args.message.now c.args.digest.now c.digest_size.ensures c.if-digest-digest_size.false c.in-Ok.ensures c.done.ensures c.put_digest.ensures
