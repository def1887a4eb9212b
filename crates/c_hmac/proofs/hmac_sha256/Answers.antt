use Rattle.c_hmac.proofs.Calls.{hmac-wrong, hmac-refused, hmac-done}
use Rattle.c_hmac.proofs.hmac_sha256.Goals as goal

pub returns-then-digest-digest_size : goal.returns-then-digest-digest_size
returns-then-digest-digest_size c = hmac-wrong c.args.key.now c.args.message.now c.args.digest.now c.digest_size.ensures c.wrong_length.ensures c.if-digest-digest_size.true

pub returns-in-Err : goal.returns-in-Err
returns-in-Err c = hmac-refused c.args.key.now c.args.message.now c.args.digest.now c.digest_size.ensures c.if-digest-digest_size.false c.in-Err.e c.in-Err.ensures c.from.ensures

pub returns-in-Ok : goal.returns-in-Ok
returns-in-Ok c = hmac-done c.args.key.now c.args.message.now c.args.digest.now c.digest_size.ensures c.if-digest-digest_size.false c.in-Ok.ensures c.done.ensures c.put_digest.ensures
