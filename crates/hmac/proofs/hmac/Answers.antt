use mathlib.Core.Path.{sym, ◌∙◌}
use native.Mathlib.Omega.{arith}
use Rattle.hmac.proofs.Calls.{key-refused, message-refused, given}
use Rattle.hmac.proofs.hmac.Goals as goal

pub returns-then-not-key_ok : goal.returns-then-not-key_ok
returns-then-not-key_ok c = key-refused c.args.key.now c.args.message.now (sym c.key_ok.ensures ∙ c.if-not-key_ok.true)

pub returns-then-message-gt-MESSAGE_LIMIT : goal.returns-then-message-gt-MESSAGE_LIMIT
returns-then-message-gt-MESSAGE_LIMIT c = message-refused c.args.key.now c.args.message.now (sym c.key_ok.ensures ∙ c.if-not-key_ok.false) (omega arith)

pub returns : goal.returns
returns c = given c.args.key.now c.args.message.now c.keep.result c.mac_of_two.result (sym c.key_ok.ensures ∙ c.if-not-key_ok.false) (omega arith) c.keep.ensures c.mac_of_two.ensures.0
