use native.Mathlib.Omega.{arith}
use mathlib.Core.Path.{refl}
use Rattle.c_numbers.proofs.NumberBytes.{all-written}
use Rattle.c_replies.specs.Replies.{answer_bytes_of}
use Rattle.c_replies.proofs.put_reply.Goals as goal

pub returns : goal.returns
unfolding answer_bytes_of
returns c = (refl, all-written c.args.answer.now _ c.args.r.answer (omega arith) c.put_numbers.ensures)
