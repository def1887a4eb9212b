use mathlib.Core.Path.{refl}
use Rattle.c_tree.proofs.Calls.{build-wrong, build-leaves}
use Rattle.c_tree.proofs.build.Goals as goal

pub returns-then-root-digest_size : goal.returns-then-root-digest_size
returns-then-root-digest_size c = build-wrong _ _ _ _ _ c.digest_size.ensures c.wrong_length.ensures c.if-root-digest_size.true

pub returns-in-Ok : goal.returns-in-Ok
returns-in-Ok c = build-leaves _ _ _ _ _ c.digest_size.ensures _ c.if-root-digest_size.false c.in-Ok.ensures c.done.ensures c.put_digest.ensures

pub returns-in-Err : goal.returns-in-Err
returns-in-Err c = build-leaves _ _ _ _ _ c.digest_size.ensures _ c.if-root-digest_size.false c.in-Err.ensures c.from.ensures refl
