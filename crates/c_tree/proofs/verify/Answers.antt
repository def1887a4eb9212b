use mathlib.Core.Path.{refl}
use Rattle.c_tree.proofs.Calls.{verify-wrong, verify-leaves}
use Rattle.c_tree.proofs.verify.Goals as goal

pub returns-then-level-level_size : goal.returns-then-level-level_size
returns-then-level-level_size c = verify-wrong _ _ _ _ _ _ _ c.level_size.ensures c.wrong_length.ensures c.if-level-level_size.true

pub returns-in-Ok : goal.returns-in-Ok
returns-in-Ok c = verify-leaves _ _ _ _ _ _ _ c.level_size.ensures _ c.if-level-level_size.false c.in-Ok.ensures c.done.ensures refl

pub returns-in-Err : goal.returns-in-Err
returns-in-Err c = verify-leaves _ _ _ _ _ _ _ c.level_size.ensures _ c.if-level-level_size.false c.in-Err.ensures c.from.ensures c.put_level.ensures
