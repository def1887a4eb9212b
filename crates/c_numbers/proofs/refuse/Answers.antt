use mathlib.Core.List.{[], ◌∷◌}
use mathlib.Core.Path.{sym}
use Rattle.c_numbers.specs.Called.{no_values}
use Rattle.c_numbers.proofs.NumberBytes.{all-written}
use Rattle.c_numbers.proofs.refuse.Goals as goal

pub returns : goal.returns
unfolding no_values
returns c = (c.wrong_length.ensures, all-written c.args.answer.now _ (0 ∷ 0 ∷ 0 ∷ 0 ∷ 0 ∷ []) (sym c.requires) c.put_numbers.ensures)
