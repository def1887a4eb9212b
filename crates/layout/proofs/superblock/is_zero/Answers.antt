use Rattle.std.proofs.Common.{rules, tests, ◌∙◌, ◌==◌}
use Rattle.std.proofs.lemmas.Iterator.{YieldsList-from_slice}
use Rattle.std.proofs.lemmas.Iterator.Search.{all_from_yields_List}
use Rattle.layout.proofs.Fields.{zeros}
use Rattle.layout.proofs.superblock.is_zero.Goals as goal

pub returns : goal.returns
returns c =
    all_from_yields_List (λ x. x == 0) _ _ _ c.all.ensures.ran (YieldsList-from_slice c.args.b.now cc) (λ x b q k. search (rules, tests))
    ∙ zeros c.args.b.now
