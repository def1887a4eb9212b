use mathlib.Core.Path.{◌∙◌}
use Rattle.section.proofs.Entries.{id-part}
use Rattle.section.proofs.id_at.Goals as goal

pub returns : goal.returns
returns c =
    c.number.ensures.0 ∙ id-part c.args.section.now c.args.j
