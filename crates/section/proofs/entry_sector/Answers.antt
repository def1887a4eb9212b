use mathlib.Core.Path.{◌∙◌}
use Rattle.section.proofs.Entries.{sector-read}
use Rattle.section.proofs.entry_sector.Goals as goal

pub returns : goal.returns
returns c =
    c.number.ensures.0 ∙ sector-read c.args.t c.args.i c.requires.0 c.requires.1 c.args.section.now c.entry_at.result c.entry_at.ensures.0
