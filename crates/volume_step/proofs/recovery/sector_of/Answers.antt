use Rattle.layout.proofs.Sizes.{width-high}
use Rattle.volume_step.proofs.recovery.sector_of.Goals as goal

pub entry_sector-requires : goal.entry_sector-requires
entry_sector-requires c = (width-high c.args.g c.requires.0, c.requires.3, c.section_of.ensures.1)
