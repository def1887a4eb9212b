use Rattle.layout.proofs.Sizes.{width-high}
use Rattle.sound.proofs.state.staged_stores.Goals as goal

pub entry_sector-requires : goal.entry_sector-requires
entry_sector-requires c = (width-high c.args.g c.requires.0, c.requires.1, c.requires.2)
