use Rattle.layout.proofs.Sizes.{width-high}
use Rattle.sound.proofs.state.place_ok.Goals as goal

pub section_size-requires : goal.section_size-requires
section_size-requires c = width-high c.args.g c.requires
