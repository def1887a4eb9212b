use Rattle.sound.proofs.Rules.{rules-ok}
use Rattle.volume_format.proofs.format.format.Goals as goal

pub format_by-requires : goal.format_by-requires
format_by-requires c = rules-ok.0
