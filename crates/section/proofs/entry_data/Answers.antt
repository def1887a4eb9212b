use Rattle.section.proofs.Entries.{data-read}
use Rattle.section.proofs.entry_data.Goals as goal

pub returns : goal.returns
returns c =
    data-read c.args.t c.args.i c.requires.0 c.requires.1 c.args.section.now c.entry_at-at.result c.entry_at-at.ensures.0 c.requires.2
    c.args.bytes.now _ _ c.requires.3 c.copy_at.ensures c.copy_at-2.ensures
