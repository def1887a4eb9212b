use native.Mathlib.Omega.{arith}
use Rattle.section.proofs.Entries.{address}
use Rattle.section.proofs.entry_at.Goals as goal

pub returns : goal.returns
returns c =
    let at = address c.args.t c.args.i c.requires.0 c.requires.1 c.per_sector-per.result c.entry_size.result c.per_sector-per.ensures.0 c.entry_size.ensures.0 in
    omega arith
