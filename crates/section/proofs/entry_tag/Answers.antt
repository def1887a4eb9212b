use Prim.Native.Nat.{◌+◌}
use mathlib.Core.Path.{◌∙◌}
use native.Mathlib.Omega.{arith}
use Rattle.octets.proofs.Slices.{lent}
use Rattle.section.proofs.Entries.{tag_read}
use Rattle.section.proofs.entry_tag.Goals as goal

pub returns : goal.returns
returns c =
    let part = lent c.args.section.now (c.entry_at-start.result + 16) c.args.t (omega arith) in
    (part.0 ∙ tag_read c.args.t c.args.i c.requires.0 c.requires.1 c.args.section.now c.entry_at-start.result c.entry_at-start.ensures.0, part.1)
