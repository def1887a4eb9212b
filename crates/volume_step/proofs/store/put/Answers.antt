use Prim.Native.Nat.{◌*◌}
use mathlib.Core.Path.{ap, ◌∙◌}
use borrow.Author.Rules.{rules}
use Rattle.octets.specs.Parts.{patch}
use Rattle.octets.proofs.Parts.{part-all}
use Rattle.volume_step.proofs.store.put.Goals as goal

pub returns : goal.returns
returns c =
    let args = c.args in
    c.put_part.ensures ∙ ap (patch args.v.now (args.at * 512)) (part-all args.content.now 512 (search rules))
