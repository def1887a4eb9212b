use Rattle.std.proofs.Common.{arith}
use Rattle.std.proofs.lemmas.Grind.{common_steps}
use Rattle.octets.proofs.Slices.{lent-rest}
use Rattle.layout.proofs.Fields.{valid}
use Rattle.layout.proofs.superblock.superblock_ok.Goals as goal

pub returns-then-is_zero : goal.returns-then-is_zero
returns-then-is_zero c =
    let whole = valid c.args.r c.args.b.now (record { below = λ i. omega (arith, c.type_inv.b i) }) c.requires in
    let rest = lent-rest c.args.b.now 24 in
    grind (arith, common_steps, whole, rest)

pub returns-else-is_zero : goal.returns-else-is_zero
returns-else-is_zero c =
    let whole = valid c.args.r c.args.b.now (record { below = λ i. omega (arith, c.type_inv.b i) }) c.requires in
    let rest = lent-rest c.args.b.now 24 in
    grind (arith, common_steps, whole, rest)
