use Prim.Native.Nat.{ℕ}
use mathlib.Core.Path.{ap, ◌∙◌, ◌≡◌}
use native.Mathlib.Numerals.{add-one}
use native.Mathlib.Omega.{arith}
use Rattle.octets.specs.Sectors.{sector_at}
use Rattle.on_disk.specs.Section.{id_of}
use Rattle.model.specs.Journal.{greatest_in}
use Rattle.octets.specs.Lists.{greatest}
use Rattle.on_disk.specs.Layout.{section_size}
use Rattle.section.proofs.greatest_in.Goals as goal

pub loop-j-preserved : goal.loop-j-preserved
loop-j-preserved c = rw add-one cc

pub returns : goal.returns
unfolding greatest_in
returns c =
    let all : c.loop-j.j ≡ section_size c.args.t = omega arith in
    c.loop-j.invariant ∙ ap (λ (n : ℕ). greatest n (λ i. id_of (sector_at c.args.section.now i))) all
