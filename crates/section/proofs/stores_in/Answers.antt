use Prim.Native.Nat.{ℕ}
use mathlib.Core.Path.{sym, ap, ◌∙◌, ◌≡◌}
use native.Mathlib.Omega.{arith}
use lib.ListN.{length}
use Rattle.on_disk.specs.Layout.{entry_count}
use Rattle.on_disk.specs.Section.{entry_of}
use Rattle.section.specs.Locations.{stores_below}
use Rattle.layout.proofs.Sizes.{width-high}
use Rattle.section.proofs.Counts.{count-used, count-unused}
use Rattle.section.proofs.stores_in.Goals as goal
use Rattle.section.proofs.stores_in.Goals.{then-sector, else-sector}

pub entry_count-i-end-requires : goal.entry_count-i-end-requires
entry_count-i-end-requires c = width-high c.args.g c.requires.0

pub entry_sector-sector-requires : goal.entry_sector-sector-requires
entry_sector-sector-requires c = (width-high c.args.g c.requires.0, omega arith, c.requires.1)

pub loop-i-preserved : goal.loop-i-preserved
loop-i-preserved c =
    let turn = c.loop-i in
    let g = c.args.g in
    let section = c.args.section.now in
    let i = turn.i in
    elim c.if-sector.branch [
      | then-sector w ↦ (
        omega (arith, w.home_stores-stores.ensures.2, w.stores-is, turn.invariant.0),
        λ k. omega (
          arith,
          w.home_stores-stores.ensures.0 (entry_of g.width section i) (sym c.entry_sector-sector.ensures),
          w.stores-is,
          turn.invariant.1 k,
          count-used g k section i (λ q. w.if-sector.true (c.entry_sector-sector.ensures ∙ q)),
        ),
      )
      | else-sector w ↦ (
        omega arith,
        λ k. omega (arith, w.stores-is, turn.invariant.1 k, count-unused g k section i (sym c.entry_sector-sector.ensures ∙ w.if-sector.false)),
      )
    ]

pub returns : goal.returns
returns c =
    let turn = c.loop-i in
    let g = c.args.g in
    let all : turn.i ≡ entry_count g.width = omega arith in
    ((λ k. turn.invariant.1 k ∙ ap (λ (n : ℕ). length (stores_below g k c.args.section.now n)) all), omega arith)
