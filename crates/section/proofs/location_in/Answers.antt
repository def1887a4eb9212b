use Prim.Native.Nat.{ℕ}
use mathlib.Core.Path.{refl, sym, ap, ◌∙◌, ◌≡◌}
use native.Mathlib.Omega.{arith}
use lib.ListN.{length}
use Rattle.on_disk.specs.Layout.{entry_count}
use Rattle.on_disk.specs.Section.{entry_of}
use Rattle.section.specs.Locations.{stores_below}
use Rattle.layout.proofs.Sizes.{width-high}
use Rattle.section.proofs.Counts.{count-used, count-unused, locates}
use Rattle.section.proofs.location_in.Goals as goal
use Rattle.section.proofs.location_in.Goals.{then-sector+else-left-home, else-sector}

pub entry_count-i-end-requires : goal.entry_count-i-end-requires
entry_count-i-end-requires c = width-high c.args.g c.requires.0

pub entry_sector-sector-requires : goal.entry_sector-sector-requires
entry_sector-sector-requires c = (width-high c.args.g c.requires.0, omega arith, c.requires.1)

pub returns-then-left-home : goal.returns-then-left-home
returns-then-left-home c =
    let turn = c.loop-i in
    let g = c.args.g in
    let section = c.args.section.now in
    let sector = c.entry_sector-sector.ensures in
    let home = c.home_stores-home.ensures.0 (entry_of g.width section turn.i) (sym sector) in
    let here = locates g section (record { section = c.args.from.section; entry = turn.i; store = turn.left }) (omega arith)
    (λ q. c.if-sector.true (sector ∙ q)) (omega (arith, home, c.if-left-home.true)) in
    (here, turn.invariant, refl)

pub loop-i-preserved : goal.loop-i-preserved
loop-i-preserved c =
    let turn = c.loop-i in
    let g = c.args.g in
    let k = c.args.from.section in
    let section = c.args.section.now in
    let sector = c.entry_sector-sector.ensures in
    elim c.if-sector.branch [
      | then-sector+else-left-home w ↦
          omega (arith, w.home_stores-home.ensures.0 (entry_of g.width section turn.i) (sym sector), w.if-left-home.false, w.left-is, turn.invariant, count-used g k section turn.i (λ q. w.if-sector.true (sector ∙ q)))
      | else-sector w ↦ omega (arith, w.left-is, turn.invariant, count-unused g k section turn.i (sym sector ∙ w.if-sector.false))
    ]

pub returns : goal.returns
returns c =
    let turn = c.loop-i in
    let g = c.args.g in
    let all : turn.i ≡ entry_count g.width = omega arith in
    let stores = ap (λ (i : ℕ). length (stores_below g c.args.from.section c.args.section.now i)) all in
    omega (arith, stores, turn.invariant)
