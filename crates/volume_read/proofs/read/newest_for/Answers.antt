use Prim.Native.Nat.{◌-◌}
use mathlib.Core.Path.{◌≡◌, sym, ap, ◌∙◌}
use native.Mathlib.Omega.{arith}
use Rattle.octets.proofs.Lists.{below-some, below-none}
use Rattle.octets.specs.Lists.{if_below}
use Rattle.model.specs.Read.{newest_for}
use Rattle.volume_read.proofs.Reading.{newest-hit, newest-miss}
use Rattle.volume_read.proofs.read.newest_for.Goals as goal

pub returns-then-entry_sector-sector : goal.returns-then-entry_sector-sector
returns-then-entry_sector-sector c =
    let a = c.args in
    let i = c.loop-i.i - 1 in
    let hit : i ≡ newest_for a.t a.st.now a.c a.c a.sector = newest-hit a.t a.c a.sector c.loop-i.i a.st.now (omega arith) (sym c.entry_sector.ensures ∙ c.if-entry_sector-sector.true) ∙ sym c.loop-i.invariant in
    sym (below-some a.c i (omega arith)) ∙ ap (if_below a.c) hit

pub loop-i-preserved : goal.loop-i-preserved
loop-i-preserved c =
    c.loop-i.invariant
    ∙ newest-miss c.args.t c.args.c c.args.sector c.loop-i.i c.args.st.now (omega arith) (λ q. c.if-entry_sector-sector.false (c.entry_sector.ensures ∙ q))

pub returns : goal.returns
returns c =
    let a = c.args in
    let done : c.loop-i.i ≡ 0 = omega arith in
    let none : newest_for a.t a.st.now a.c a.c a.sector ≡ a.c = rw done at c.loop-i.invariant in
    sym (rw none (below-none a.c a.c (omega arith)))
