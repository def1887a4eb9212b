use native.Mathlib.Omega.{arith}
use Rattle.model.proofs.States.{state-layout, fit-room}
use Rattle.volume.proofs.Advancing.{begins, ok-here, continues, is-next, there, low, entry_here, again}
use Rattle.volume.proofs.advance.replay_from.Goals as goal

pub locate-x-requires : goal.locate-x-requires
locate-x-requires c =
    let args = c.args in
    let pre = c.requires in
    (state-layout args.s.now pre.1, fit-room args.s.now args.v.now pre.2, pre.4)

pub loop-init : goal.loop-init
loop-init c =
    let args = c.args in
    (omega arith, omega arith, begins args.before args.s.now args.k args.v.now args.ids.now c.requires c.locate-x.result c.locate-x.ensures 0)

pub sector_of-sector-requires : goal.sector_of-sector-requires
sector_of-sector-requires c =
    let u = c.loop.invariant.2 in
    let entry = is-next u c.if-x-g.false in
    ((ok-here u).0, (ok-here u).1, entry, (there u entry).1.entry)

pub replayed_part-p-requires : goal.replayed_part-p-requires
replayed_part-p-requires c =
    let u = c.loop.invariant.2 in
    let more = is-next u c.if-x-g.false in
    (entry_here u more c.sector_of-sector.result c.sector_of-sector.ensures c.if-g-sector.false, (ok-here u).1, more)

pub next_location-next-requires : goal.next_location-next-requires
next_location-next-requires c =
    let u = c.loop.invariant.2 in
    continues u (is-next u c.if-x-g.false)

pub loop-preserved : goal.loop-preserved
loop-preserved c =
    let u = c.loop.invariant.2 in
    let l = is-next u c.if-x-g.false in
    let filled = c.replayed_part-p in (
      omega arith,
      omega (arith, low u l),
      again u l c.sector_of-sector.result c.sector_of-sector.ensures c.if-g-sector.false filled.result _ filled.ensures _ c.put_part.ensures
          c.next_location-next.result c.next_location-next.ensures,
    )
