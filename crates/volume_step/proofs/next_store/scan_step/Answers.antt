use Prim.Native.Nat.{◌+◌}
use mathlib.Core.Path.{refl}
use Rattle.journal.proofs.Walks.{located-low}
use Rattle.journal.proofs.Recovery.{step-located, step_past, step-there}
use Rattle.model.proofs.States.{state-layout, fit-room, volume-below, volume-past}
use Rattle.volume_step.proofs.Steps.{wrong-volume}
use Rattle.volume_step.proofs.next_store.scan_step.Goals as goal

pub scan-requires : goal.scan-requires
scan-requires c =
    (state-layout c.args.s.now c.requires.0, fit-room c.args.s.now c.args.v.now c.requires.1, refl)

pub locate-x-requires : goal.locate-x-requires
locate-x-requires c =
    (state-layout c.args.s.now c.requires.0, fit-room c.args.s.now c.args.v.now c.requires.1, c.scan.ensures)

pub returns-then-x-g : goal.returns-then-x-g
returns-then-x-g c =
    let s = c.args.s.now in
    let v = c.args.v.now in
    let k = c.args.k in
    let past = step_past s.layout v (state-layout s c.requires.0) k c.locate-x.result c.locate-x.ensures c.if-x-g.true in
    λ st staging. wrong-volume s v st c.args.out.now c.requires.0 (volume-past s v c.requires.1 k c.requires.2 past)

pub next_location-next-requires : goal.next_location-next-requires
next_location-next-requires c =
    let s = c.args.s.now in
    let v = c.args.v.now in
    let k = c.args.k in
    let ok = state-layout s c.requires.0 in
    let at = c.locate-x in
    (ok, fit-room s v c.requires.1, c.scan.ensures, located-low s.layout v ok k at.result at.ensures c.if-x-g.false, (k, at.ensures))

pub next_store-requires : goal.next_store-requires
next_store-requires c =
    let s = c.args.s.now in
    let v = c.args.v.now in
    let k = c.args.k in
    let x = c.locate-x.result in
    let ok = state-layout s c.requires.0 in
    let low = located-low s.layout v ok k x c.locate-x.ensures c.if-x-g.false in
    let there = step-located s.layout v ok k x c.locate-x.ensures low in
    let next = c.next_location-next in (
      record {
        sound = c.requires.0;
        fits = volume-below s v c.requires.1 k c.requires.2 there.0;
        phase = c.requires.2;
        goes_on = step-there s.layout v ok (k + 1) next.result (next.ensures k c.locate-x.ensures);
        named = there.1;
        section = low;
      },
      c.requires.3,
    )
