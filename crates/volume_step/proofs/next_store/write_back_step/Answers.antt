use mathlib.Core.Path.{sym}
use native.Mathlib.Omega.{arith}
use Rattle.on_disk.specs.Section.{entry_of}
use Rattle.layout.proofs.Sizes.{per-high, width-high}
use Rattle.model.proofs.States.{state-layout, state-writing-back, staged-length, staged-store, volume-room}
use Rattle.volume_step.proofs.Steps.{staged-range, same-entry, next-entry, last_entry}
use Rattle.volume_step.proofs.next_store.write_back_step.Goals as goal

pub entry_sector-sector-requires : goal.entry_sector-sector-requires
entry_sector-sector-requires c =
    let args = c.args in
    let pre = c.requires in
    let s = args.s.now in
    (width-high s.layout (state-layout s pre.0), (state-writing-back s pre.0 args.i args.h pre.3).1, staged-length s args.st.now pre.2)

pub returns-then-g-sector : goal.returns-then-g-sector
returns-then-g-sector c =
    let args = c.args in
    let pre = c.requires in
    staged-range args.s.now args.v.now args.st.now args.out.now pre.0 pre.1 pre.2 args.i args.h pre.3 _ c.entry_sector-sector.ensures c.if-g-sector.true

pub home_store-at-requires : goal.home_store-at-requires
home_store-at-requires c =
    let args = c.args in
    let pre = c.requires in
    let s = args.s.now in
    let place = state-writing-back s pre.0 args.i args.h pre.3 in (
      record {
        layout = state-layout s pre.0;
        long = staged-length s args.st.now pre.2;
        entry = place.1;
        is = c.entry_sector-sector.ensures;
        low = c.if-g-sector.false;
        store = staged-store s args.st.now pre.2 args.i args.h pre.3;
      },
      volume-room s args.v.now pre.1,
      pre.4,
    )

pub home_stores-requires : goal.home_stores-requires
home_stores-requires c = state-layout c.args.s.now c.requires.0

pub overflow_add-h : goal.overflow_add-h
overflow_add-h c = omega (arith, (state-writing-back c.args.s.now c.requires.0 c.args.i c.args.h c.requires.3).2)

pub returns-then-h-home_stores : goal.returns-then-h-home_stores
returns-then-h-home_stores c =
    let args = c.args in
    let pre = c.requires in
    let home = c.home_stores.ensures.0 (entry_of args.s.now.layout.width args.st.now args.i) (sym c.entry_sector-sector.ensures) in
    rw (c.stored.ensures.0, c.stored.ensures.1)
    (same-entry args.s.now args.v.now args.st.now args.out.now pre.0 pre.1 pre.2 args.i args.h pre.3 _ c.entry_sector-sector.ensures c.if-g-sector.false
    _ _ c.home_store-at.ensures (omega arith))

pub overflow_add-i : goal.overflow_add-i
overflow_add-i c = omega (arith, (state-writing-back c.args.s.now c.requires.0 c.args.i c.args.h c.requires.3).1, per-high c.args.s.now.layout.width)

pub overflow_add-i-then-i-s : goal.overflow_add-i-then-i-s
overflow_add-i-then-i-s c = omega (arith, (state-writing-back c.args.s.now c.requires.0 c.args.i c.args.h c.requires.3).1, per-high c.args.s.now.layout.width)

pub returns-then-i-s : goal.returns-then-i-s
returns-then-i-s c =
    let args = c.args in
    let pre = c.requires in
    let s = args.s.now in
    let home = c.home_stores.ensures.0 (entry_of s.layout.width args.st.now args.i) (sym c.entry_sector-sector.ensures) in
    rw (c.stored-then-i-s.ensures.0, c.stored-then-i-s.ensures.1)
    (next-entry s args.v.now args.st.now args.out.now pre.0 pre.1 pre.2 args.i args.h pre.3 _ c.entry_sector-sector.ensures c.if-g-sector.false
    _ _ c.home_store-at.ensures (omega (arith, staged-store s args.st.now pre.2 args.i args.h pre.3)) c.if-i-s.true)

pub clear_section-requires : goal.clear_section-requires
clear_section-requires c =
    let s = c.args.s.now in
    (width-high s.layout (state-layout s c.requires.0), staged-length s c.args.st.now c.requires.2)

pub returns : goal.returns
returns c =
    let args = c.args in
    let pre = c.requires in
    let s = args.s.now in
    let home = c.home_stores.ensures.0 (entry_of s.layout.width args.st.now args.i) (sym c.entry_sector-sector.ensures) in
    let place = state-writing-back s pre.0 args.i args.h pre.3 in
    rw (c.filled.ensures.0, c.filled.ensures.1, c.clear_section.ensures)
    (last_entry s args.v.now args.st.now args.out.now pre.0 pre.1 pre.2 args.i args.h pre.3 _ c.entry_sector-sector.ensures c.if-g-sector.false
    _ _ c.home_store-at.ensures (omega (arith, staged-store s args.st.now pre.2 args.i args.h pre.3)) (omega arith))
