use Prim.Native.Nat.{◌+◌, ◌*◌, ◌≤◌}
use mathlib.Core.Bool.{false}
use mathlib.Core.Path.{◌≡◌, sym, ◌∙◌}
use native.Mathlib.Omega.{arith}
use borrow.Author.Tests.{le-leb}
use lib.ListN.{length}
use Rattle.octets.proofs.Lists.{some-below}
use Rattle.on_disk.proofs.Addresses.{ranged, data-room}
use Rattle.layout.proofs.Sizes.{width-high, provided-high}
use Rattle.model.proofs.States.{state-layout, state-count, staged-length, volume-room}
use Rattle.model.specs.State.{is_recovering}
use Rattle.model.specs.Read.{staged_for, read_of}
use Rattle.sound.specs.Rule.{tag_by}
use Rattle.volume_read.proofs.Reading.{found-staged, mismatch, found-home, state-ok, volume-ok, staged-ok, sector-length, sector-copied}
use Rattle.volume_read.proofs.read.read_by.Goals as goal

pub returns-then-is_recovering : goal.returns-then-is_recovering
unfolding read_of
returns-then-is_recovering c = rw (c.requires, sym c.is_recovering.ensures ∙ c.if-is_recovering.true)

pub returns-then-g-sector : goal.returns-then-g-sector
unfolding read_of
returns-then-g-sector c =
    let ready : is_recovering c.args.s.phase ≡ false = sym c.is_recovering.ensures ∙ c.if-is_recovering.false in
    rw (c.requires, ready, le-leb c.args.s.layout.provided c.args.sector c.if-g-sector.true)

pub newest_for-requires : goal.newest_for-requires
newest_for-requires c =
    let a = c.args in
    let sound = state-ok a.s a.v.now a.st.now a.bytes.now c.requires in
    (width-high a.s.layout (state-layout a.s sound), state-count a.s sound, staged-length a.s a.st.now (staged-ok a.s a.v.now a.st.now a.bytes.now c.requires))

pub entry_data-requires : goal.entry_data-requires
entry_data-requires c =
    let a = c.args in
    let sound = state-ok a.s a.v.now a.st.now a.bytes.now c.requires in
    let at = some-below a.s.count (staged_for a.s a.st.now a.sector) c.in-Some.place (sym c.newest_for.ensures ∙ c.in-Some.is) in (
      width-high a.s.layout (state-layout a.s sound),
      omega (arith, at.0, at.1, state-count a.s sound),
      staged-length a.s a.st.now (staged-ok a.s a.v.now a.st.now a.bytes.now c.requires),
      sector-length a.s a.v.now a.st.now a.bytes.now c.requires,
    )

pub returns-in-Some : goal.returns-in-Some
returns-in-Some c =
    let a = c.args in
    rw c.entry_data.ensures (found-staged (tag_by a.rule) a.s a.v.now a.st.now a.sector a.bytes.now c.requires (sym c.is_recovering.ensures ∙ c.if-is_recovering.false) c.if-g-sector.false c.in-Some.place (sym c.in-Some.is ∙ c.newest_for.ensures))

pub tag_fits-requires : goal.tag_fits-requires
tag_fits-requires c =
    let a = c.args in (
      state-layout a.s (state-ok a.s a.v.now a.st.now a.bytes.now c.requires),
      volume-room a.s a.v.now (volume-ok a.s a.v.now a.st.now a.bytes.now c.requires),
      c.if-g-sector.false,
    )

pub returns-then-not-tag_fits : goal.returns-then-not-tag_fits
returns-then-not-tag_fits c =
    let a = c.args in
    mismatch (tag_by a.rule) a.s a.v.now a.st.now a.sector a.bytes.now c.requires (sym c.is_recovering.ensures ∙ c.if-is_recovering.false) c.if-g-sector.false (sym c.in_default.is ∙ c.newest_for.ensures) (sym c.tag_fits.ensures ∙ c.if-not-tag_fits.true)

pub data_at-at-requires : goal.data_at-at-requires
data_at-at-requires c =
    let a = c.args in
    let layout = state-layout a.s (state-ok a.s a.v.now a.st.now a.bytes.now c.requires) in
    (layout, omega (arith, c.if-g-sector.false, provided-high a.s.layout layout))

pub copy_at-requires : goal.copy_at-requires
copy_at-requires c =
    let a = c.args in
    let layout = state-layout a.s (state-ok a.s a.v.now a.st.now a.bytes.now c.requires) in
    omega (arith, c.data_at-at.ensures.0, volume-room a.s a.v.now (volume-ok a.s a.v.now a.st.now a.bytes.now c.requires), data-room a.s.layout (ranged a.s.layout layout) a.sector c.if-g-sector.false, sector-length a.s a.v.now a.st.now a.bytes.now c.requires)

pub returns : goal.returns
returns c =
    let a = c.args in
    let layout = state-layout a.s (state-ok a.s a.v.now a.st.now a.bytes.now c.requires) in
    let room : (c.data_at-at.result + 1) * 512 ≤ length a.v.now = omega (arith, c.data_at-at.ensures.0, volume-room a.s a.v.now (volume-ok a.s a.v.now a.st.now a.bytes.now c.requires), data-room a.s.layout (ranged a.s.layout layout) a.sector c.if-g-sector.false) in
    rw (sector-copied a.s.layout a.v.now a.sector c.data_at-at.result a.bytes.now c.copy_at.new.d c.data_at-at.ensures.0 room (sector-length a.s a.v.now a.st.now a.bytes.now c.requires) c.copy_at.ensures)
    (found-home (tag_by a.rule) a.s a.v.now a.st.now a.sector a.bytes.now c.requires (sym c.is_recovering.ensures ∙ c.if-is_recovering.false) c.if-g-sector.false (sym c.in_default.is ∙ c.newest_for.ensures) (sym c.tag_fits.ensures ∙ c.if-not-tag_fits.false))
