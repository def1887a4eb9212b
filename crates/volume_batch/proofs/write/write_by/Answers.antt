use mathlib.Core.Bool.{true}
use mathlib.Core.Path.{◌≡◌, sym, ◌∙◌}
use native.Mathlib.Omega.{arith}
use borrow.Author.Tests.{le-leb, lt-leb}
use Rattle.layout.proofs.Sizes.{width-high}
use Rattle.on_disk.specs.Layout.{entry_count}
use Rattle.model.proofs.States.{state-layout, staging-length}
use Rattle.model.specs.State.{is_filling}
use Rattle.model.specs.Write.{write_of}
use Rattle.volume_batch.proofs.Writes.{state-ok, staging-ok, sector-length}
use Rattle.volume_batch.proofs.write.write_by.Goals as goal

pub returns-then-not-is_filling : goal.returns-then-not-is_filling
unfolding write_of
returns-then-not-is_filling c = rw (c.requires, sym c.is_filling.ensures ∙ c.if-not-is_filling.true)

pub returns-then-s-sector : goal.returns-then-s-sector
unfolding write_of
returns-then-s-sector c =
    let filling : is_filling c.args.s.now.phase ≡ true = sym c.is_filling.ensures ∙ c.if-not-is_filling.false in
    rw (c.requires, filling, le-leb c.args.s.now.layout.provided c.args.sector c.if-s-sector.true)

pub entry_count-requires : goal.entry_count-requires
entry_count-requires c =
    let a = c.args in
    width-high a.s.now.layout (state-layout a.s.now (state-ok a.s.now a.st.now a.bytes.now c.requires))

pub returns-then-entry_count-s : goal.returns-then-entry_count-s
unfolding write_of
returns-then-entry_count-s c =
    let s = c.args.s.now in
    rw (c.requires, sym c.is_filling.ensures ∙ c.if-not-is_filling.false, lt-leb s.layout.provided c.args.sector c.if-s-sector.false, le-leb (entry_count s.layout.width) s.count (rw c.entry_count.ensures.0 at c.if-entry_count-s.true))

pub put_entry-requires : goal.put_entry-requires
put_entry-requires c =
    let a = c.args in
    let high = width-high a.s.now.layout (state-layout a.s.now (state-ok a.s.now a.st.now a.bytes.now c.requires)) in (
      high,
      omega (arith, c.entry_count.ensures.0),
      staging-length a.s.now.layout a.st.now (staging-ok a.s.now a.st.now a.bytes.now c.requires),
      sector-length a.s.now a.st.now a.bytes.now c.requires,
      omega (arith, c.tag-digest.ensures.1, high),
    )

pub returns : goal.returns
unfolding write_of
returns c =
    let s = c.args.s.now in
    rw (c.requires, sym c.is_filling.ensures ∙ c.if-not-is_filling.false, lt-leb s.layout.provided c.args.sector c.if-s-sector.false, lt-leb (entry_count s.layout.width) s.count (rw c.entry_count.ensures.0 at c.if-entry_count-s.false), c.put_entry.ensures, c.tag-digest.ensures.0)
