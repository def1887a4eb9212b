use Prim.Native.Nat.{ℕ, ◌*◌}
use mathlib.Core.Path.{sym, ap, ◌∙◌, ◌≡◌}
use native.Mathlib.Omega.{arith}
use lib.Seq.{take_all}
use Rattle.on_disk.specs.Section.{empty_sector, empty_section}
use Rattle.octets.specs.Lists.{collect}
use Rattle.on_disk.specs.Layout.{section_size}
use Rattle.section.proofs.Clearing.{clear-metadata, clear-data}
use Rattle.section.proofs.clear_section.Goals as goal
use Rattle.section.proofs.clear_section.Goals.{then-j-lt-METADATA_SIZE, else-j-lt-METADATA_SIZE}

pub loop-j-preserved : goal.loop-j-preserved
loop-j-preserved c =
    let turn = c.loop-j in
    let metadata = c.empty_metadata-metadata in
    elim c.if-j-lt-METADATA_SIZE.branch [
      | then-j-lt-METADATA_SIZE w ↦
          clear-metadata c.args.t turn.j turn.section _ (omega arith) turn.invariant metadata.result metadata.ensures.0 metadata.ensures.1 w.if-j-lt-METADATA_SIZE.true (w.section-is ∙ w.copy_at.ensures)
      | else-j-lt-METADATA_SIZE w ↦
          clear-data c.args.t turn.j turn.section _ (omega arith) turn.invariant w.if-j-lt-METADATA_SIZE.false (w.section-is ∙ w.fill_at.ensures)
    ]

pub returns : goal.returns
unfolding empty_section
returns c =
    let turn = c.loop-j in
    let all : turn.j ≡ section_size c.args.t = omega arith in
    sym (take_all (turn.j * 512) turn.section (omega arith)) ∙ turn.invariant ∙ ap (λ (k : ℕ). collect k (empty_sector c.args.t)) all
