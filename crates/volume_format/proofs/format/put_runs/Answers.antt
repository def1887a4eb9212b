use Prim.Native.Nat.{ℕ, ◌+◌, ◌*◌}
use mathlib.Core.Path.{◌≡◌, ap, ◌∙◌}
use native.Mathlib.Omega.{arith}
use Rattle.octets.specs.Parts.{patch}
use Rattle.on_disk.specs.Layout.{run_length, tag_area}
use Rattle.layout.proofs.Sizes.{width-high}
use Rattle.model.specs.Format.{fresh_run}
use Rattle.model.proofs.Demand3.{length-tags_by}
use Rattle.sound.specs.Rule.{digest_by, tag_by}
use Rattle.volume_format.proofs.Formats.{chunk-fits, chunk-turn, run-size}
use Rattle.volume_format.proofs.format.put_runs.Goals as goal

pub put_run-requires : goal.put_run-requires
put_run-requires c =
    let a = c.args in
    let turn = c.loop-q in
    let sectors : c.run_length-sectors.result ≡ run_length a.g = c.run_length-sectors.ensures.0 in
    let size : (c.tag_area.result + c.run_length-sectors.result) * 512 ≡ (tag_area a.g + run_length a.g) * 512 = omega (arith, c.tag_area.ensures.0) in (
      c.requires.0,
      omega arith,
      omega arith,
      rw (size, sectors) (omega (arith, c.requires.2, chunk-fits ((tag_area a.g + run_length a.g) * 512) turn.q a.n (omega arith))),
      c.requires.3,
    )

pub loop-q-preserved : goal.loop-q-preserved
loop-q-preserved c =
    let a = c.args in
    let turn = c.loop-q in
    let size : (c.tag_area.result + c.run_length-sectors.result) * 512 ≡ (tag_area a.g + run_length a.g) * 512 = omega (arith, c.tag_area.ensures.0, c.run_length-sectors.ensures.0) in
    chunk-turn (λ r. fresh_run (tag_by a.rule a.g.width) a.g r (run_length a.g)) ((tag_area a.g + run_length a.g) * 512) a.v.now turn.v a.at turn.q _ c.put_run.new.v
    (λ r. run-size (tag_by a.rule a.g.width) a.g c.requires.0 (length-tags_by (digest_by a.rule) c.requires.3 a.g.width (width-high a.g c.requires.0)) r (run_length a.g) (omega arith))
    (omega (arith, c.requires.2, chunk-fits ((tag_area a.g + run_length a.g) * 512) turn.q a.n (omega arith))) turn.invariant
    (ap (fresh_run (tag_by a.rule a.g.width) a.g turn.q) c.run_length-sectors.ensures.0)
    (c.put_run.ensures ∙ ap (λ (x : ℕ). patch turn.v (a.at + turn.q * x) (fresh_run (tag_by a.rule a.g.width) a.g turn.q c.run_length-sectors.result)) size)
