use Rattle.layout.proofs.Sizes.{width-high}
use Prim.Native.Nat.{ℕ, ◌+◌, ◌-◌, ◌*◌, ◌/◌, ◌%◌}
use mathlib.Core.Path.{ap, ◌∙◌}
use native.Mathlib.Omega.{arith}
use Rattle.on_disk.specs.Layout.{run_length}
use Rattle.model.specs.Format.{fresh_run, last_run}
use Rattle.model.proofs.Demand3.{length-tags_by}
use Rattle.sound.specs.Rule.{digest_by, tag_by}
use Rattle.octets.specs.Lists.{collect}
use Rattle.octets.specs.Parts.{patch}
use Rattle.layout.proofs.Sizes.{provided-low, run-high}
use Rattle.volume_format.proofs.Formats.{last-short, last-low, runs_fit, last-is, length-is, offset-is, tail-stored}
use Rattle.volume_format.proofs.format.put_tail.Goals as goal

pub overflow_sub-last : goal.overflow_sub-last
overflow_sub-last c = omega (arith, provided-low c.args.g c.requires.0)

pub put_runs-requires : goal.put_runs-requires
put_runs-requires c =
    let last = last-is c.args.g c.requires.0 c.args.v.now c.requires.1 c.run_length-sectors.result c.tag_area.result c.run_length-sectors.ensures.0 c.tag_area.ensures.0 in
    (c.requires.0, omega (arith, last-low c.args.g c.requires.0 c.args.v.now c.requires.1), rw last (omega (arith, runs_fit c.args.g c.requires.0 c.args.v.now c.requires.1, c.section_at-start.ensures.0)), c.requires.2)

pub overflow_sub-g : goal.overflow_sub-g
overflow_sub-g c = omega (arith, provided-low c.args.g c.requires.0)

pub overflow_add-g : goal.overflow_add-g
overflow_add-g c = record { fits = omega (arith, length-is c.args.g c.requires.0 c.args.v.now c.requires.1 c.run_length-sectors.result c.tag_area.result c.run_length-sectors.ensures.0 c.tag_area.ensures.0, last-short c.args.g c.requires.0 c.args.v.now c.requires.1, run-high c.args.g c.requires.0) }

pub overflow_mul-last : goal.overflow_mul-last
overflow_mul-last c = record { fits = omega (arith, offset-is c.args.g c.requires.0 c.args.v.now c.requires.1 c.run_length-sectors.result c.tag_area.result c.run_length-sectors.ensures.0 c.tag_area.ensures.0, runs_fit c.args.g c.requires.0 c.args.v.now c.requires.1) }

pub overflow_add-start : goal.overflow_add-start
overflow_add-start c = record { fits = omega (arith, offset-is c.args.g c.requires.0 c.args.v.now c.requires.1 c.run_length-sectors.result c.tag_area.result c.run_length-sectors.ensures.0 c.tag_area.ensures.0, runs_fit c.args.g c.requires.0 c.args.v.now c.requires.1, c.section_at-start.ensures.0) }

pub put_run-requires : goal.put_run-requires
put_run-requires c =
    let last = last-is c.args.g c.requires.0 c.args.v.now c.requires.1 c.run_length-sectors.result c.tag_area.result c.run_length-sectors.ensures.0 c.tag_area.ensures.0 in
    let sectors = length-is c.args.g c.requires.0 c.args.v.now c.requires.1 c.run_length-sectors.result c.tag_area.result c.run_length-sectors.ensures.0 c.tag_area.ensures.0 in
    (c.requires.0, omega (arith, last-short c.args.g c.requires.0 c.args.v.now c.requires.1), omega (arith, last-low c.args.g c.requires.0 c.args.v.now c.requires.1), omega (arith, offset-is c.args.g c.requires.0 c.args.v.now c.requires.1 c.run_length-sectors.result c.tag_area.result c.run_length-sectors.ensures.0 c.tag_area.ensures.0, runs_fit c.args.g c.requires.0 c.args.v.now c.requires.1, c.section_at-start.ensures.0, c.put_runs.auto.v), c.requires.2)

pub returns : goal.returns
returns c =
    let a = c.args in
    let last = last-is c.args.g c.requires.0 c.args.v.now c.requires.1 c.run_length-sectors.result c.tag_area.result c.run_length-sectors.ensures.0 c.tag_area.ensures.0 in
    let sectors = length-is c.args.g c.requires.0 c.args.v.now c.requires.1 c.run_length-sectors.result c.tag_area.result c.run_length-sectors.ensures.0 c.tag_area.ensures.0 in
    tail-stored c.args.g c.requires.0 c.args.v.now c.requires.1 (tag_by a.rule a.g.width) (length-tags_by (digest_by a.rule) c.requires.2 a.g.width (width-high a.g c.requires.0)) c.put_runs.new.v c.put_run.new.v _ _ (ap (λ (x : ℕ). x * 512) c.section_at-start.ensures.0) (ap (λ (x : ℕ). c.section_at-start.result * 512 + x) (offset-is c.args.g c.requires.0 c.args.v.now c.requires.1 c.run_length-sectors.result c.tag_area.result c.run_length-sectors.ensures.0 c.tag_area.ensures.0))
    (c.put_runs.ensures ∙ ap (λ (n : ℕ). patch a.v.now (c.section_at-start.result * 512) (collect n (λ q. fresh_run (tag_by a.rule a.g.width) a.g q (run_length a.g)))) last)
    (c.put_run.ensures ∙ ap (λ (n : ℕ). patch c.put_runs.new.v (c.section_at-start.result * 512 + (a.g.provided - 1) / c.run_length-sectors.result * ((c.tag_area.result + c.run_length-sectors.result) * 512)) (fresh_run (tag_by a.rule a.g.width) a.g n ((a.g.provided - 1) % c.run_length-sectors.result + 1))) last
    ∙ ap (λ (n : ℕ). patch c.put_runs.new.v (c.section_at-start.result * 512 + (a.g.provided - 1) / c.run_length-sectors.result * ((c.tag_area.result + c.run_length-sectors.result) * 512)) (fresh_run (tag_by a.rule a.g.width) a.g (last_run a.g) n)) sectors)
