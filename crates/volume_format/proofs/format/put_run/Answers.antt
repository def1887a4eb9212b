use Rattle.sound.specs.Rule.{digest_by, tag_by}
use Rattle.model.proofs.Demand3.{length-tags_by}
use Prim.Native.Nat.{ℕ, ◌*◌}
use mathlib.Core.Path.{ap}
use native.Mathlib.Omega.{arith}
use Rattle.layout.proofs.Sizes.{width-high, run-high}
use Rattle.volume_format.proofs.Formats.{tags-room, tags-high, first-high, run-stored}
use Rattle.volume_format.proofs.format.put_run.Goals as goal

pub overflow_mul-q : goal.overflow_mul-q
overflow_mul-q c = record { fits = omega (arith, first-high c.args.g c.requires.0 c.args.q c.run_length.result (omega arith) c.run_length.ensures.0) }

pub put_tags-requires : goal.put_tags-requires
put_tags-requires c = (
  width-high c.args.g c.requires.0,
  omega (arith, first-high c.args.g c.requires.0 c.args.q c.run_length.result (omega arith) c.run_length.ensures.0, run-high c.args.g c.requires.0),
  omega (arith, tags-room c.args.g c.requires.0 c.args.n (omega arith)),
  c.requires.4,
)

pub overflow_mul-tags : goal.overflow_mul-tags
overflow_mul-tags c = record { fits = omega (arith, tags-high c.args.g c.requires.0 c.args.n (omega arith)) }

pub overflow_add-at : goal.overflow_add-at
overflow_add-at c = record { fits = omega (arith, tags-room c.args.g c.requires.0 c.args.n (omega arith)) }

pub overflow_sub-area : goal.overflow_sub-area
overflow_sub-area c = omega (arith, tags-room c.args.g c.requires.0 c.args.n (omega arith), c.tag_area-area.ensures.0)

pub fill_at-requires : goal.fill_at-requires
fill_at-requires c = omega (arith, tags-room c.args.g c.requires.0 c.args.n (omega arith), c.tag_area-area.ensures.0, c.put_tags.auto.v)

pub returns : goal.returns
returns c =
    let a = c.args in
    run-stored (tag_by a.rule a.g.width) a.g c.requires.0 (length-tags_by (digest_by a.rule) c.requires.4 a.g.width (width-high a.g c.requires.0)) a.q a.n a.at a.v.now c.put_tags.new.v c.fill_at.new.d c.fill_at-2.new.d _ _ (omega arith) (omega arith)
    (ap (λ (x : ℕ). a.q * x) c.run_length.ensures.0) (ap (λ (x : ℕ). x * 512) c.tag_area-area.ensures.0) c.put_tags.ensures c.fill_at.ensures c.fill_at-2.ensures
