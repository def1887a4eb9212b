use native.Mathlib.Omega.{arith}
use Rattle.layout.proofs.Sizes.{tags-product}
use Rattle.layout.proofs.tag_area.Goals as goal

pub overflow_mul-run_length : goal.overflow_mul-run_length
overflow_mul-run_length c =
    let product = tags-product c.args.g c.requires c.run_length.result c.run_length.ensures.0 in
    omega arith

pub overflow_mul-result : goal.overflow_mul-result
overflow_mul-result c =
    let product = tags-product c.args.g c.requires c.run_length.result c.run_length.ensures.0 in
    omega arith

pub returns : goal.returns
returns c =
    let product = tags-product c.args.g c.requires c.run_length.result c.run_length.ensures.0 in
    omega arith
