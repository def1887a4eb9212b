use native.Mathlib.Omega.{arith}
use Rattle.layout.proofs.Sizes.{place-product}
use Rattle.layout.proofs.tag_byte.Goals as goal

pub overflow_mul-result-2 : goal.overflow_mul-result-2
overflow_mul-result-2 c =
    let product = place-product c.args.g c.requires.0 c.run_length.result c.run_length.ensures.0 c.args.s in
    omega arith

pub overflow_add-result : goal.overflow_add-result
overflow_add-result c =
    let product = place-product c.args.g c.requires.0 c.run_length.result c.run_length.ensures.0 c.args.s in
    omega arith

pub returns : goal.returns
returns c =
    let product = place-product c.args.g c.requires.0 c.run_length.result c.run_length.ensures.0 c.args.s in
    omega arith
