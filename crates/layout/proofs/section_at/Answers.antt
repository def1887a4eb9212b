use native.Mathlib.Omega.{arith}
use Rattle.layout.proofs.Sizes.{width-high, reserved-high, sections-product}
use Rattle.layout.proofs.section_at.Goals as goal

pub overflow_add-result : goal.overflow_add-result
overflow_add-result c =
    record { fits = omega (arith, reserved-high c.args.g c.requires.0) }

pub section_size-requires : goal.section_size-requires
section_size-requires c =
    width-high c.args.g c.requires.0

pub overflow_mul-result : goal.overflow_mul-result
overflow_mul-result c =
    record { fits = omega (arith, (sections-product c.args.g c.requires.0 c.args.k c.section_size.result c.requires.1 c.section_size.ensures.0).1) }

pub overflow_add-result-2 : goal.overflow_add-result-2
overflow_add-result-2 c =
    let product = sections-product c.args.g c.requires.0 c.args.k c.section_size.result c.requires.1 c.section_size.ensures.0 in
    let reserved = reserved-high c.args.g c.requires.0 in
    omega arith

pub returns : goal.returns
returns c =
    let product = sections-product c.args.g c.requires.0 c.args.k c.section_size.result c.requires.1 c.section_size.ensures.0 in
    let reserved = reserved-high c.args.g c.requires.0 in
    omega arith
