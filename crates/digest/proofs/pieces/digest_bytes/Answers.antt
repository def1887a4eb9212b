use mathlib.Core.Path.{refl, ◌∙◌}
use native.Mathlib.Omega.{arith}
use borrow.Author.Rules.{rules}
use Rattle.std.proofs.lemmas.Slice.{overwrites}
use Rattle.digest.proofs.Closing.{bytes-turn}
use Rattle.digest.specs.Padding.{bytes_of}
use Rattle.digest.proofs.pieces.digest_bytes.Goals as goal

pub loop-i-init : goal.loop-i-init
unfolding bytes_of
loop-i-init c = (search rules, refl, refl)

pub loop-i-preserved : goal.loop-i-preserved
loop-i-preserved c = (
  search rules,
  search (rules, overwrites),
  bytes-turn c.args.h c.loop-i.out _ c.loop-i.i _ (omega arith) (omega arith) c.loop-i.invariant.2 (c.copy_from_slice.ensures.after ∙ c.to_be_bytes.ensures),
)
