-- The tags of the first i sectors fit.
use Rattle.std.proofs.Common.{ℕ, ◌+◌, ◌<◌, true, ◌≡◌}
use Rattle.model.specs.Verify.{tag_fits}
use Rattle.sound.specs.Rule.{tag_by}
use Rattle.volume_verify.proofs.verify.verify_tags.Given as goal

abbrev pub invariant-loop-i : goal.invariant-loop-i
invariant-loop-i l = (j : ℕ) → j < l.i → tag_fits (tag_by l.rule) l.g l.v (l.first + j) ≡ true
