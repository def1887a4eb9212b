use Prim.Native.Nat.{ℕ}
use native.Mathlib.Omega.{arith}
use mathlib.Core.List.{List}
use mathlib.Core.Path.{◌≡◌, ap, ◌∙◌}
use lib.ListN.{length}
use Rattle.octets.specs.Parts.{part, same}
use Rattle.octets.proofs.Parts.{part-all}
use Rattle.digest.specs.Sha256.{digest_size}
use Rattle.tree.proofs.compare.stands.Goals as goal

pub returns : goal.returns
returns c =
    let a = c.args in
    let size : length a.d ≡ digest_size = omega arith in
    c.same_at.ensures ∙ ap (λ (d : List ℕ). same d (part a.s.now a.at digest_size)) (part-all a.d digest_size size)
