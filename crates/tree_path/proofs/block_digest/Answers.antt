use native.Mathlib.Omega.{arith}
use mathlib.Core.List.{◌++◌}
use mathlib.Core.Path.{◌≡◌, ap, ◌∙◌}
use lib.ListN.{length, length-append}
use Rattle.digest.specs.Sha256.{sha256}
use Rattle.digest.specs.Sha256.Promise.{length-sha256, digest-given}
use Rattle.tree_path.proofs.block_digest.Goals as goal

pub unwrap-requires : goal.unwrap-requires
unwrap-requires c =
    let a = c.args in
    rw (digest-given (a.salt.now ++ a.block.now) c.sha256_of_two.result (omega (arith, length-append a.salt.now a.block.now)) c.sha256_of_two.ensures)

pub returns : goal.returns
returns c =
    let a = c.args in
    let m = a.salt.now ++ a.block.now in
    let given = digest-given m c.sha256_of_two.result (omega (arith, length-append a.salt.now a.block.now)) c.sha256_of_two.ensures in
    let e : c.unwrap.result ≡ sha256 m = cc (c.unwrap.ensures, given) in
    (e, ap length e ∙ length-sha256 m)
