use mathlib.Core.Path.{◌≡◌, ◌∙◌}
use native.Mathlib.Omega.{arith}
use Rattle.digest.specs.Sha256.{sha256}
use Rattle.digest.specs.Sha256.Promise.{digest-given}
use Rattle.hmac.proofs.Blocks.{short-key, long-key}
use Rattle.hmac.proofs.key_block.Goals as goal

pub unwrap-digest-requires : goal.unwrap-digest-requires
unwrap-digest-requires c = rw (digest-given c.args.key.now c.sha256.result c.requires c.sha256.ensures)

pub returns-then-key-gt-BLOCK_SIZE : goal.returns-then-key-gt-BLOCK_SIZE
returns-then-key-gt-BLOCK_SIZE c =
    let e = digest-given c.args.key.now c.sha256.result c.requires c.sha256.ensures in
    let same : c.unwrap-digest.result ≡ sha256 c.args.key.now = cc (c.unwrap-digest.ensures, e) in
    long-key c.args.key.now _ (omega arith) (c.copy_from_slice.ensures.after ∙ same)

pub returns-else-key-gt-BLOCK_SIZE : goal.returns-else-key-gt-BLOCK_SIZE
returns-else-key-gt-BLOCK_SIZE c = rw c.copy_from_slice-else-key-gt-BLOCK_SIZE.ensures.after (short-key c.args.key.now (omega arith))
