use Rattle.hmac.proofs.Behind.{kept}
use Rattle.hmac.proofs.keep.Goals as goal

pub returns : goal.returns
returns c = kept c.args.key.now c.key_block-block.result c.xored.result c.xored-2.result c.hash_behind-inner.result c.hash_behind-outer.result c.key_block-block.ensures c.xored.ensures c.xored-2.ensures c.hash_behind-inner.ensures c.hash_behind-outer.ensures
