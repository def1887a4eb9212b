use Rattle.std.proofs.Common.{arith}
use Rattle.compression.proofs.Rotation.{shifts-rotate}
use Rattle.compression.proofs.words.rotate.Goals as goal

pub returns : goal.returns
returns c = shifts-rotate c.args.n c.args.x (omega arith) c.ranges.x.fits
