use Rattle.std.proofs.Common.{refl}
use Rattle.compression.specs.declared.TheConstants.{CONSTANTS}
use Rattle.compression.specs.Constants.{K}
use Rattle.compression.proofs.Turns.{rounds-turn}
use Rattle.compression.proofs.four_rounds.Goals as goal

pub returns : goal.returns
unfolding K
returns c = λ s b ring before.
    rounds-turn s b c.args.t CONSTANTS c.args.w.now refl ring c.args.v _ _ _ _ before
    c.round-v1.ensures
    c.round-v2.ensures
    c.round-v3.ensures
    c.round.ensures
