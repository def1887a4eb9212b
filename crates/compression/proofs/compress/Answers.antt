use Rattle.std.proofs.Common.{◌∙◌}
use Rattle.compression.specs.Compression.{schedule_of, rounds_of, added_of, compress_of}
use Rattle.compression.proofs.compress.Goals as goal

pub returns : goal.returns
unfolding compress_of
returns c =
    let v = c.rounds.ensures ∙ (λ i. rounds_of 64 (c.variables_from.ensures i) (schedule_of 64 c.args.b.now)) in
    c.added.ensures ∙ (λ i. added_of (v i) c.args.h)
