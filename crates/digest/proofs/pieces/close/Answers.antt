use Prim.Native.Nat.{◌-◌, ◌%◌}
use mathlib.Core.Path.{refl, ◌≡◌, ◌∙◌}
use native.Mathlib.Omega.{arith}
use Rattle.digest.specs.Padding.{zero_bytes_of}
use Rattle.digest.proofs.Closing.{padded, closed}
use Rattle.digest.proofs.pieces.close.Goals as goal

pub returns : goal.returns
unfolding zero_bytes_of
returns c =
    let s = c.args.s in
    let z : (119 - s.count % 64) % 64 ≡ zero_bytes_of s.count = refl in
    closed s c.absorb-last.result _ c.digest_bytes.result
    (padded s.count ((119 - s.count % 64) % 64) _ _ z (omega arith) (c.copy_from_slice.ensures.after ∙ c.to_be_bytes.ensures)) c.absorb-last.ensures.0
    c.digest_bytes.ensures
