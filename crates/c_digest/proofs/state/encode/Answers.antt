use mathlib.Core.Path.{◌≡◌, sym, ap, ◌∙◌}
use native.Mathlib.Omega.{arith}
use lib.ListN.{length}
use Rattle.octets.proofs.Parts.{length_part}
use borrow.Rule.Slice.PartMut.{put_mid}
use Rattle.c_digest.proofs.DigestStates.{overwritten, written}
use Rattle.c_digest.proofs.state.encode.Goals as goal

pub returns : goal.returns
returns c =
    let words = c.put_words in
    let tail = c.copy_from_slice.ensures in
    let full : length c.args.s.tail ≡ 64 = sym (ap length tail.after) ∙ tail.len ∙ length_part words.new.buffer 32 64 (omega (arith, words.auto.buffer)) in
    written c.args.s c.args.buffer.now words.new.buffer _ c.put_number.new.s c.requires words.ensures.0 words.ensures.1 full
    (ap (put_mid 32 64 words.new.buffer) tail.after ∙ overwritten words.new.buffer c.args.s.tail 32 96 (omega arith)) c.put_number.ensures
