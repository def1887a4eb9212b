use Prim.Native.Nat.{ℕ}
use mathlib.Core.List.{List}
use mathlib.Core.Path.{refl, ap, ◌∙◌, ◌≡◌}
use native.Mathlib.Omega.{arith}
use lib.Seq.{take_all}
use lib.ListN.{length, take}
use Rattle.octets.specs.Parts.{patch}
use Rattle.c_numbers.specs.Numbers.{number_bytes}
use Rattle.c_digest.specs.DigestState.{word_bytes_of}
use Rattle.c_digest.proofs.DigestStates.{put-turn}
use Rattle.c_digest.proofs.state.put_words.Goals as goal

pub loop-i-init : goal.loop-i-init
unfolding number_bytes
loop-i-init c = refl

pub loop-i-preserved : goal.loop-i-preserved
loop-i-preserved c =
    put-turn c.args.words _ c.loop-i.buffer c.put_number.new.s c.loop-i.i c.from.result (omega arith) (omega arith) c.loop-i.invariant c.from.ensures c.put_number.ensures

pub returns : goal.returns
returns c =
    let e : c.loop-i.i ≡ 8 = omega arith in
    let size : length c.args.words ≡ 8 = omega arith in
    let all : take 8 c.args.words ≡ c.args.words = take_all 8 c.args.words (omega arith) in
    ((rw e at c.loop-i.invariant) ∙ ap (λ (ws : List ℕ). patch c.args.buffer.now 0 (word_bytes_of ws)) all, size)
