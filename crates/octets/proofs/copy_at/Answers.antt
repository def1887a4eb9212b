use native.Mathlib.Omega.{arith}
use mathlib.Core.Path.{◌≡◌, sym, ◌∙◌}
use lib.ListN.{length}
use lib.Seq.{paste-zero}
use Rattle.octets.specs.Parts.{part}
use Rattle.octets.proofs.Parts.{length_part, get_or-part, paste-patch}
use Rattle.octets.proofs.Turns.{turn}
use Rattle.octets.proofs.copy_at.Goals as goal

pub loop-i-init : goal.loop-i-init
loop-i-init c =
    let a = c.args in
    paste-zero a.d.now a.at (part a.s.now a.from a.n)

pub loop-i-preserved : goal.loop-i-preserved
loop-i-preserved c =
    let a = c.args in
    let here = c.loop-i in
    let size : length (part a.s.now a.from a.n) ≡ a.n = length_part a.s.now a.from a.n (omega arith) in
    let byte = sym (get_or-part a.s.now a.from a.n here.i (omega arith)) in
    turn a.d.now a.at (part a.s.now a.from a.n) (omega arith) here.d here.i _ (omega arith) byte here.invariant

pub returns : goal.returns
returns c =
    let a = c.args in
    let size : length (part a.s.now a.from a.n) ≡ a.n = length_part a.s.now a.from a.n (omega arith) in
    c.loop-i.invariant ∙ paste-patch a.d.now a.at (part a.s.now a.from a.n) c.loop-i.i (omega arith)
