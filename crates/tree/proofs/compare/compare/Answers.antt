use Prim.Native.Nat.{◌-◌}
use native.Mathlib.Omega.{arith}
use mathlib.Core.List.{[]}
use mathlib.Core.Path.{◌≡◌, sym, ap, ◌∙◌}
use lib.ListN.{get_or}
use Rattle.octets.specs.Parts.{same}
use Rattle.octets.proofs.Parts.{part-all}
use Rattle.digest.specs.Sha256.{digest_size}
use Rattle.tree.specs.Verify.{path_rows}
use Rattle.tree.proofs.CompareLaws.{top-differs, top-agrees, turn-differs, turn-agrees}
use Rattle.tree.proofs.compare.compare.Goals as goal

pub returns-then-not-stands : goal.returns-then-not-stands
returns-then-not-stands c =
    let a = c.args in
    let whole = part-all a.root.now digest_size (omega arith) in
    let e = sym (ap (same (get_or a.digests a.h [])) whole) ∙ sym c.stands.ensures ∙ c.if-not-stands.true in
    c.differs.ensures ∙ sym (top-differs a.h a.digests a.at a.tree.now a.root.now (omega arith) (omega arith) e)

pub loop-k-init : goal.loop-k-init
loop-k-init c =
    let a = c.args in
    let whole = part-all a.root.now digest_size (omega arith) in
    let e = sym (ap (same (get_or a.digests a.h [])) whole) ∙ sym c.stands.ensures ∙ c.if-not-stands.false in
    top-agrees a.h a.digests a.at a.tree.now a.root.now (omega arith) (omega arith) e

pub stands-requires-in-loop-k : goal.stands-requires-in-loop-k
stands-requires-in-loop-k c = omega (arith, c.requires.2 (c.loop-k.k - 1) (omega arith))

pub returns-then-not-stands-2 : goal.returns-then-not-stands-2
returns-then-not-stands-2 c =
    let a = c.args in
    let turn = c.loop-k in
    let e = sym c.stands-in-loop-k.ensures ∙ c.if-not-stands-2.true in
    c.differs-then-not-stands-2.ensures
    ∙ sym (turn-differs a.h a.digests a.at a.tree.now a.root.now (omega arith) (omega arith) turn.k c.loop-k-test.true (omega arith) turn.invariant e)

pub loop-k-preserved : goal.loop-k-preserved
loop-k-preserved c =
    let a = c.args in
    let turn = c.loop-k in
    let e = sym c.stands-in-loop-k.ensures ∙ c.if-not-stands-2.false in
    turn-agrees a.h a.digests a.at a.tree.now a.root.now (omega arith) (omega arith) turn.k c.loop-k-test.true (omega arith) turn.invariant e

pub returns : goal.returns
unfolding path_rows
returns c =
    let turn = c.loop-k in
    let z : turn.k ≡ 0 = omega arith in
    sym (rw z at turn.invariant)
