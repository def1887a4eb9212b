use Rattle.std.proofs.Common.{◌≡◌, ℕ, Bool, true, ◌&&◌, eqb, sym, ap, ◌∙◌, length, rules, arith}
use Rattle.std.specs.Slice.Iter.{iter_rest}
use Rattle.std.proofs.lemmas.Iterator.{YieldsList-from_zip, YieldsList-from_slice}
use Rattle.std.proofs.lemmas.Iterator.Consumers.{fold_from_yields_List}
use borrow.Author.Tests.{tests}
use Rattle.octets.specs.Parts.{part}
use Rattle.octets.proofs.Parts.{length_part}
use Rattle.octets.proofs.Slices.{lent}
use Rattle.octets.proofs.Turns.{fold-same}
use Rattle.octets.proofs.same_at.Goals as goal

pub returns : goal.returns
returns c =
    let a = c.args in
    let p = part a.a.now a.x a.n in
    let q = part a.b.now a.y a.n in
    let first = ap iter_rest c.zip-pairs.ensures.first ∙ c.iter.ensures.rest ∙ (lent a.a.now a.x a.n (omega arith)).0 in
    let second = ap iter_rest c.zip-pairs.ensures.second ∙ c.iter-2.ensures.rest ∙ (lent a.b.now a.y a.n (omega arith)).0 in
    let size : length p ≡ length q = length_part a.a.now a.x a.n (omega arith) ∙ sym (length_part a.b.now a.y a.n (omega arith)) in
    fold_from_yields_List _ (λ (s : Bool) (z : ℕ × ℕ). s && eqb z.0 z.1) true c.fold.result c.fold.ensures.ran
    (YieldsList-from_zip (YieldsList-from_slice p first) (YieldsList-from_slice q second))
    (λ s z t f called. search (rules, tests))
    ∙ fold-same p q true size
