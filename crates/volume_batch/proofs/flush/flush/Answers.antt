use Prim.Native.Nat.{◌<◌}
use mathlib.Core.Bool.{true}
use mathlib.Core.Path.{◌≡◌, sym, ◌∙◌}
use native.Mathlib.Omega.{arith}
use borrow.Author.Tests.{eq-eqb, ne_eqb, lt-ltb}
use Rattle.model.specs.State.{last_id, is_filling}
use Rattle.model.specs.Flush.{flush_of}
use Rattle.volume_batch.proofs.flush.flush.Goals as goal

pub returns-then-not-state_ok : goal.returns-then-not-state_ok
unfolding flush_of
returns-then-not-state_ok c = rw (sym c.state_ok.ensures ∙ c.if-not-state_ok.true)

pub returns-then-not-is_filling : goal.returns-then-not-is_filling
unfolding flush_of
returns-then-not-is_filling c = rw (sym c.state_ok.ensures ∙ c.if-not-state_ok.false, sym c.is_filling.ensures ∙ c.if-not-is_filling.true)

pub returns-then-s-eq0 : goal.returns-then-s-eq0
unfolding flush_of
returns-then-s-eq0 c =
    let filling : is_filling c.args.s.now.phase ≡ true = sym c.is_filling.ensures ∙ c.if-not-is_filling.false in
    rw (sym c.state_ok.ensures ∙ c.if-not-state_ok.false, filling, c.if-s-eq0.true)

pub returns-then-s : goal.returns-then-s
unfolding flush_of
returns-then-s c =
    let ready : is_filling c.args.s.now.phase ≡ true = sym c.is_filling.ensures ∙ c.if-not-is_filling.false in
    let some : 0 < c.args.s.now.count = omega (arith, c.if-s-eq0.false) in
    rw (sym c.state_ok.ensures ∙ c.if-not-state_ok.false, ready, lt-ltb 0 c.args.s.now.count some, eq-eqb c.args.s.now.id last_id c.if-s.true)

pub returns : goal.returns
unfolding flush_of
returns c = rw (sym c.state_ok.ensures ∙ c.if-not-state_ok.false, sym c.is_filling.ensures ∙ c.if-not-is_filling.false, lt-ltb 0 c.args.s.now.count (omega arith), ne_eqb c.args.s.now.id last_id c.if-s.false, ne_eqb c.args.s.now.count 0 c.if-s-eq0.false)
