use borrow.Author.Tests.{eq-eqb, ne_eqb}
use Rattle.volume_open.proofs.open.phase_for.Goals as goal

pub returns-then-stores-eq0 : goal.returns-then-stores-eq0
returns-then-stores-eq0 c = rw (eq-eqb c.args.stores 0 c.if-stores-eq0.true)

pub returns : goal.returns
returns c = rw (ne_eqb c.args.stores 0 c.if-stores-eq0.false)
