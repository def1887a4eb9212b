use mathlib.Core.Bool.{Bool, true, false, not, ◌&&◌}
use mathlib.Core.Path.{◌≡◌, refl, ap, ◌∙◌}
use borrow.Author.Tests.{lt-ltb, le-ltb}
use Rattle.std.proofs.Common.{Result, Ok, Err, is_err}
use Rattle.octets.specs.Answer.{is_taken}
use Rattle.model.specs.declared.Refusal.{Refusal}
use Rattle.model.specs.Refusal.{plain_answer}
use Rattle.model.specs.Read.{ReadResult}
use Rattle.volume_check.specs.Check.{is_bad}
use Rattle.volume_check.proofs.is_bad.Goals as goal

refused-bad : (a : Result (Unit {0}) Refusal) → is_err a ≡ not (is_taken (plain_answer a)) && true
refused-bad (Ok x) = refl
refused-bad (Err r) = refl

good : (b : Bool) → false ≡ b && false
good true = refl
good false = refl

pub returns-then-n-s : goal.returns-then-n-s
unfolding is_bad
returns-then-n-s c =
    rw (lt-ltb c.args.n c.args.s.layout.provided c.if-n-s.true)
    (c.is_err.ensures.value ∙ refused-bad c.read.result ∙ ap (λ (o : ReadResult). not (is_taken o.answer) && true) c.read.ensures)

pub returns-else-n-s : goal.returns-else-n-s
unfolding is_bad
returns-else-n-s c = rw (le-ltb c.args.n c.args.s.layout.provided c.if-n-s.false) (good _)
