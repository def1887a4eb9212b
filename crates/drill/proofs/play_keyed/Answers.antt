use mathlib.Core.Path.{◌≡◌, sym, ap, ◌∙◌}
use native.Mathlib.Omega.{arith}
use Rattle.std.proofs.Common.{Result, Err}
use mathlib.Core.Bool.{true}
use borrow.Author.Rules.{rules}
use Rattle.octets.specs.Answer.{is_taken}
use Rattle.hmac.specs.Hmac.{key_ok}
use Rattle.model.specs.Keyed.{format_keyed_of}
use Rattle.model.specs.Refusal.{plain_answer}
use Rattle.model.specs.Format.{FormatResult}
use Rattle.model.specs.declared.Refusal.{Refusal}
use Rattle.drill.proofs.Worlds.{key-taken, keyed, none-played, all-played}
use Rattle.drill.proofs.play_keyed.Goals as goal

pub returns-in_err-format_keyed : goal.returns-in_err-format_keyed
returns-in_err-format_keyed c =
    let a = c.args in
    let same : c.from_residual.result ≡ Err c.in_err-format_keyed.field-0.0 = grind arith in
    none-played _ _ _ _ (keyed a.key.now a.g a.v.now) a.script.now a.st.now _ _ c.format_keyed.ensures _ _ c.in_err-format_keyed.was same

pub events-requires : goal.events-requires
events-requires c =
    let a = c.args in
    let taken : is_taken (format_keyed_of a.key.now a.g a.v.now).answer ≡ true =
    sym (ap (λ (o : FormatResult). is_taken o.answer) c.format_keyed.ensures)
    ∙ ap (λ (y : Result (Unit {0}) Refusal). is_taken (plain_answer y)) c.in_ok-format_keyed.was in
    let fits : key_ok a.key.now ≡ true = key-taken a.key.now a.g a.v.now taken in
    search rules

pub returns : goal.returns
returns c =
    let a = c.args in
    all-played _ _ _ _ (keyed a.key.now a.g a.v.now) a.script.now a.st.now _ _ c.format_keyed.ensures _ _ _ c.in_ok-format_keyed.was c.events.ensures
