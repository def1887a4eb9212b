use mathlib.Core.Path.{◌≡◌}
use native.Mathlib.Omega.{arith}
use Rattle.std.proofs.Common.{Err}
use Rattle.drill.proofs.Worlds.{plain, none-played, all-played}
use Rattle.drill.proofs.play.Goals as goal

pub returns-in_err-format : goal.returns-in_err-format
returns-in_err-format c =
    let a = c.args in
    let same : c.from_residual.result ≡ Err c.in_err-format.field-0.0 = grind arith in
    none-played _ _ _ _ (plain a.g a.v.now) a.script.now a.st.now _ _ c.format.ensures _ _ c.in_err-format.was same

pub returns : goal.returns
returns c =
    let a = c.args in
    all-played _ _ _ _ (plain a.g a.v.now) a.script.now a.st.now _ _ c.format.ensures _ _ _ c.in_ok-format.was c.events.ensures
