use mathlib.Core.Path.{◌≡◌, ap, ◌∙◌}
use native.Mathlib.Omega.{arith}
use Rattle.std.proofs.Common.{Result, Err}
use Rattle.model.specs.declared.Opened.{Opened}
use Rattle.model.specs.declared.Refusal.{Refusal}
use Rattle.on_disk.specs.Superblock.{superblock_at, layout_in}
use Rattle.model.specs.Refusal.{query_answer, open_answer}
use Rattle.sound.specs.Rule.{tag_by}
use Rattle.volume_open.proofs.Queries.{refused-by}
use Rattle.volume_open.proofs.Opens.{query-refused, held-opens, held-requires}
use Rattle.volume_open.proofs.open.open_by.Goals as goal

pub open_journal-requires : goal.open_journal-requires
open_journal-requires c =
    let a = c.args in
    held-requires a.r a.v.now _ c.query.ensures _ _ (ap query_answer c.in_ok-held.was)

pub returns : goal.returns
returns c =
    let a = c.args in
    held-opens a.r a.v.now _ c.query.ensures _ _ (ap query_answer c.in_ok-held.was) (tag_by a.rule) a.st.now _ c.open_journal.ensures

pub returns-in_err-held : goal.returns-in_err-held
returns-in_err-held c =
    let a = c.args in
    let g = layout_in a.r (superblock_at a.r a.v.now) in
    let same : c.from_residual.result ≡ Err c.in_err-held.field-0.0 = grind arith in
    ap (λ (x : Result Opened Refusal). record { answer = open_answer x; staging = a.st.now }) same
    ∙ query-refused (tag_by a.rule) g a.r a.v.now a.st.now _ (refused-by g a.r a.v.now _ c.query.ensures _ (ap query_answer c.in_err-held.was))
