use mathlib.Core.Path.{◌≡◌, refl, sym, ap, ◌∙◌}
use native.Mathlib.Omega.{arith}
use Rattle.std.proofs.Common.{Result, Err}
use Rattle.model.specs.declared.Opened.{Opened}
use Rattle.model.specs.declared.Refusal.{Refusal}
use Rattle.model.specs.Refusal.{open_answer}
use Rattle.layout.proofs.Sizes.{width-high, sections-low}
use Rattle.octets.specs.Lists.{if_below}
use Rattle.sound.specs.Rule.{tag_by}
use Rattle.journal.proofs.Scans.{misplaced-first}
use Rattle.model.proofs.States.{staging-length}
use Rattle.volume_open.proofs.Opens.{wrong-staging, exhausted, section-misplaced, entry-refused, opened}
use Rattle.volume_open.proofs.open.open_journal.Goals as goal

pub returns-then-not-staging_ok : goal.returns-then-not-staging_ok
returns-then-not-staging_ok c =
    let a = c.args in
    wrong-staging (tag_by a.rule) a.g a.g.reserved a.v.now a.st.now c.requires.2 (sym c.staging_ok.ensures ∙ c.if-not-staging_ok.true)

pub scan-requires : goal.scan-requires
scan-requires c = (c.requires.0, c.requires.1, refl)

pub returns-then-greatest : goal.returns-then-greatest
returns-then-greatest c =
    let a = c.args in
    exhausted (tag_by a.rule) a.g a.g.reserved a.v.now a.st.now c.requires.2 (sym c.staging_ok.ensures ∙ c.if-not-staging_ok.false)
    c.greatest_id-greatest.result c.greatest_id-greatest.ensures c.if-greatest.true

pub returns-in-Some : goal.returns-in-Some
returns-in-Some c =
    let a = c.args in
    section-misplaced (tag_by a.rule) a.g a.g.reserved a.v.now a.st.now c.requires.2 (sym c.staging_ok.ensures ∙ c.if-not-staging_ok.false)
    c.greatest_id-greatest.result c.greatest_id-greatest.ensures
    c.if-greatest.false c.first_misplaced-misplaced.result (c.first_misplaced-misplaced.ensures ∙ ap (if_below a.g.sections) (misplaced-first a.g a.v.now c.requires.0 _ c.scan.ensures)) c.in-Some.k c.in-Some.is

pub check_replay-requires : goal.check_replay-requires
check_replay-requires c = (c.requires.0, c.requires.1, c.scan.ensures)

pub returns-in_err-check_replay : goal.returns-in_err-check_replay
returns-in_err-check_replay c =
    let a = c.args in
    let same : c.from_residual.result ≡ Err c.in_err-check_replay.field-0.0 = grind arith in
    ap (λ (x : Result Opened Refusal). record { answer = open_answer x; staging = a.st.now }) same
    ∙ entry-refused (tag_by a.rule) a.g a.g.reserved a.v.now a.st.now c.requires.2 (sym c.staging_ok.ensures ∙ c.if-not-staging_ok.false)
    c.greatest_id-greatest.result c.greatest_id-greatest.ensures c.if-greatest.false
    c.first_misplaced-misplaced.result (c.first_misplaced-misplaced.ensures ∙ ap (if_below a.g.sections) (misplaced-first a.g a.v.now c.requires.0 _ c.scan.ensures)) (sections-low a.g c.requires.0) c.in_default.is
    c.check_replay.result c.check_replay.ensures _ c.in_err-check_replay.was

pub clear_staging-requires : goal.clear_staging-requires
clear_staging-requires c =
    let a = c.args in
    (width-high a.g c.requires.0, staging-length a.g a.st.now (sym c.staging_ok.ensures ∙ c.if-not-staging_ok.false))

pub count_steps-stores-requires : goal.count_steps-stores-requires
count_steps-stores-requires c = (c.requires.0, c.requires.1, c.scan.ensures)

pub returns : goal.returns
returns c =
    let a = c.args in
    opened (tag_by a.rule) a.g a.g.reserved a.v.now a.st.now c.requires.2 (sym c.staging_ok.ensures ∙ c.if-not-staging_ok.false)
    c.greatest_id-greatest.result c.greatest_id-greatest.ensures c.if-greatest.false
    c.first_misplaced-misplaced.result (c.first_misplaced-misplaced.ensures ∙ ap (if_below a.g.sections) (misplaced-first a.g a.v.now c.requires.0 _ c.scan.ensures)) (sections-low a.g c.requires.0) c.in_default.is
    c.check_replay.result c.check_replay.ensures c.in_ok-check_replay.was
    c.clear_staging.new.st c.clear_staging.ensures
    c.count_steps-stores.result c.count_steps-stores.ensures c.phase_for.result c.phase_for.ensures
