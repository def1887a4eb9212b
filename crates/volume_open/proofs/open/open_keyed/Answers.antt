use mathlib.Core.Path.{sym, ◌∙◌}
use Rattle.volume_open.proofs.Opens.{keyed-malformed, key-refused, key-taken}
use Rattle.model.specs.Refusal.{open_answer}
use Rattle.volume_open.proofs.open.open_keyed.Goals as goal

pub returns-then-not-volume_loan_ok : goal.returns-then-not-volume_loan_ok
returns-then-not-volume_loan_ok c = keyed-malformed c.args.key.now c.args.r c.args.v.now c.args.st.now (sym c.volume_loan_ok.ensures ∙ c.if-not-volume_loan_ok.true)

pub returns-then-not-key_ok : goal.returns-then-not-key_ok
returns-then-not-key_ok c = key-refused c.args.key.now c.args.r c.args.v.now c.args.st.now (sym c.volume_loan_ok.ensures ∙ c.if-not-volume_loan_ok.false) (sym c.key_ok.ensures ∙ c.if-not-key_ok.true)

pub of_key-requires : goal.of_key-requires
of_key-requires c = sym c.key_ok.ensures ∙ c.if-not-key_ok.false

pub returns : goal.returns
returns c = key-taken c.args.key.now c.args.r c.args.v.now c.args.st.now (record { answer = open_answer c.open_by.result; staging = c.open_by.new.st }) (sym c.key_ok.ensures ∙ c.if-not-key_ok.false) c.of_key.result c.of_key.ensures c.open_by.ensures
