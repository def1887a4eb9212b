use mathlib.Core.Path.{sym, ◌∙◌, subst}
use Rattle.volume_format.proofs.Formats.{keyed-malformed, key-refused, key-taken}
use Rattle.model.specs.Refusal.{plain_answer}
use Rattle.sound.specs.Rule.{RuleOk}
use Rattle.sound.proofs.Rules.{rules-ok}
use Rattle.volume_format.proofs.format.format_keyed.Goals as goal

pub returns-then-not-volume_loan_ok : goal.returns-then-not-volume_loan_ok
returns-then-not-volume_loan_ok c = keyed-malformed c.args.key.now c.args.g c.args.v.now (sym c.volume_loan_ok.ensures ∙ c.if-not-volume_loan_ok.true)

pub returns-then-not-key_ok : goal.returns-then-not-key_ok
returns-then-not-key_ok c = key-refused c.args.key.now c.args.g c.args.v.now (sym c.volume_loan_ok.ensures ∙ c.if-not-volume_loan_ok.false) (sym c.key_ok.ensures ∙ c.if-not-key_ok.true)

pub of_key-requires : goal.of_key-requires
of_key-requires c = sym c.key_ok.ensures ∙ c.if-not-key_ok.false

pub format_by-requires : goal.format_by-requires
format_by-requires c = subst RuleOk (sym c.of_key.ensures) (rules-ok.1 c.args.key.now)

pub returns : goal.returns
returns c = key-taken c.args.key.now c.args.g c.args.v.now (record { answer = plain_answer c.format_by.result; volume = c.format_by.new.v }) (sym c.key_ok.ensures ∙ c.if-not-key_ok.false) c.of_key.result c.of_key.ensures c.format_by.ensures
