-- The tags of the rules: specs/Rule.
use mathlib.Core.Path.{refl, ap, ◌∙◌}
use lib.ListN.{length}
use Rattle.digest.specs.Sha256.Promise.{length-sha256}
use Rattle.hmac.proofs.Theorems.{mac-length, kept-gives-hmac}
use Rattle.model.specs.Tag.{tags_by}
use Rattle.sound.specs.Rule.{PlainTags, KeyedTags, RulesOk}

pub plain-tags : PlainTags
plain-tags = refl

pub keyed-tags : KeyedTags
keyed-tags key = λ i. tags_by (λ m. kept-gives-hmac key m i)

pub rules-ok : RulesOk
rules-ok = (length-sha256, λ key m. ap length (kept-gives-hmac key m) ∙ mac-length key m)
