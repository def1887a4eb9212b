-- The tag rule that a call goes by, as the code holds it: R14 and R105. The laws are in proofs/Rules.
--
-- digest_by q m     : what the rule q, any value of its type, gives for the bytes m
-- tag_by q          : its tags
-- RuleOk q         : whatever it is given, it gives a digest's length; the two rules below do (RulesOk)
--                     the tags of the rule of R14 are `tag_of` (PlainTags)
-- keyed_of key      : the rule of a key; its tags are `hmac_tag_of key` (KeyedTags)
use Rattle.std.specs.Prelude.{ℕ, List, ◌≡◌, length}
use Rattle.digest.specs.Sha256.{digest_size, sha256}
use Rattle.hmac.specs.Kept.{key_of, mac_of}
use Rattle.model.specs.Tag.{Tags, tags_by, tag_of, hmac_tag_of}
use Rattle.sound.specs.declared.tag.Rule.{Rule}
use Rattle.sound.specs.declared.tag.Rule.TheVariants.{Plain, Keyed}

abbrev pub digest_by : Rule → List ℕ → List ℕ
digest_by Plain m = sha256 m
digest_by (Keyed key) m = mac_of key m

abbrev pub tag_by : Rule → Tags
tag_by q = tags_by (digest_by q)

abbrev pub RuleOk : Rule → Type 0
RuleOk q = (m : List ℕ) → length (digest_by q m) ≡ digest_size

abbrev pub keyed_of : List ℕ → Rule
keyed_of key = Keyed (key_of key)

abbrev pub PlainTags : Type 0
PlainTags = tag_by Plain ≡ tag_of

abbrev pub KeyedTags : Type 0
KeyedTags = (key : List ℕ) → tag_by (keyed_of key) ≡ hmac_tag_of key

abbrev pub RulesOk : Type 0
RulesOk = RuleOk Plain × ((key : List ℕ) → RuleOk (keyed_of key))
