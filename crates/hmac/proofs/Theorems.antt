-- The theorems of specs/Theorems.
use Prim.Native.Nat.{ℕ}
use mathlib.Core.List.{List, ◌++◌}
use mathlib.Core.Path.{◌≡◌, refl, sym, ap, ◌∙◌}
use lib.Dec.{eqb}
use lib.ListN.{length}
use Rattle.std.specs.Prelude.{Result, Ok, Err}
use Rattle.octets.specs.Answer.{number_in}
use Rattle.octets.specs.Choice.{pick}
use Rattle.digest.specs.Sha256.{digest_size, sha256}
use Rattle.digest.specs.Sha256.Promise.{length-sha256}
use Rattle.hmac.specs.declared.Refusal as code
use Rattle.hmac.specs.declared.Refusal.TheVariants.{KeyLength, TooLong}
use Rattle.hmac.specs.Call.{MacOutcome, called}
use Rattle.hmac.specs.Hmac.{ipad, opad, padded, hmac}
use Rattle.hmac.specs.Kept.{key_of, mac_of}
use Rattle.hmac.specs.Theorems.{AnswersDiffer, KeptGivesHmac, BlockLength, MacLength}
use Rattle.hmac.proofs.Blocks.{length-block, length-padded}
use Rattle.hmac.proofs.Behind.{close-resumed}

-- ---- answers

-- what the code returned, told by the outcome
told : MacOutcome → Result (List ℕ) code.Refusal
told o = pick (eqb (number_in o.answer) 0) (Ok o.mac) (pick (eqb (number_in o.answer) 1) (Err TooLong) (Err KeyLength))

told_back : (r : Result (List ℕ) code.Refusal) → told (called r) ≡ r
unfolding told
told_back (Ok m) = refl
told_back (Err KeyLength) = refl
told_back (Err TooLong) = refl

pub answers-differ : AnswersDiffer
answers-differ r q e = sym (told_back r) ∙ ap told e ∙ told_back q

-- ---- lengths

pub block-length : BlockLength
block-length = length-block

pub mac-length : MacLength
unfolding hmac
mac-length k m = length-sha256 _

-- ---- a kept key

pub kept-gives-hmac : KeptGivesHmac
unfolding key_of mac_of hmac
kept-gives-hmac k m =
    close-resumed (padded opad k) _ (length-padded opad k)
    ∙ ap (λ (d : List ℕ). sha256 (padded opad k ++ d)) (close-resumed (padded ipad k) m (length-padded ipad k))

-- so what it gives has a mac's length
pub kept-length : (k m : List ℕ) → length (mac_of (key_of k) m) ≡ digest_size
kept-length k m = ap length (kept-gives-hmac k m) ∙ mac-length k m
