-- What the call leaves, a `return` at a time, over plain values. A size z, and a number w or n, is what the code has for the definition's.
use Prim.Native.Nat.{ℕ}
use mathlib.Core.List.{List}
use mathlib.Core.Logic.{◌≢◌}
use mathlib.Core.Path.{◌≡◌, ap, ◌∙◌}
use lib.ListN.{length}
use Rattle.std.specs.Prelude.{Ok, Err}
use Rattle.octets.specs.Answer.{number_in}
use Rattle.digest.specs.Sha256.{digest_size}
use Rattle.hmac.specs.declared.Refusal.{Refusal}
use Rattle.hmac.specs.declared.Refusal.TheVariants.{KeyLength, TooLong}
use Rattle.hmac.specs.Answer.{answer_of}
use Rattle.hmac.specs.Call.{MacOutcome, called, mac_call_of}
use Rattle.c_numbers.specs.Outcome.{done, wrong_length, refused_with, answering}
use Rattle.c_numbers.proofs.Outcomes.{length-wrong, length-right}
use Rattle.c_hmac.specs.Hmac.{hmac_call}

module _ (k m d : List ℕ) {z : ℕ} (ez : z ≡ digest_size) where
  pub hmac-wrong : {n : ℕ} → n ≡ wrong_length → length d ≢ z → refused_with n d ≡ hmac_call k m d
  unfolding hmac_call
  hmac-wrong en h = ap (λ (n : ℕ). refused_with n d) en ∙ length-wrong ez _ _ h

  module _ (fits : length d ≡ z) where
    answered : {o : MacOutcome} → o ≡ mac_call_of k m → answering o.answer d o.mac ≡ hmac_call k m d
    unfolding hmac_call
    answered e = ap (λ (o : MacOutcome). answering o.answer d o.mac) e ∙ length-right ez _ _ fits

    pub hmac-refused : {n : ℕ} (x : Refusal) → called (Err x) ≡ mac_call_of k m → n ≡ number_in (answer_of x) → refused_with n d ≡ hmac_call k m d
    hmac-refused KeyLength e en = ap (λ (n : ℕ). refused_with n d) en ∙ answered e
    hmac-refused TooLong e en = ap (λ (n : ℕ). refused_with n d) en ∙ answered e

    pub hmac-done : {n : ℕ} {b x : List ℕ} → called (Ok x) ≡ mac_call_of k m → n ≡ done → b ≡ x → refused_with n b ≡ hmac_call k m d
    hmac-done e en eb = (λ i. refused_with (en i) (eb i)) ∙ answered e
