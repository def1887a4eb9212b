-- What each call leaves, a `return` at a time, over plain values. A size z, and a number w or n, is what the code has for the definition's.
use Prim.Native.Nat.{ℕ}
use mathlib.Core.List.{List}
use mathlib.Core.Logic.{◌≢◌}
use mathlib.Core.Path.{◌≡◌, ap, ◌∙◌}
use lib.ListN.{length}
use Rattle.std.specs.Prelude.{Ok, Err}
use Rattle.octets.specs.Answer.{number_in}
use Rattle.digest.specs.declared.TooLong.{TooLong}
use Rattle.digest.specs.declared.State.{State}
use Rattle.digest.specs.Answer.{answer_of}
use Rattle.digest.specs.Sha256.{digest_size}
use Rattle.digest.specs.Pieces.{fresh_of, UpdateOutcome, updated, update_of, DigestOutcome, closed, finish_of, digest_of}
use Rattle.c_numbers.specs.Sizes.{digest_state_size}
use Rattle.c_numbers.specs.Outcome.{done, wrong_length, refused_with, answering}
use Rattle.c_numbers.proofs.Outcomes.{length-wrong, length-right}
use Rattle.c_digest.specs.DigestState.{decode_of, encode_of}
use Rattle.c_digest.specs.Sha256.{sha256_call, new_call, update_call, finish_call}

refused_as : {n : ℕ} (b : List ℕ) → n ≡ wrong_length → refused_with n b ≡ refused_with wrong_length b
refused_as b e = ap (λ (k : ℕ). refused_with k b) e

-- ---- sha256

module _ (m d : List ℕ) {z : ℕ} (ez : z ≡ digest_size) where
  pub sha256-wrong : {n : ℕ} → n ≡ wrong_length → length d ≢ z → refused_with n d ≡ sha256_call m d
  unfolding sha256_call
  sha256-wrong en h = refused_as d en ∙ length-wrong ez _ _ h

  module _ (fits : length d ≡ z) where
    answered : {o : DigestOutcome} → o ≡ digest_of m → answering o.answer d o.digest ≡ sha256_call m d
    unfolding sha256_call
    answered e = ap (λ (o : DigestOutcome). answering o.answer d o.digest) e ∙ length-right ez _ _ fits

    pub sha256-refused : {n : ℕ} (x : TooLong) → closed (Err x) ≡ digest_of m → n ≡ number_in (answer_of x) → refused_with n d ≡ sha256_call m d
    sha256-refused x e en = ap (λ (k : ℕ). refused_with k d) en ∙ answered e

    pub sha256-done : {n : ℕ} {b x : List ℕ} → closed (Ok x) ≡ digest_of m → n ≡ done → b ≡ x → refused_with n b ≡ sha256_call m d
    sha256-done e en eb = (λ i. refused_with (en i) (eb i)) ∙ answered e

-- ---- new

module _ (s : List ℕ) {z n : ℕ} (ez : z ≡ digest_state_size) where
  pub new-wrong : n ≡ wrong_length → length s ≢ z → refused_with n s ≡ new_call s
  unfolding new_call
  new-wrong en h = refused_as s en ∙ length-wrong ez _ _ h

  pub new-done : {b : List ℕ} {f : State} → length s ≡ z → n ≡ done → f ≡ fresh_of → b ≡ encode_of f → refused_with n b ≡ new_call s
  unfolding new_call
  new-done fits en ef eb = (λ i. refused_with (en i) ((eb ∙ ap encode_of ef) i)) ∙ length-right ez _ _ fits

-- ---- update

module _ (s p : List ℕ) {z : ℕ} (ez : z ≡ digest_state_size) where
  pub update-wrong : {n : ℕ} → n ≡ wrong_length → length s ≢ z → refused_with n s ≡ update_call s p
  unfolding update_call
  update-wrong en h = refused_as s en ∙ length-wrong ez _ _ h

  module _ (fits : length s ≡ z) {t : State} (et : t ≡ decode_of s) where
    added : {o : UpdateOutcome} → o ≡ update_of t p → answering o.answer s (encode_of o.state) ≡ update_call s p
    unfolding update_call
    added e = ap (λ (o : UpdateOutcome). answering o.answer s (encode_of o.state)) (e ∙ ap (λ (x : State). update_of x p) et) ∙ length-right ez _ _ fits

    pub update-refused : {n : ℕ} (x : TooLong) → updated t (Err x) ≡ update_of t p → n ≡ number_in (answer_of x) → refused_with n s ≡ update_call s p
    update-refused x e en = ap (λ (k : ℕ). refused_with k s) en ∙ added e

    pub update-done : {n : ℕ} {b : List ℕ} {x : State} → updated t (Ok x) ≡ update_of t p → n ≡ done → b ≡ encode_of x → refused_with n b ≡ update_call s p
    update-done e en eb = (λ i. refused_with (en i) (eb i)) ∙ added e

-- ---- finish

module _ (s d : List ℕ) {y : ℕ} (ey : y ≡ digest_state_size) where
  pub finish-wrong-state : {n : ℕ} → n ≡ wrong_length → length s ≢ y → refused_with n d ≡ finish_call s d
  unfolding finish_call
  finish-wrong-state en h = refused_as d en ∙ length-wrong ey _ _ h

  module _ (state-fits : length s ≡ y) {z : ℕ} (ez : z ≡ digest_size) where
    pub finish-wrong-digest : {n : ℕ} → n ≡ wrong_length → length d ≢ z → refused_with n d ≡ finish_call s d
    unfolding finish_call
    finish-wrong-digest en h = refused_as d en ∙ length-wrong ez _ _ h ∙ length-right ey _ _ state-fits

    module _ (fits : length d ≡ z) {t : State} (et : t ≡ decode_of s) where
      finished : {o : DigestOutcome} → o ≡ finish_of t → answering o.answer d o.digest ≡ finish_call s d
      unfolding finish_call
      finished e =
          ap (λ (o : DigestOutcome). answering o.answer d o.digest) (e ∙ ap finish_of et) ∙ length-right ez _ _ fits ∙ length-right ey _ _ state-fits

      pub finish-refused : {n : ℕ} (x : TooLong) → closed (Err x) ≡ finish_of t → n ≡ number_in (answer_of x) → refused_with n d ≡ finish_call s d
      finish-refused x e en = ap (λ (k : ℕ). refused_with k d) en ∙ finished e

      pub finish-done : {n : ℕ} {b x : List ℕ} → closed (Ok x) ≡ finish_of t → n ≡ done → b ≡ x → refused_with n b ≡ finish_call s d
      finish-done e en eb = (λ i. refused_with (en i) (eb i)) ∙ finished e
