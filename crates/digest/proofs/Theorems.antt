-- The theorems of specs/Theorems.
use mathlib.Core.Path.{◌≡◌, refl, sym, ap, ◌∙◌}
use Prim.Native.Nat.{ℕ, ◌+◌, ◌*◌, ◌%◌}
use mathlib.Core.List.{List}
use Rattle.std.specs.Prelude.{Result, Ok, Err}
use native.Mathlib.Omega.{arith}
use lib.ListN.{length, replicate, length-append, length-replicate}
use Rattle.octets.specs.Answer.{Answer, is_taken}
use Rattle.octets.specs.Choice.{pick}
use Rattle.octets.specs.Numbers.{be}
use Rattle.octets.proofs.Numbers.{length-be}
use Rattle.digest.specs.declared.State.{State}
use Rattle.digest.specs.declared.TooLong.{TooLong}
use Rattle.digest.specs.Pieces.{UpdateOutcome, updated, DigestOutcome, closed}
use Rattle.digest.specs.Padding.{zero_bytes_of, padding_of}
use Rattle.digest.specs.Theorems.{AnswersDiffer, ZeroBitsSolve, ZeroBitsLeast, PaddedWhole}

-- ---- answers

-- what the code returned, told by the outcome
told : {A : Type 0} → Answer ℕ (Unit {0}) → A → Result A TooLong
told a x = pick (is_taken a) (Ok x) (Err (record {}))

told_update : (s : State) (r : Result State TooLong) → told (updated s r).answer (updated s r).state ≡ r
unfolding told
told_update s (Ok t) = refl
told_update s (Err e) = refl

told_digest : (r : Result (List ℕ) TooLong) → told (closed r).answer (closed r).digest ≡ r
unfolding told
told_digest (Ok d) = refl
told_digest (Err e) = refl

pub answers-differ : AnswersDiffer
answers-differ = (
  λ s r q e. sym (told_update s r) ∙ ap (λ (o : UpdateOutcome). told o.answer o.state) e ∙ told_update s q,
  λ r q e. sym (told_digest r) ∙ ap (λ (o : DigestOutcome). told o.answer o.digest) e ∙ told_digest q,
)

-- ---- the padding

pub zero-bits-solve : ZeroBitsSolve
unfolding zero_bytes_of
zero-bits-solve c = omega arith

pub zero-bits-least : ZeroBitsLeast
unfolding zero_bytes_of
zero-bits-least c k e = omega arith

-- the same in bytes
zero-bytes-solve : (c : ℕ) → (c + 1 + zero_bytes_of c) % 64 ≡ 56
unfolding zero_bytes_of
zero-bytes-solve c = omega arith

pub padded-whole : PaddedWhole
unfolding padding_of
padded-whole c =
    let zeros : length (replicate {A = ℕ} (zero_bytes_of c) 0) ≡ zero_bytes_of c = length-replicate (zero_bytes_of c) 0 in
    let eight : length (be 8 (8 * c)) ≡ 8 = length-be 8 (8 * c) in
    rw (length-append, zeros, eight) (omega (arith, zero-bytes-solve c))
