-- What a rule gives, over plain lists.
use Prim.Native.Nat.{ℕ, ◌≤◌}
use mathlib.Core.Bool.{true}
use mathlib.Core.List.{List, ◌++◌}
use mathlib.Core.Path.{◌≡◌, refl, ap, ◌∙◌}
use native.Mathlib.Omega.{arith}
use lib.ListN.{length, replicate, length-append}
use lib.Dec.{leb}
use borrow.Author.Tests.{leb-true}
use Rattle.octets.specs.Numbers.{le}
use Rattle.octets.specs.Parts.{patch}
use Rattle.octets.proofs.Numbers.{length-le}
use Rattle.octets.proofs.Parts.{patch-all}
use Rattle.std.specs.Prelude.{Result, Ok}
use Rattle.digest.specs.declared.TooLong.{TooLong}
use Rattle.digest.specs.Pieces.{limit, closed, digest_of}
use Rattle.digest.specs.Sha256.{sha256}
use Rattle.digest.specs.Sha256.Promise.{length-sha256, digest-given}
use Rattle.hmac.specs.Hmac.{key_ok}
use Rattle.on_disk.proofs.Addresses.{and_both}

-- a key that a call takes is within the digest's limit
pub key_fits : (k : List ℕ) → key_ok k ≡ true → length k ≤ limit
key_fits k e = omega (arith, leb-true (length k) 256 (and_both (leb 1 (length k)) (leb (length k) 256) e).1)

pub number_is : (s : ℕ) (n : List ℕ) → n ≡ patch (replicate 8 0) 0 (le 8 s) → n ≡ le 8 s
number_is s n e = e ∙ patch-all (replicate 8 0) (le 8 s) refl

-- by R14: the digest of a sector's number and its bytes is within the limit
module _ (s : ℕ) (b n : List ℕ) (r : Result (List ℕ) TooLong) (whole : length b ≡ 512) (en : n ≡ patch (replicate 8 0) 0 (le 8 s)) (er : closed r ≡ digest_of (n ++ b)) where
  pub digested : r ≡ Ok (sha256 (le 8 s ++ b))
  digested =
      let size : length (le 8 s ++ b) ≡ 520 = rw (length-append, length-le 8 s, whole) in
      digest-given (le 8 s ++ b) r (omega arith) (er ∙ ap (λ (m : List ℕ). digest_of (m ++ b)) (number_is s n en))

  pub plain : (d : List ℕ) → r ≡ Ok d → (d ≡ sha256 (le 8 s ++ b)) × (length d ≡ 32)
  plain d ed =
      let taken : d ≡ sha256 (le 8 s ++ b) = cc (ed, digested) in
      (taken, ap length taken ∙ length-sha256 (le 8 s ++ b))
