-- Each way through the call, over plain lists.
use Prim.Native.Nat.{ℕ, ◌≤◌, ◌<◌}
use mathlib.Core.Bool.{Bool, true, false, ◌&&◌}
use mathlib.Core.Path.{◌≡◌, ap, ◌∙◌}
use mathlib.Core.List.{List, [], ◌++◌, append-nil}
use native.Mathlib.Omega.{arith}
use lib.Dec.{leb}
use lib.ListN.{length}
use borrow.Author.Tests.{leb-true, le-ltb, lt-ltb}
use Rattle.std.specs.Prelude.{Ok, Err}
use Rattle.digest.specs.Pieces.{limit}
use Rattle.hmac.specs.declared.Refusal.TheVariants.{KeyLength, TooLong}
use Rattle.hmac.specs.declared.Key.{Key}
use Rattle.hmac.specs.Hmac.{most_key, key_ok}
use Rattle.hmac.specs.Kept.{key_of, mac_of}
use Rattle.hmac.specs.Call.{message_limit, called, mac_call_of}
use Rattle.hmac.proofs.Theorems.{kept-gives-hmac}

and_right : (a b : Bool) → (a && b) ≡ true → b ≡ true
and_right true b e = e
and_right false b e = absurd (let z : ◌≡◌ {A = ℕ} 0 1 = cc in omega arith)

-- a key that is taken is within the digest's limit
pub key_fits : (k : List ℕ) → key_ok k ≡ true → length k ≤ limit
key_fits k e = omega (arith, leb-true (length k) most_key (and_right (leb 1 (length k)) (leb (length k) most_key) e))

module _ (k m : List ℕ) where
  pub key-refused : key_ok k ≡ false → called (Err KeyLength) ≡ mac_call_of k m
  unfolding mac_call_of
  key-refused e = rw e

  pub message-refused : key_ok k ≡ true → message_limit < length m → called (Err TooLong) ≡ mac_call_of k m
  unfolding mac_call_of
  message-refused e past = rw (e, lt-ltb message_limit (length m) past)

  pub given : (x : Key) (d : List ℕ) → key_ok k ≡ true → length m ≤ message_limit → x ≡ key_of k → d ≡ mac_of x (m ++ []) → called (Ok d) ≡ mac_call_of k m
  unfolding mac_call_of
  given x d e fits ex ed =
      let mac = ed ∙ ap (λ (y : Key). mac_of y (m ++ [])) ex ∙ ap (mac_of (key_of k)) (append-nil m) ∙ kept-gives-hmac k m in
      rw (mac, e, le-ltb message_limit (length m) fits)
