-- What a call leaves that is lent one buffer to write to: the row of a buffer's length, and the call made.
use Prim.Native.Nat.{ℕ}
use native.Mathlib.Omega.{arith}
use mathlib.Core.Bool.{true, false}
use mathlib.Core.List.{List}
use mathlib.Core.Logic.{◌≢◌}
use mathlib.Core.Path.{◌≡◌, sym, ap, ◌∙◌}
use borrow.Author.Tests.{eq-eqb, ne_eqb}
use Rattle.octets.specs.Answer.{Answer, taken, refused, is_taken, number_in}
use Rattle.octets.specs.Choice.{pick, differs}
use Rattle.c_numbers.specs.Outcome.{done, refused_with, answering}

-- ---- the row of a length l that is to be k; z is k as the code has it

module _ {l k z : ℕ} (ez : z ≡ k) where
  length-differs : l ≢ z → differs l k ≡ true
  length-differs h = rw (ne_eqb l k (λ e. h (e ∙ sym ez)))

  length-agrees : l ≡ z → differs l k ≡ false
  length-agrees h = rw (eq-eqb l k (h ∙ ez))

  module _ {A : Type 0} (x y : A) where
    pub length-wrong : l ≢ z → x ≡ pick (differs l k) x y
    length-wrong h = rw (length-differs h)

    pub length-right : l ≡ z → y ≡ pick (differs l k) x y
    length-right h = rw (length-agrees h)

-- ---- a call that was made

-- answers of the code, of which those that are refused have another number than `done`
module _ {Value A T : Type 0} (answer_of : T → Answer Value A) (only : (a : T) → number_in (answer_of a) ≡ done → is_taken (answer_of a) ≡ true) where
  -- a is the code's answer, o the definition's, n the code's number
  module _ (a : T) {o : Answer Value A} {n : ℕ} (eo : answer_of a ≡ o) (en : n ≡ number_in (answer_of a)) where
    pub number-told : n ≡ number_in o
    number-told = en ∙ ap (λ (x : Answer Value A). number_in x) eo

    pub done-taken : n ≡ done → is_taken o ≡ true
    done-taken h = ap (λ (x : Answer Value A). is_taken x) (sym eo) ∙ only a (sym en ∙ h)

    module _ (before after : List ℕ) {w : ℕ} (ew : w ≡ done) where
      pub answering-refused : n ≢ w → refused_with n before ≡ answering o before after
      answering-refused h = go o number-told
        where
          go : (o : Answer Value A) → n ≡ number_in o → refused_with n before ≡ answering o before after
          go (taken x) e = absurd (h (e ∙ sym ew))
          go (refused r) e = ap (λ (k : ℕ). refused_with k before) e

      pub answering-done : {b : List ℕ} → n ≡ w → b ≡ after → refused_with n b ≡ answering o before after
      answering-done {b} h eb = go o (done-taken (h ∙ ew))
        where
          go : (o : Answer Value A) → is_taken o ≡ true → refused_with n b ≡ answering o before after
          go (taken x) e = λ i. record { number = (h ∙ ew) i; buffer = eb i }
          go (refused r) e = absurd (let z : ◌≡◌ {A = ℕ} 1 0 = cc in omega arith)
