-- What a volume's call leaves, a row of `called` at a time.
use Prim.Native.Nat.{ℕ}
use mathlib.Core.Bool.{Bool, true, false}
use mathlib.Core.List.{List, [], ◌∷◌}
use mathlib.Core.Path.{◌≡◌, refl}
use lib.ListN.{length}
use borrow.Author.Tests.{eq-eqb, ne_eqb}
use Rattle.octets.specs.Choice.{first_met, differs}
use Rattle.c_numbers.specs.Sizes.{answer_size}
use Rattle.c_numbers.specs.Called.{Called, called, CalledRows, Keeps}

pub called-rows : (A : Type 0) → CalledRows A
unfolding called
called-rows A =
    record {
      wrong = λ a bad before made h. rw (ne_eqb (length a) answer_size h);
      refused = λ a before made h. rw (eq-eqb (length a) answer_size h);
      made = λ a before made h. rw (eq-eqb (length a) answer_size h);
    }

module _ {A : Type 0} (a : List ℕ) (bad : Bool) (before : A) (made : Called A) where
  -- where a refused call that passed both tests leaves the other buffers as they were, so does every refused one
  pub called-keeps : (bad ≡ false → Keeps made before) → Keeps (called a bad before made) before
  unfolding called
  called-keeps = go (differs (length a) answer_size) bad _ _ refl refl
    where
      go : (t u : Bool) (x y : Called A) → x.left ≡ before → y.left ≡ before → (u ≡ false → Keeps made before)
          → Keeps (first_met ((t, x) ∷ (u, y) ∷ []) made) before
      go true u x y ex ey k h = ex
      go false true x y ex ey k h = ey
      go false false x y ex ey k h = k refl h
