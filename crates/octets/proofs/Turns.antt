-- One turn of each loop over bytes, and of one that fills in an array, and what a fold over two lists gives, over plain lists.
use Prim.Native.Nat.{ℕ, suc, ◌+◌, ◌-◌, ◌/◌, ◌%◌, ◌≤◌, ◌<◌}
use native.Mathlib.Numerals.{add-one}
use native.Mathlib.Omega.{arith}
use mathlib.Core.Bool.{Bool, true, false, ◌&&◌}
use mathlib.Core.List.{List, [], ◌∷◌, ◌++◌}
use mathlib.Core.Path.{◌≡◌, refl, sym, ap, ◌∙◌}
use lib.ListN.{length, take, drop, get_or, set, replicate, take-append-drop}
use lib.Dec.{eqb}
use lib.Seq.{drop-drop, drop-set-lt, get_or-drop, take-suc, take-suc-set, take_all, paste, paste-suc}
use Rattle.std.specs.List.{fold, zip}
use Rattle.octets.specs.Numbers.{le}
use Rattle.octets.specs.Parts.{same}
use Rattle.octets.proofs.Numbers.{length-le}

-- ---- a loop that writes into a slice: its content is d with the first i elements of w pasted in at index at

pub turn : (d : List ℕ) (at : ℕ) (w : List ℕ) → at + length w ≤ length d
    → (e : List ℕ) (i x : ℕ) → i < length w → x ≡ get_or w i 0 → e ≡ paste d at w i → set e (at + i) x ≡ paste d at w (i + 1)
turn d at w fits e i x l q r = rw (q, r, add-one) (paste-suc d at w i 0 (omega arith) l)

-- ---- a loop that fills in an array of n elements: z stands behind the first j

pub rest-turn : {A : Type 0} (z a : A) (r : List A) (n j : ℕ) → j < n → drop j r ≡ replicate (n - j) z → drop (j + 1) (set r j a) ≡ replicate (n - (j + 1)) z
rest-turn z a r n j l e =
    let next : n - j ≡ suc (n - (j + 1)) = omega arith in
    drop-set-lt (j + 1) r j a (omega arith) ∙ sym (drop-drop 1 j r) ∙ ap (drop 1) (e ∙ ap (λ (k : ℕ). replicate k z) next)

pub rest_end : {A : Type 0} (z : A) (r xs : List A) (n j k : ℕ) → n - j ≡ k → take j r ≡ xs → drop j r ≡ replicate (n - j) z → r ≡ xs ++ replicate k z
rest_end z r xs n j k e front rest = sym (take-append-drop j r) ∙ rw (front, rest, e)

-- ---- a loop that writes a number, from its first byte up: s has the first i bytes, and v is what is left of x

module _ (n i x v : ℕ) (s : List ℕ) (more : i < n) (size : length s ≡ n) (left : drop i (le n x) ≡ le (n - i) v) where
  left-bytes : drop i (le n x) ≡ (v % 256) ∷ le (n - (i + 1)) (v / 256)
  left-bytes =
      let a : n - i ≡ suc (n - (i + 1)) = omega arith in
      left ∙ ap (λ (k : ℕ). le k v) a

  byte : v % 256 ≡ get_or (le n x) i 0
  byte =
      let z : i + 0 ≡ i = omega arith in
      sym (ap (λ (r : List ℕ). get_or r 0 0) left-bytes) ∙ get_or-drop i (le n x) 0 0 ∙ ap (λ (k : ℕ). get_or (le n x) k 0) z

  pub le-written : take i s ≡ take i (le n x) → take (i + 1) (set s i (v % 256)) ≡ take (i + 1) (le n x)
  le-written e =
      rw (add-one, take-suc-set s i (v % 256) (omega arith), take-suc (le n x) i 0 (omega (arith, length-le n x)), e, byte)

  pub le-rest : drop (i + 1) (le n x) ≡ le (n - (i + 1)) (v / 256)
  le-rest = sym (drop-drop 1 i (le n x)) ∙ ap (drop 1) left-bytes

-- with all of them written
pub le_all : (n i x : ℕ) (s : List ℕ) → i ≡ n → length s ≡ n → take i s ≡ take i (le n x) → s ≡ le n x
le_all n i x s end size e = sym (take_all i s (omega arith)) ∙ e ∙ take_all i (le n x) (omega (arith, length-le n x))

-- ---- a fold that compares two lists, element by element

and_assoc : (r s t : Bool) → ((r && s) && t) ≡ (r && (s && t))
and_assoc true s t = refl
and_assoc false s t = refl

and_true : (t : Bool) → t ≡ (t && true)
and_true true = refl
and_true false = refl

pub fold-same : (p q : List ℕ) (t : Bool) → length p ≡ length q → fold (λ (s : Bool) (z : ℕ × ℕ). s && eqb z.0 z.1) t (zip p q) ≡ (t && same p q)
fold-same [] [] t e = and_true t
fold-same [] (y ∷ q) t e = absurd (omega (arith, e))
fold-same (x ∷ p) [] t e = absurd (omega (arith, e))
fold-same (x ∷ p) (y ∷ q) t e = fold-same p q (t && eqb x y) (omega (arith, e)) ∙ and_assoc t (eqb x y) (same p q)
