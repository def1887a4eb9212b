-- The highest place at which two lists of digests differ is the one that the rows from the root down name.
use Prim.Native.Nat.{ℕ, zero, suc, ◌+◌, ◌<◌}
use native.Mathlib.Nat.{add-zero}
use native.Mathlib.Omega.{arith}
use mathlib.Core.Bool.{Bool, true, false, not}
use mathlib.Core.List.{List, [], ◌∷◌}
use mathlib.Core.Logic.{◌≢◌}
use mathlib.Core.Path.{◌≡◌, refl, ap, ◌∙◌}
use lib.IntN.{ℤ}
use lib.ListN.{length, get_or}
use lib.Seq.{ext_get_or}
use Rattle.octets.specs.Answer.{Answer, taken, number_in}
use Rattle.octets.specs.Choice.{pick, first_met}
use Rattle.octets.proofs.Choice.{NoneAnswers, none-append, first-append}
use Rattle.octets.specs.Parts.{same}
use Rattle.octets.proofs.Parts.{same_true, same_false, eq-same, ne_same}
use Rattle.tree.specs.Answer.{mismatch}
use Rattle.tree.specs.Verify.{path_rows, compared_of}
use Rattle.tree.specs.Theorems.{DiffersAt}

-- ---- a refusal is not taken

pub mismatch-refused : (k : ℕ) → mismatch k ≢ taken tt
mismatch-refused k e =
    let z : ◌≡◌ {A = ℕ} 12 0 = ap (λ (a : Answer ℤ (Unit {0})). number_in a) e in
    omega arith

-- no digest that differs is taken
pub path-refuses : (k : ℕ) (xs ys : List (List ℕ)) → NoneAnswers (path_rows k xs ys) (taken tt)
unfolding path_rows
path-refuses k [] ys = tt
path-refuses k (x ∷ xs) [] = tt
path-refuses k (x ∷ xs) (y ∷ ys) =
    none-append (path_rows (suc k) xs ys) ((not (same x y), mismatch k) ∷ []) (taken tt) (path-refuses (suc k) xs ys) (mismatch-refused k, tt)

-- ---- places

-- the rows above the lowest come before it
above-first : (k : ℕ) (x : List ℕ) (xs : List (List ℕ)) (y : List ℕ) (ys : List (List ℕ)) (z : Answer ℤ (Unit {0}))
    → first_met (path_rows k (x ∷ xs) (y ∷ ys)) z ≡ first_met (path_rows (suc k) xs ys) (pick (not (same x y)) (mismatch k) z)
unfolding path_rows
above-first k x xs y ys z = first-append (path_rows (suc k) xs ys) ((not (same x y), mismatch k) ∷ []) z

-- where all agree, none is met
agreeing : (k : ℕ) (xs : List (List ℕ)) (z : Answer ℤ (Unit {0})) → first_met (path_rows k xs xs) z ≡ z
unfolding path_rows
agreeing k [] z = refl
agreeing k (x ∷ xs) z = above-first k x xs x xs z ∙ rw (eq-same x x refl) (agreeing (suc k) xs z)

-- a place of the tails is the next of the whole lists
differs-up : (x y : List ℕ) (xs ys : List (List ℕ)) (j : ℕ) → DiffersAt xs ys j → DiffersAt (x ∷ xs) (y ∷ ys) (suc j)
differs-up x y xs ys j d = record { inside = omega (arith, d.inside); differ = d.differ; agree = above }
  where
    above : (i : ℕ) → suc j < i → i < length (x ∷ xs) → get_or (x ∷ xs) i [] ≡ get_or (y ∷ ys) i []
    above zero l m = absurd (omega arith)
    above (suc i) l m = d.agree i (omega arith) (omega arith)

differs-down : (x y : List ℕ) (xs ys : List (List ℕ)) (j : ℕ) → DiffersAt (x ∷ xs) (y ∷ ys) (suc j) → DiffersAt xs ys j
differs-down x y xs ys j d =
    record { inside = omega (arith, d.inside); differ = d.differ; agree = λ i l m. d.agree (suc i) (omega arith) (omega arith) }

-- the place that is named
highest : (j k : ℕ) (xs ys : List (List ℕ)) (z : Answer ℤ (Unit {0})) → length xs ≡ length ys → DiffersAt xs ys j → first_met (path_rows k xs ys) z ≡ mismatch (k + j)
highest j k [] ys z e d = absurd (omega (arith, d.inside))
highest j k (x ∷ xs) [] z e d = absurd (omega arith)
highest zero k (x ∷ xs) (y ∷ ys) z e d =
    let tails : xs ≡ ys = ext_get_or [] xs ys (omega arith) (λ i l. d.agree (suc i) (omega arith) (omega arith)) in
    above-first k x xs y ys z ∙ rw (tails, ne_same x y d.differ, add-zero) (agreeing (suc k) ys (mismatch k))
highest (suc j) k (x ∷ xs) (y ∷ ys) z e d =
    let n : suc k + j ≡ k + suc j = omega arith in
    above-first k x xs y ys z ∙ highest j (suc k) xs ys (pick (not (same x y)) (mismatch k) z) (omega arith) (differs-down x y xs ys j d) ∙ ap mismatch n

-- two lists of digests agree, or differ at some highest place
pub data Compared (xs ys : List (List ℕ)) : Type 0 where
  agree : xs ≡ ys → Compared xs ys
  differ : (k : ℕ) → DiffersAt xs ys k → Compared xs ys

pub compared : (xs ys : List (List ℕ)) → length xs ≡ length ys → Compared xs ys
compared [] [] e = agree refl
compared [] (y ∷ ys) e = absurd (omega arith)
compared (x ∷ xs) [] e = absurd (omega arith)
compared (x ∷ xs) (y ∷ ys) e = go (compared xs ys (omega arith)) (same x y) refl
  where
    lowest : xs ≡ ys → x ≢ y → DiffersAt (x ∷ xs) (y ∷ ys) 0
    lowest tails n = record { inside = omega arith; differ = n; agree = above }
      where
        above : (i : ℕ) → 0 < i → i < length (x ∷ xs) → get_or (x ∷ xs) i [] ≡ get_or (y ∷ ys) i []
        above zero l m = absurd (omega arith)
        above (suc i) l m = ap (λ (l : List (List ℕ)). get_or l i []) tails

    go : Compared xs ys → (t : Bool) → same x y ≡ t → Compared (x ∷ xs) (y ∷ ys)
    go (agree tails) true q = agree (rw (same_true x y q, tails))
    go (agree tails) false q = differ 0 (lowest tails (same_false x y q))
    go (differ j d) t q = differ (suc j) (differs-up x y xs ys j d)

pub agree-taken : (xs ys : List (List ℕ)) → xs ≡ ys → compared_of xs ys ≡ taken tt
agree-taken xs ys e = rw e (agreeing 0 ys (taken tt))

pub differ-named : (xs ys : List (List ℕ)) (k : ℕ) → length xs ≡ length ys → DiffersAt xs ys k → compared_of xs ys ≡ mismatch k
differ-named xs ys k e d =
    let z : 0 + k ≡ k = omega arith in
    highest k 0 xs ys (taken tt) e d ∙ ap mismatch z
