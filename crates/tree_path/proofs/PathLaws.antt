-- Laws of a path: the digests computed, filled in upwards, and what stands above them.
use Prim.Native.Nat.{ℕ, zero, suc, ◌+◌, ◌-◌, ◌*◌, ◌/◌, ◌<◌}
use native.Mathlib.Numerals.{add-one}
use native.Mathlib.Omega.{arith}
use mathlib.Core.List.{List, [], ◌∷◌, ◌++◌}
use mathlib.Core.Path.{◌≡◌, refl, ap, ◌∙◌}
use lib.ListN.{length, get_or, take, drop, set}
use lib.Seq.{take-suc, take-suc-set, take_at}
use Rattle.octets.specs.Parts.{part}
use Rattle.digest.specs.Sha256.{digest_size}
use Rattle.tree_path.specs.Places.{block_size}
use Rattle.tree_path.specs.Tree.{block_of, block_digest}
use Rattle.tree_path.specs.Path.{risers_of, computed_of, standing_of}

-- ---- the digests computed: those of the data block and of j hash blocks are there

module _ (s t b ps : List ℕ) (r : List (List ℕ)) where
  risers-snoc : (qs : List ℕ) (p : ℕ) → risers_of s t (qs ++ (p ∷ [])) ≡ risers_of s t qs ++ (block_digest s (block_of t (p / block_size)) ∷ [])
  unfolding risers_of
  risers-snoc [] p = refl
  risers-snoc (q ∷ qs) p = ap (λ (x : List (List ℕ)). block_digest s (block_of t (q / block_size)) ∷ x) (risers-snoc qs p)

  pub computed-start : (d : List ℕ) → 0 < length r → d ≡ block_digest s b → take (0 + 1) (set r 0 d) ≡ computed_of s t b (take 0 ps)
  unfolding risers_of
  computed-start d l e = rw e (take-suc-set r 0 (block_digest s b) l)

  pub computed-turn : (d : List ℕ) (j : ℕ) → j < length ps → j + 1 < length r
      → d ≡ block_digest s (take (get_or ps j 0 / block_size * block_size + block_size - get_or ps j 0 / block_size * block_size) (drop (get_or ps j 0 / block_size * block_size) t))
      → take (j + 1) r ≡ computed_of s t b (take j ps) → take (j + 1 + 1) (set r (j + 1) d) ≡ computed_of s t b (take (j + 1) ps)
  computed-turn d j l f ed e =
      let n : get_or ps j 0 / block_size * block_size + block_size - get_or ps j 0 / block_size * block_size ≡ block_size = omega arith in
      let g : take (j + 1) ps ≡ take j ps ++ (get_or ps j 0 ∷ []) = rw add-one (take-suc ps j 0 l) in
      rw (add-one (j + 1), take-suc-set r (j + 1) d f, e, g, risers-snoc, ed, n)

-- ---- how many they are

pub length-computed : (s t b ps : List ℕ) → length (computed_of s t b ps) ≡ length ps + 1
unfolding risers_of
length-computed s t b ps = omega (arith, go ps)
  where
    go : (ps : List ℕ) → length (risers_of s t ps) ≡ length ps
    go [] = refl
    go (p ∷ ps) = ap suc (go ps)

-- of an array that begins with them
pub first-computed : (s t b ps : List ℕ) (ds q : List (List ℕ)) (h : ℕ) → length ps ≡ h → ds ≡ computed_of s t b ps ++ q → take (h + 1) ds ≡ computed_of s t b ps
first-computed s t b ps ds q h n e =
    ap (take (h + 1)) e ∙ take_at (computed_of s t b ps) q (h + 1) (length-computed s t b ps ∙ ap (λ (k : ℕ). k + 1) n)

-- ---- what stands above the digests

pub length-standing : (r t ps : List ℕ) → length (standing_of r t ps) ≡ length ps + 1
unfolding standing_of
length-standing r t [] = refl
length-standing r t (p ∷ ps) = omega (arith, length-standing r t ps)

pub standing-at : (r t ps : List ℕ) (k : ℕ) → k < length ps → get_or (standing_of r t ps) k [] ≡ part t (get_or ps k 0) digest_size
unfolding standing_of
standing-at r t [] k l = absurd (omega arith)
standing-at r t (p ∷ ps) zero l = refl
standing-at r t (p ∷ ps) (suc k) l = standing-at r t ps k (omega arith)

pub standing-top : (r t ps : List ℕ) → get_or (standing_of r t ps) (length ps) [] ≡ r
unfolding standing_of
standing-top r t [] = refl
standing-top r t (p ∷ ps) = standing-top r t ps
