-- The fields of a superblock: it is valid where the bytes that hold no number are the fixed ones.
use Prim.Native.Nat.{ℕ, ◌+◌, ◌%◌, ◌≤◌}
use mathlib.Core.Bool.{Bool, true, false, ◌&&◌}
use mathlib.Core.List.{List, [], ◌∷◌, ◌++◌}
use mathlib.Core.Path.{◌≡◌, refl, sym, ap, ◌∙◌}
use native.Mathlib.Omega.{arith}
use lib.Dec.{eqb}
use Rattle.std.specs.List.{list_all}
use Rattle.std.proofs.lemmas.List.Recursion.{same_from_clauses}
use lib.ListN.{length, drop, get_or, replicate, length-append, length-drop, length-replicate, take-append-drop}
use lib.Seq.{drop-cons, drop-drop}
use Rattle.octets.specs.Numbers.{Bytes, le, value}
use Rattle.octets.specs.Parts.{part, patch, same}
use Rattle.octets.proofs.Numbers.{le-value}
use Rattle.octets.proofs.Parts.{length_part, patch-join, patch-all, eq-same, bytes-part}
use Rattle.on_disk.specs.Layout.{layout_ok}
use Rattle.on_disk.specs.Superblock.{magic, superblock_of, layout_in, is_zero, superblock_ok}
use Rattle.on_disk.specs.declared.Layout.{Layout}

-- ---- bytes that are all zero

pub zeros : (b : List ℕ) → list_all (λ x. eqb x 0) b ≡ is_zero b
zeros = same_from_clauses (list_all (λ x. eqb x 0)) is_zero (λ x t. eqb x 0 && t) refl (λ x b. refl) (λ x b. refl)

-- ---- a superblock, field by field

pub same_layout : (g h : Layout) → g.reserved ≡ h.reserved → g.shift ≡ h.shift → g.width ≡ h.width → g.sections ≡ h.sections → g.provided ≡ h.provided → g ≡ h
same_layout g h r n t s p =
    λ i. record { reserved = r i; shift = n i; width = t i; sections = s i; provided = p i }

-- the bytes of a superblock, with z at its end
abbrev fields : List ℕ → ℕ → ℕ → List ℕ → List ℕ → List ℕ → List ℕ → List ℕ
fields m version shift width sections provided z = m ++ (version ∷ shift ∷ (width ++ (sections ++ (provided ++ z))))

same-append : (a b c d : List ℕ) → length a ≡ length c → same (a ++ b) (c ++ d) ≡ same a c && same b d
same-append [] b [] d e = refl
same-append [] b (y ∷ c) d e = absurd (omega arith)
same-append (x ∷ a) b [] d e = absurd (omega arith)
same-append (x ∷ a) b (y ∷ c) d e = go (eqb x y) (same-append a b c d (omega arith))
  where
    go : (t : Bool) → same (a ++ b) (c ++ d) ≡ same a c && same b d → t && same (a ++ b) (c ++ d) ≡ t && same a c && same b d
    go true ih = ih
    go false ih = refl

same-behind : (a b d : List ℕ) → same (a ++ b) (a ++ d) ≡ same b d
same-behind a b d = same-append a b a d refl ∙ rw (eq-same a a refl)

same-fields : (m m' : List ℕ) (v v' n : ℕ) (t s p z z' : List ℕ) → length m ≡ length m'
    → same (fields m v n t s p z) (fields m' v' n t s p z') ≡ same m m' && eqb v v' && same z z'
same-fields m m' v v' n t s p z z' e =
    same-append m (v ∷ n ∷ (t ++ (s ++ (p ++ z)))) m' (v' ∷ n ∷ (t ++ (s ++ (p ++ z')))) e
    ∙ rw (same-behind (n ∷ t) (s ++ (p ++ z)) (s ++ (p ++ z')), same-behind s (p ++ z) (p ++ z'), same-behind p z z') (sym (and_assoc (same m m') (eqb v v') (same z z')))
  where
    and_assoc : (a b c : Bool) → a && b && c ≡ a && (b && c)
    and_assoc true b c = refl
    and_assoc false b c = refl

split : (l : List ℕ) (a n : ℕ) → drop a l ≡ part l a n ++ drop (a + n) l
split l a n = sym (take-append-drop n (drop a l)) ∙ ap (λ (z : List ℕ). part l a n ++ z) (drop-drop n a l)

in-fields : (b : List ℕ) → 24 ≤ length b
    → b ≡ fields (part b 0 8) (get_or b 8 0) (get_or b 9 0) (part b 10 2) (part b 12 4) (part b 16 8) (drop 24 b)
in-fields b h =
    split b 0 8
    ∙ ap (λ (z : List ℕ). part b 0 8 ++ z)
    (drop-cons b 8 0 (omega arith)
    ∙ ap (λ (z : List ℕ). get_or b 8 0 ∷ z)
    (drop-cons b 9 0 (omega arith)
    ∙ ap (λ (z : List ℕ). get_or b 9 0 ∷ z)
    (split b 10 2
    ∙ ap (λ (z : List ℕ). part b 10 2 ++ z)
    (split b 12 4 ∙ ap (λ (z : List ℕ). part b 12 4 ++ z) (split b 16 8)))))

-- the numbers of a superblock, written again, are its own bytes
module _ (r : ℕ) (b : List ℕ) (bytes : Bytes b) (size : length b ≡ 4096) where
  number-again : (a n : ℕ) → a + n ≤ 4096 → le n (value (part b a n)) ≡ part b a n
  number-again a n h =
      ap (λ (k : ℕ). le k (value (part b a n))) (sym (length_part b a n (omega arith))) ∙ le-value (bytes-part a n bytes)

  abbrev from : List ℕ → List ℕ → List ℕ → List ℕ
  from width sections provided = fields magic 128 (get_or b 9 0) width sections provided (replicate 4072 0)

  written : superblock_of (layout_in r b) ≡ from (part b 10 2) (part b 12 4) (part b 16 8)
  unfolding superblock_of
  written =
      ap (λ (x : List ℕ). from x (le 4 (value (part b 12 4))) (le 8 (value (part b 16 8)))) (number-again 10 2 (omega arith))
      ∙ ap (λ (x : List ℕ). from (part b 10 2) x (le 8 (value (part b 16 8)))) (number-again 12 4 (omega arith))
      ∙ ap (from (part b 10 2) (part b 12 4)) (number-again 16 8 (omega arith))

  pub valid : same (part b 0 8) magic && eqb (get_or b 8 0) 128 && is_zero (drop 24 b) && layout_ok (layout_in r b) ≡ superblock_ok r b
  valid =
      let rest : length (drop 24 b) ≡ 4072 = length-drop 24 b ∙ omega arith in
      let whole : same b (superblock_of (layout_in r b)) ≡ same (part b 0 8) magic && eqb (get_or b 8 0) 128 && same (drop 24 b) (replicate 4072 0) =
      ap (λ (x : List ℕ). same x (superblock_of (layout_in r b))) (in-fields b (omega arith))
      ∙ ap (same (fields (part b 0 8) (get_or b 8 0) (get_or b 9 0) (part b 10 2) (part b 12 4) (part b 16 8) (drop 24 b))) written
      ∙ same-fields (part b 0 8) magic (get_or b 8 0) 128 (get_or b 9 0) (part b 10 2) (part b 12 4) (part b 16 8) (drop 24 b) (replicate 4072 0) (length_part b 0 8 (omega arith)) in
      rw (rest, ← whole)

-- ---- a superblock is written, field behind field

module _ (b : List ℕ) (size : length b ≡ 4096) where
  grows : (front x w w' : List ℕ) → length front + length x ≤ 4096 → w ≡ patch b 0 front → w' ≡ patch w (length front) x → w' ≡ patch b 0 (front ++ x)
  grows front x w w' h e e' =
      let start : 0 + length front ≡ length front = omega arith in
      e' ∙ ap (λ (z : List ℕ). patch z (length front) x) e ∙ ap (λ (n : ℕ). patch (patch b 0 front) n x) (sym start) ∙ patch-join b 0 front x (omega arith)

  all-written : (front : List ℕ) (n : ℕ) (w w' : List ℕ) → length front + n ≡ 4096 → w ≡ patch b 0 front → w' ≡ patch w (length front) (replicate n 0)
      → w' ≡ front ++ replicate n 0
  all-written front n w w' h e e' =
      let zeros = length-replicate {A = ℕ} n 0 in
      grows front (replicate n 0) w w' (omega arith) e e'
      ∙ patch-all b (front ++ replicate n 0) (length-append front (replicate n 0) ∙ omega arith)

  pub put-fields : (g : Layout) → g.shift ≤ 15 → (w₁ w₂ w₃ w₄ w₅ w₆ w₇ : List ℕ)
      → w₁ ≡ patch b 0 magic → w₂ ≡ patch w₁ 8 (le 1 128) → w₃ ≡ patch w₂ 9 (le 1 g.shift) → w₄ ≡ patch w₃ 10 (le 2 g.width)
      → w₅ ≡ patch w₄ 12 (le 4 g.sections) → w₆ ≡ patch w₅ 16 (le 8 g.provided) → w₇ ≡ patch w₆ 24 (replicate 4072 0) → w₇ ≡ superblock_of g
  unfolding superblock_of
  put-fields g small w₁ w₂ w₃ w₄ w₅ w₆ w₇ e₁ e₂ e₃ e₄ e₅ e₆ e₇ =
      let front : ℕ → List ℕ = λ shift. magic ++ (128 ∷ shift ∷ []) in
      let byte : g.shift % 256 ≡ g.shift = omega arith in
      let f₂ : w₂ ≡ patch b 0 (magic ++ le 1 128) = grows magic (le 1 128) w₁ w₂ (omega arith) e₁ e₂ in
      let f₃ : w₃ ≡ patch b 0 (front g.shift) = grows (magic ++ le 1 128) (le 1 g.shift) w₂ w₃ (omega arith) f₂ e₃ ∙ ap (λ (n : ℕ). patch b 0 (front n)) byte in
      let f₄ = grows (front g.shift) (le 2 g.width) w₃ w₄ (omega arith) f₃ e₄ in
      let f₅ = grows (front g.shift ++ le 2 g.width) (le 4 g.sections) w₄ w₅ (omega arith) f₄ e₅ in
      let f₆ = grows ((front g.shift ++ le 2 g.width) ++ le 4 g.sections) (le 8 g.provided) w₅ w₆ (omega arith) f₅ e₆ in
      all-written (((front g.shift ++ le 2 g.width) ++ le 4 g.sections) ++ le 8 g.provided) 4072 w₆ w₇ refl f₆ e₇
