-- The loop that compares the digests computed along a path with what stands above them, from the root down.
use Prim.Native.Nat.{ℕ, suc, ◌+◌, ◌-◌, ◌≤◌, ◌<◌}
use native.Mathlib.Nat.{add-zero}
use native.Mathlib.Omega.{arith}
use mathlib.Core.Bool.{true, false, not}
use mathlib.Core.List.{List, [], ◌∷◌, ◌++◌}
use mathlib.Core.Path.{◌≡◌, sym, ap, ◌∙◌}
use lib.ListN.{length, get_or, take}
use lib.Seq.{take-suc, take_all, length-take-le, get_or-take}
use Rattle.octets.specs.Parts.{part, same}
use Rattle.digest.specs.Sha256.{digest_size}
use Rattle.tree_path.specs.Path.{standing_of}
use Rattle.tree_path.proofs.PathLaws.{length-standing, standing-at, standing-top}
use Rattle.tree.specs.Answer.{mismatch}
use Rattle.tree.specs.Verify.{path_rows, compared_of}

-- ---- rows from the root down

-- the row of the highest digest comes first
rows_snoc : (k : ℕ) (xs ys : List (List ℕ)) (x y : List ℕ) → length xs ≡ length ys
    → path_rows k (xs ++ (x ∷ [])) (ys ++ (y ∷ [])) ≡ (not (same x y), mismatch (k + length xs)) ∷ path_rows k xs ys
unfolding path_rows
rows_snoc k [] [] x y e = rw add-zero
rows_snoc k [] (v ∷ ys) x y e = absurd (omega arith)
rows_snoc k (u ∷ xs) [] x y e = absurd (omega arith)
rows_snoc k (u ∷ xs) (v ∷ ys) x y e =
    let n : suc k + length xs ≡ k + suc (length xs) = omega arith in
    rw (rows_snoc (suc k) xs ys x y (omega arith), n)

-- the rows of the lowest j + 1 digests
module _ (xs ys : List (List ℕ)) (j : ℕ) (in-xs : j < length xs) (in_ys : j < length ys) where
  rows_next : path_rows 0 (take (suc j) xs) (take (suc j) ys) ≡ (not (same (get_or xs j []) (get_or ys j [])), mismatch j) ∷ path_rows 0 (take j xs) (take j ys)
  rows_next =
      let m : length (take j xs) ≡ j = length-take-le j xs (omega arith) in
      let n : length (take j ys) ≡ j = length-take-le j ys (omega arith) in
      let z : 0 + length (take j xs) ≡ j = omega arith in
      rw (take-suc xs j [] in-xs, take-suc ys j [] in_ys, rows_snoc 0 (take j xs) (take j ys) (get_or xs j []) (get_or ys j []) (m ∙ sym n), z)

  pub differs_next : same (get_or xs j []) (get_or ys j []) ≡ false → compared_of (take (suc j) xs) (take (suc j) ys) ≡ mismatch j
  differs_next e = rw (rows_next, e)

  pub agrees-next : same (get_or xs j []) (get_or ys j []) ≡ true → compared_of (take (suc j) xs) (take (suc j) ys) ≡ compared_of (take j xs) (take j ys)
  agrees-next e = rw (rows_next, e)

-- ---- the loop: digests and places are arrays, of which h + 1 and h elements count; the digests from place j on agree
module _ (h : ℕ) (digests : List (List ℕ)) (ps t r : List ℕ) (fd : h < length digests) (fp : h ≤ length ps) where
  abbrev made : List (List ℕ)
  made = take (h + 1) digests

  abbrev held : List (List ℕ)
  held = standing_of r t (take h ps)

  made-length : length made ≡ h + 1
  made-length = length-take-le (h + 1) digests (omega arith)

  held-length : length held ≡ h + 1
  held-length = length-standing r t (take h ps) ∙ ap (λ (n : ℕ). n + 1) (length-take-le h ps fp)

  made_at : (k : ℕ) → k < h + 1 → get_or made k [] ≡ get_or digests k []
  made_at k l = get_or-take (h + 1) digests k [] l

  held_at : (k : ℕ) → k < h → get_or held k [] ≡ part t (get_or ps k 0) digest_size
  held_at k l =
      standing-at r t (take h ps) k (omega (arith, length-take-le h ps fp)) ∙ ap (λ (p : ℕ). part t p digest_size) (get_or-take h ps k 0 l)

  held-top : get_or held h [] ≡ r
  held-top = ap (λ (n : ℕ). get_or held n []) (sym (length-take-le h ps fp)) ∙ standing-top r t (take h ps)

  whole : compared_of made held ≡ compared_of (take (suc h) made) (take (suc h) held)
  whole =
      rw (take_all (suc h) made (omega (arith, made-length)), take_all (suc h) held (omega (arith, held-length)))

  pub top-differs : same (get_or digests h []) r ≡ false → compared_of made held ≡ mismatch h
  top-differs e =
      whole ∙ differs_next made held h (omega (arith, made-length)) (omega (arith, held-length)) (rw (made_at h (omega arith), held-top) e)

  pub top-agrees : same (get_or digests h []) r ≡ true → compared_of made held ≡ compared_of (take h made) (take h held)
  top-agrees e =
      whole ∙ agrees-next made held h (omega (arith, made-length)) (omega (arith, held-length)) (rw (made_at h (omega arith), held-top) e)

  module _ (k : ℕ) (some : 0 < k) (most : k ≤ h) (reached : compared_of made held ≡ compared_of (take k made) (take k held)) where
    next : k ≡ suc (k - 1)
    next = omega arith

    reached-next : compared_of made held ≡ compared_of (take (suc (k - 1)) made) (take (suc (k - 1)) held)
    reached-next = reached ∙ ap (λ (n : ℕ). compared_of (take n made) (take n held)) next

    pub turn-differs : same (get_or digests (k - 1) []) (part t (get_or ps (k - 1) 0) digest_size) ≡ false → compared_of made held ≡ mismatch (k - 1)
    turn-differs e =
        reached-next
        ∙ differs_next made held (k - 1) (omega (arith, made-length)) (omega (arith, held-length)) (rw (made_at (k - 1) (omega arith), held_at (k - 1) (omega arith)) e)

    pub turn-agrees : same (get_or digests (k - 1) []) (part t (get_or ps (k - 1) 0) digest_size) ≡ true → compared_of made held ≡ compared_of (take (k - 1) made) (take (k - 1) held)
    turn-agrees e =
        reached-next
        ∙ agrees-next made held (k - 1) (omega (arith, made-length)) (omega (arith, held-length)) (rw (made_at (k - 1) (omega arith), held_at (k - 1) (omega arith)) e)
