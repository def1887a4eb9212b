-- Volumes that have the same sectors, or the same bytes.
use Prim.Native.Nat.{ℕ, zero, suc, ◌+◌, ◌*◌, ◌/◌, ◌%◌, ◌≤◌, ◌<◌}
use mathlib.Core.Path.{◌≡◌, refl, sym, ap, ◌∙◌, subst}
use mathlib.Core.List.{List, [], ◌∷◌, ◌++◌}
use native.Mathlib.Omega.{arith}
use lib.ListN.{length, take, drop, get_or, length-take, length-drop}
use lib.Seq.{take_all, take-add, drop-drop, ext_get_or}
use Rattle.octets.specs.Parts.{part}
use Rattle.octets.specs.Sectors.{sector_at}
use Rattle.octets.proofs.Parts.{get_or-part}

-- ---- volumes with the same sectors

pub part-split : (l : List ℕ) (a n m : ℕ) → part l a n ++ part l (a + n) m ≡ part l a (n + m)
part-split l a n m =
    ap (λ (x : List ℕ). take n (drop a l) ++ take m x) (sym (drop-drop n a l)) ∙ sym (take-add n m (drop a l))

pub sectors-ext : (x y : List ℕ) (a n : ℕ) → ((j : ℕ) → j < n → sector_at x (a + j) ≡ sector_at y (a + j)) → part x (a * 512) (n * 512) ≡ part y (a * 512) (n * 512)
sectors-ext x y a zero h = refl
sectors-ext x y a (suc n) h =
    let ih : part x (a * 512) (n * 512) ≡ part y (a * 512) (n * 512) = sectors-ext x y a n (λ j l. h j (omega arith)) in
    let q : (a + n) * 512 ≡ a * 512 + n * 512 = omega arith in
    let z : suc n * 512 ≡ n * 512 + 512 = omega arith in
    let last : part x (a * 512 + n * 512) 512 ≡ part y (a * 512 + n * 512) 512 =
    subst (λ (k : ℕ). part x k 512 ≡ part y k 512) q (h n (omega arith)) in
    subst (λ (k : ℕ). part x (a * 512) k ≡ part y (a * 512) k) (sym z)
    (sym (part-split x (a * 512) (n * 512) 512) ∙ ap (λ (k : List ℕ). k ++ part x (a * 512 + n * 512) 512) ih
    ∙ ap (λ (k : List ℕ). part y (a * 512) (n * 512) ++ k) last ∙ part-split y (a * 512) (n * 512) 512)

pub volume-ext : (n : ℕ) (x y : List ℕ) → length x ≡ n * 512 → length y ≡ n * 512 → ((a : ℕ) → a < n → sector_at x a ≡ sector_at y a) → x ≡ y
volume-ext n x y p q h =
    sym (take_all (n * 512) x (omega arith))
    ∙ sectors-ext x y 0 n (λ j l. let z : 0 + j ≡ j = omega arith in rw z (h j l))
    ∙ take_all (n * 512) y (omega arith)

pub beyond : (x y : List ℕ) (a : ℕ) → length x ≤ a * 512 → length y ≤ a * 512 → sector_at x a ≡ sector_at y a
beyond x y a p q = ap (take 512) (none x p ∙ sym (none y q))
  where
    empty : (l : List ℕ) → length l ≡ 0 → l ≡ []
    empty [] e = refl
    empty (z ∷ l) e = absurd (omega arith)

    none : (l : List ℕ) → length l ≤ a * 512 → drop (a * 512) l ≡ []
    none l h = empty (drop (a * 512) l) (length-drop (a * 512) l ∙ omega arith)

-- ---- single bytes

-- a byte by its sector
pub get_or-sector : (v : List ℕ) (b : ℕ) → get_or (sector_at v (b / 512)) (b % 512) 0 ≡ get_or v b 0
get_or-sector v b =
    let e : b / 512 * 512 + b % 512 ≡ b = omega arith in
    get_or-part v (b / 512 * 512) 512 (b % 512) (omega arith) ∙ ap (λ (x : ℕ). get_or v x 0) e

-- parts that agree byte by byte
pub part_bytes : (x y : List ℕ) (a n : ℕ) → length x ≡ length y → ((i : ℕ) → i < n → get_or x (a + i) 0 ≡ get_or y (a + i) 0) → part x a n ≡ part y a n
part_bytes x y a n e h =
    ext_get_or 0 (part x a n) (part y a n) (simp (length-take, length-drop, e))
    (λ i l. let k : i < n = omega (arith, simp length-take at l) in get_or-part x a n i k ∙ h i k ∙ sym (get_or-part y a n i k))
