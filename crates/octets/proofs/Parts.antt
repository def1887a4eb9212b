-- Laws of parts of a list: length, what a patch leaves and replaces, parts of parts, equality, and that bytes stay bytes.
-- A patch is said to fit where it ends within the list.
use Prim.Native.Nat.{ℕ, zero, suc, ◌+◌, ◌-◌, ◌≤◌, ◌<◌}
use native.Mathlib.Omega.{arith}
use mathlib.Core.Bool.{Bool, true, false, ◌&&◌}
use mathlib.Core.List.{List, [], ◌∷◌, ◌++◌, append_assoc, append-nil}
use mathlib.Core.Logic.{◌≢◌, ◌⊎◌, inl, inr}
use mathlib.Core.Path.{◌≡◌, refl, sym, ap, ◌∙◌, subst}
use lib.Dec.{eqb}
use lib.ListN.{length, take, drop, get_or, replicate, length-append, length-drop, length-replicate, replicate-append-replicate, take-append-drop, drop_of_length-le}
use lib.Seq.{take-append-le, drop-append-le, drop-append-add, take_at, drop_at, length-take-le, take-length, take_all, take-take, take-add, drop-drop, get_or-take, get_or-drop, paste}
use borrow.Author.Tests.{eqb-true, eq-eqb}
use Rattle.octets.specs.Numbers.{Bytes}
use Rattle.octets.specs.Parts.{part, patch, same}
use Rattle.octets.proofs.Numbers.{bytes-nil, bytes-cons, bytes-tail}

-- ---- a part

pub length_part : (l : List ℕ) (a n : ℕ) → a + n ≤ length l → length (part l a n) ≡ n
length_part l a n h = length-take-le n (drop a l) (rw length-drop (omega arith))

pub get_or-part : (l : List ℕ) (a n i : ℕ) → i < n → get_or (part l a n) i 0 ≡ get_or l (a + i) 0
get_or-part l a n i h = get_or-take n (drop a l) i 0 h ∙ get_or-drop a l i 0

-- the whole list
pub part-all : (l : List ℕ) (n : ℕ) → length l ≡ n → part l 0 n ≡ l
part-all l n e = take_all n l (omega arith)

-- a part of a part
pub part-part : (l : List ℕ) (a n b m : ℕ) → b + m ≤ n → part (part l a n) b m ≡ part l (a + b) m
part-part l a n b m h = part-take b m n (drop a l) h ∙ ap (take m) (drop-drop b a l)
  where
    part-take : (b m n : ℕ) (x : List ℕ) → b + m ≤ n → part (take n x) b m ≡ part x b m
    part-take zero m n x k = take-take m n x (omega arith)
    part-take (suc b) m zero x k = absurd (omega arith)
    part-take (suc b) m (suc n) [] k = refl
    part-take (suc b) m (suc n) (y ∷ x) k = part-take b m n x (omega arith)

-- two parts side by side
pub part-add : (l : List ℕ) (a n m : ℕ) → part l a (n + m) ≡ part l a n ++ part l (a + n) m
part-add l a n m = take-add n m (drop a l) ∙ ap (λ (x : List ℕ). part l a n ++ take m x) (drop-drop n a l)

-- ---- two lists joined

-- a part of the first
pub part-append-left : (p q : List ℕ) (a n : ℕ) → a + n ≤ length p → part (p ++ q) a n ≡ part p a n
part-append-left p q a n h =
    let k : n ≤ length (drop a p) = rw length-drop (omega arith) in
    rw (drop-append-le a p q (omega arith), take-append-le n (drop a p) q k)

-- what lies from index b on, where the second starts at or before b
pub drop_past : (p q : List ℕ) (b : ℕ) → length p ≤ b → drop b (p ++ q) ≡ drop (b - length p) q
drop_past p q b h =
    let e : length p + (b - length p) ≡ b = omega arith in
    subst (λ (k : ℕ). drop k (p ++ q) ≡ drop (b - length p) q) e (drop-append-add p q (b - length p))

-- a part of the second
pub part-append-right : (p q : List ℕ) (b n : ℕ) → length p ≤ b → part (p ++ q) b n ≡ part q (b - length p) n
part-append-right p q b n h = ap (take n) (drop_past p q b h)

-- the same, by its index there
pub part-behind : (p q : List ℕ) (a b n : ℕ) → length p ≡ a → part (p ++ q) (a + b) n ≡ part q b n
part-behind p q a b n e = ap (take n) (subst (λ (k : ℕ). drop (k + b) (p ++ q) ≡ drop b q) e (drop-append-add p q b))

-- ---- a patch that fits

module _ (l : List ℕ) (at : ℕ) (s : List ℕ) (fits : at + length s ≤ length l) where
  front_length : length (take at l) ≡ at
  front_length = length-take-le at l (omega arith)

  end-length : length (take at l ++ s) ≡ at + length s
  end-length = simp (length-append, front_length)

  pub length-patch : length (patch l at s) ≡ length l
  length-patch = simp (length-append, length-drop, front_length) (omega arith)

  split-at-end : patch l at s ≡ (take at l ++ s) ++ drop (at + length s) l
  split-at-end = sym (append_assoc (take at l) s (drop (at + length s) l))

  -- what lies up to its end
  pub take-patch : take (at + length s) (patch l at s) ≡ take at l ++ s
  take-patch = ap (take (at + length s)) split-at-end ∙ take_at (take at l ++ s) (drop (at + length s) l) (at + length s) end-length

  -- the part that it replaces
  pub part-patch-same : (n : ℕ) → n ≡ length s → part (patch l at s) at n ≡ s
  part-patch-same n e =
      rw (drop_at (take at l) (s ++ drop (at + length s) l) at front_length) (take_at s (drop (at + length s) l) n (sym e))

  -- a part before it
  pub part-patch-before : (b n : ℕ) → b + n ≤ at → part (patch l at s) b n ≡ part l b n
  part-patch-before b n h =
      let g : b + n ≤ length (take at l) = rw front_length h in
      part-append-left (take at l) (s ++ drop (at + length s) l) b n g
      ∙ sym (part-append-left (take at l) (drop at l) b n g)
      ∙ ap (λ (x : List ℕ). part x b n) (take-append-drop at l)

  -- a byte of what replaces it
  pub get_or-patch-same : (i : ℕ) → i < length s → get_or (patch l at s) (at + i) 0 ≡ get_or s i 0
  get_or-patch-same i h =
      sym (get_or-part (patch l at s) at (length s) i h) ∙ ap (λ (x : List ℕ). get_or x i 0) (part-patch-same (length s) refl)

  -- what lies behind it
  pub drop-patch-after : (b : ℕ) → at + length s ≤ b → drop b (patch l at s) ≡ drop b l
  drop-patch-after b h =
      let e : at + length s + (b - (at + length s)) ≡ b = omega arith in
      ap (drop b) split-at-end
      ∙ drop_past (take at l ++ s) (drop (at + length s) l) b (rw end-length h)
      ∙ rw (end-length, drop-drop, e)

  -- a part behind it
  pub part-patch-after : (b n : ℕ) → at + length s ≤ b → part (patch l at s) b n ≡ part l b n
  part-patch-after b n h = ap (take n) (drop-patch-after b h)

  -- a byte before or behind it
  pub get_or-patch-other : (b : ℕ) → (b < at) ⊎ (at + length s ≤ b) → get_or (patch l at s) b 0 ≡ get_or l b 0
  get_or-patch-other b h =
      let z : b + 0 ≡ b = omega arith in
      rw z at (sym (get_or-part (patch l at s) b 1 0 (omega arith)) ∙ ap (λ (x : List ℕ). get_or x 0 0) (side h) ∙ get_or-part l b 1 0 (omega arith))
    where
      side : (b < at) ⊎ (at + length s ≤ b) → part (patch l at s) b 1 ≡ part l b 1
      side (inl q) = part-patch-before b 1 (omega arith)
      side (inr q) = part-patch-after b 1 q

drop-take : (i n : ℕ) (l : List ℕ) → i ≤ length (take n l) → drop i (take n l) ++ drop n l ≡ drop i l
drop-take i n l h = sym (drop-append-le i (take n l) (drop n l) h) ∙ ap (drop i) (take-append-drop n l)

-- a part replaced by itself with a patch is a patch of the whole
pub patch-patch : (l : List ℕ) (at n off : ℕ) (x : List ℕ) → off + length x ≤ n → at + n ≤ length l
    → patch l at (patch (part l at n) off x) ≡ patch l (at + off) x
patch-patch l at n off x h k =
    let size : length (part l at n) ≡ n = length_part l at n k in
    let fits : off + length x ≤ length (part l at n) = rw size h in
    let front : take off (part l at n) ≡ take off (drop at l) = take-take off n (drop at l) (omega arith) in
    let end : at + off + length x ≡ at + (off + length x) = omega arith in
    let back = drop-take (off + length x) n (drop at l) fits in
    rw (length-patch (part l at n) off x fits, size, front, take-add at off l, end, ← drop-drop n at l, ← drop-drop (off + length x) at l, ← back)
    (simp append_assoc)

-- two patches side by side are one
pub patch-join : (l : List ℕ) (at : ℕ) (x y : List ℕ) → at + length x + length y ≤ length l
    → patch (patch l at x) (at + length x) y ≡ patch l at (x ++ y)
patch-join l at x y h =
    let fits : at + length x ≤ length l = omega arith in
    let end : at + length (x ++ y) ≡ at + length x + length y = omega (arith, length-append x y) in
    rw (take-patch l at x fits, drop-patch-after l at x fits (at + length x + length y) (omega arith), end) (simp append_assoc)

-- a patch of the whole list
pub patch-all : (l s : List ℕ) → length s ≡ length l → patch l 0 s ≡ s
patch-all l s e = ap (λ (r : List ℕ). s ++ r) (drop_of_length-le l {i = 0 + length s} (omega arith)) ∙ append-nil s

-- the kit's copy of a whole list is a patch
pub paste-patch : (l : List ℕ) (at : ℕ) (s : List ℕ) (n : ℕ) → n ≡ length s → paste l at s n ≡ patch l at s
paste-patch l at s n e = rw (e, take-length s) (append_assoc (take at l) s (drop (at + length s) l))

-- ---- equality

pub same_true : (a b : List ℕ) → same a b ≡ true → a ≡ b
same_true [] [] e = refl
same_true [] (y ∷ b) e = absurd (let z : ◌≡◌ {A = ℕ} 0 1 = cc in omega arith)
same_true (x ∷ a) [] e = absurd (let z : ◌≡◌ {A = ℕ} 0 1 = cc in omega arith)
same_true (x ∷ a) (y ∷ b) e = go (same_true a b) (eqb x y) refl e
  where
    go : (same a b ≡ true → a ≡ b) → (t : Bool) → eqb x y ≡ t → (t && same a b) ≡ true → x ∷ a ≡ y ∷ b
    go ih true q e = rw (eqb-true x y q, ih e)
    go ih false q e = absurd (let z : ◌≡◌ {A = ℕ} 0 1 = cc in omega arith)

pub eq-same : (a b : List ℕ) → a ≡ b → same a b ≡ true
eq-same a b e = subst (λ (z : List ℕ). same a z ≡ true) e (go a)
  where
    go : (a : List ℕ) → same a a ≡ true
    go [] = refl
    go (x ∷ a) = rw (eq-eqb x x refl) (go a)

pub same_false : (a b : List ℕ) → same a b ≡ false → a ≢ b
same_false a b f e =
    let t : same a b ≡ true = eq-same a b e in
    let z : ◌≡◌ {A = ℕ} 0 1 = cc in omega arith

pub ne_same : (a b : List ℕ) → a ≢ b → same a b ≡ false
ne_same a b n = go (same a b) refl
  where
    go : (t : Bool) → same a b ≡ t → same a b ≡ false
    go true q = absurd (n (same_true a b q))
    go false q = q

-- ---- bytes stay bytes

pub bytes-append : {p q : List ℕ} → Bytes p → Bytes q → Bytes (p ++ q)
bytes-append {p = []} hp hq = hq
bytes-append {p = x ∷ p} hp hq = bytes-cons (hp.below 0) (bytes-append (bytes-tail hp) hq)

pub bytes_take : (n : ℕ) {l : List ℕ} → Bytes l → Bytes (take n l)
bytes_take zero h = bytes-nil
bytes_take (suc n) {l = []} h = bytes-nil
bytes_take (suc n) {l = x ∷ l} h = bytes-cons (h.below 0) (bytes_take n (bytes-tail h))

pub bytes_drop : (n : ℕ) {l : List ℕ} → Bytes l → Bytes (drop n l)
bytes_drop n {l} h = record { below = λ i. rw (get_or-drop n l i 0) (h.below (n + i)) }

pub bytes-replicate : (n : ℕ) {x : ℕ} → x < 256 → Bytes (replicate n x)
bytes-replicate zero h = bytes-nil
bytes-replicate (suc n) h = bytes-cons h (bytes-replicate n h)

pub bytes-part : (a n : ℕ) {l : List ℕ} → Bytes l → Bytes (part l a n)
bytes-part a n h = bytes_take n (bytes_drop a h)

pub bytes-patch : (at : ℕ) {l s : List ℕ} → Bytes l → Bytes s → Bytes (patch l at s)
bytes-patch at {l} {s} hl hs = bytes-append (bytes_take at hl) (bytes-append hs (bytes_drop (at + length s) hl))

-- ---- a part of a common front

pub part_low : (x y : List ℕ) (n : ℕ) → part x 0 n ≡ part y 0 n → (b m : ℕ) → b + m ≤ n → part x b m ≡ part y b m
part_low x y n e b m h =
    let z : 0 + b ≡ b = omega arith in
    let p : (l : List ℕ) → part (part l 0 n) b m ≡ part l b m = λ l. part-part l 0 n b m h ∙ ap (λ (k : ℕ). part l k m) z in
    sym (p x) ∙ ap (λ (l : List ℕ). part l b m) e ∙ p y

-- ---- a front and a rest of one byte repeated

pub take-replicate : (n m x : ℕ) → n ≤ m → take n (replicate m x) ≡ replicate n x
take-replicate n m x l =
    let e : n + (m - n) ≡ m = omega arith in
    subst (λ (k : ℕ). take n (replicate k x) ≡ replicate n x) e
    (rw (← replicate-append-replicate n (m - n) x) (take_at (replicate n x) (replicate (m - n) x) n (length-replicate n x)))

pub drop-replicate : (n m x : ℕ) → n ≤ m → drop n (replicate m x) ≡ replicate (m - n) x
drop-replicate n m x l =
    let e : n + (m - n) ≡ m = omega arith in
    subst (λ (k : ℕ). drop n (replicate k x) ≡ replicate (m - n) x) e
    (rw (← replicate-append-replicate n (m - n) x) (drop_at (replicate n x) (replicate (m - n) x) n (length-replicate n x)))
