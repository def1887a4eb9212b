-- Numbers of one width and their bytes, and numbers written one behind the other.
use Prim.Native.Nat.{ℕ, zero, suc, ◌+◌, ◌*◌, ◌^◌, ◌≤◌, ◌<◌}
use native.Mathlib.Omega.{arith}
use mathlib.Core.List.{List, [], ◌∷◌, ◌++◌, append_assoc, append-nil}
use mathlib.Core.Path.{◌≡◌, refl, sym, ap, ◌∙◌}
use lib.ListN.{length, get_or, take, length-append}
use lib.Seq.{take-suc, take_at, take-add}
use Rattle.std.proofs.Common.{add-zero}
use Rattle.std.proofs.lemmas.List.{length-take-le, take-append-drop, take_more}
use Rattle.octets.specs.Numbers.{Bytes, le, value}
use Rattle.octets.specs.Parts.{part, patch}
use Rattle.octets.proofs.Numbers.{bytes-nil, length-le, bytes_le, value-le, le-value, value-bound}
use Rattle.octets.proofs.Parts.{length_part, part-behind, bytes-append, bytes-part, patch-join, patch-all}
use Rattle.c_numbers.specs.Numbers.{numbers_in, number_bytes}

pub length-number-bytes : (w : ℕ) (ns : List ℕ) → length (number_bytes w ns) ≡ w * length ns
unfolding number_bytes
length-number-bytes w [] = omega arith
length-number-bytes w (n ∷ ns) =
    let front : length (le w n) ≡ w = length-le w n in
    let one : w * suc (length ns) ≡ w + w * length ns = omega arith in
    rw (length-append, front, length-number-bytes w ns) (sym one)

pub bytes-number-bytes : (w : ℕ) (ns : List ℕ) → Bytes (number_bytes w ns)
unfolding number_bytes
bytes-number-bytes w [] = bytes-nil
bytes-number-bytes w (n ∷ ns) = bytes-append (bytes_le w n) (bytes-number-bytes w ns)

pub number-bytes-append : (w : ℕ) (ms ns : List ℕ) → number_bytes w (ms ++ ns) ≡ number_bytes w ms ++ number_bytes w ns
unfolding number_bytes
number-bytes-append w [] ns = refl
number-bytes-append w (m ∷ ms) ns = rw (number-bytes-append w ms ns) (sym (append_assoc (le w m) (number_bytes w ms) (number_bytes w ns)))

-- one number more
pub number-bytes-last : (w : ℕ) (ns : List ℕ) (n : ℕ) → number_bytes w (ns ++ (n ∷ [])) ≡ number_bytes w ns ++ le w n
unfolding number_bytes
number-bytes-last w ns n = number-bytes-append w ns (n ∷ []) ∙ ap (λ (l : List ℕ). number_bytes w ns ++ l) (append-nil (le w n))

-- number k, with anything behind the numbers
pub number-at : (w : ℕ) (ns q : List ℕ) (k : ℕ) → k < length ns → part (number_bytes w ns ++ q) (w * k) w ≡ le w (get_or ns k 0)
unfolding number_bytes
number-at w [] q k l = absurd (omega arith)
number-at w (n ∷ ns) q zero l =
    let e : w * 0 ≡ 0 = omega arith in
    rw (e, append_assoc (le w n) (number_bytes w ns) q) (take_at (le w n) (number_bytes w ns ++ q) w (length-le w n))
number-at w (n ∷ ns) q (suc k) l =
    let e : w * suc k ≡ w + w * k = omega arith in
    rw (e, append_assoc (le w n) (number_bytes w ns) q)
    (part-behind (le w n) (number_bytes w ns ++ q) w (w * k) w (length-le w n)
    ∙ number-at w ns q k (omega arith))

-- numbers are read back from their bytes
pub numbers-of-bytes : (w n : ℕ) (ns q : List ℕ) → ((i : ℕ) → get_or ns i 0 < 256 ^ w) → n ≤ length ns → numbers_in w n (number_bytes w ns ++ q) ≡ take n ns
unfolding numbers_in
numbers-of-bytes w zero ns q b l = refl
numbers-of-bytes w (suc n) ns q b l =
    rw (numbers-of-bytes w n ns q b (omega arith), number-at w ns q n (omega arith), value-le w (get_or ns n 0) (b n)) (sym (take-suc ns n 0 (omega arith)))

-- bytes are those of the numbers read from them
pub bytes-of-numbers : (w n : ℕ) (b : List ℕ) → Bytes b → w * n ≤ length b → number_bytes w (numbers_in w n b) ≡ take (w * n) b
unfolding numbers_in number_bytes
bytes-of-numbers w zero b h l =
    let e : w * 0 ≡ 0 = omega arith in
    rw e
bytes-of-numbers w (suc n) b h l =
    let e : w * suc n ≡ w * n + w = omega arith in
    let size : length (part b (w * n) w) ≡ w = length_part b (w * n) w (omega arith) in
    let number : le w (value (part b (w * n) w)) ≡ part b (w * n) w = rw size at (le-value (bytes-part (w * n) w h)) in
    rw (number-bytes-last, bytes-of-numbers w n b h (omega arith), number, e, take-add)

-- a number read from bytes fits them
pub number-below : (w k : ℕ) (b : List ℕ) → Bytes b → w * k + w ≤ length b → value (part b (w * k) w) < 256 ^ w
number-below w k b h l =
    let size : length (part b (w * k) w) ≡ w = length_part b (w * k) w l in
    rw size at (value-bound (bytes-part (w * k) w h))

pub length-numbers : (w n : ℕ) (b : List ℕ) → length (numbers_in w n b) ≡ n
unfolding numbers_in
length-numbers w zero b = refl
length-numbers w (suc n) b = rw (length-append, length-numbers w n b) (omega arith)

below_last : (l : List ℕ) (x m : ℕ) → ((i : ℕ) → get_or l i 0 < m) → x < m → (i : ℕ) → get_or (l ++ (x ∷ [])) i 0 < m
below_last [] x m h b zero = b
below_last [] x m h b (suc i) = h i
below_last (y ∷ l) x m h b zero = h 0
below_last (y ∷ l) x m h b (suc i) = below_last l x m (λ j. h (suc j)) b i

pub numbers-below : (w n : ℕ) (b : List ℕ) → 0 < 256 ^ w → Bytes b → w * n ≤ length b → (i : ℕ) → get_or (numbers_in w n b) i 0 < 256 ^ w
unfolding numbers_in
numbers-below w zero b p h l i = p
numbers-below w (suc n) b p h l i =
    let e : w * suc n ≡ w * n + w = omega arith in
    below_last (numbers_in w n b) (value (part b (w * n) w)) (256 ^ w) (numbers-below w n b p h (omega arith)) (number-below w n b h (omega arith)) i

-- ---- numbers written side by side

-- all the numbers of a buffer
pub all-written : (b c ns : List ℕ) → 8 * length ns ≡ length b → c ≡ patch b 0 (number_bytes 8 ns) → c ≡ number_bytes 8 ns
all-written b c ns size e = e ∙ patch-all b (number_bytes 8 ns) (length-number-bytes 8 ns ∙ size)

-- some numbers more, behind those written
pub more-written : (l c d : List ℕ) (at i : ℕ) (ms ns : List ℕ) → at + 8 * length ms ≡ i → i + 8 * length ns ≤ length l → c ≡ patch l at (number_bytes 8 ms)
    → d ≡ patch c i (number_bytes 8 ns) → d ≡ patch l at (number_bytes 8 (ms ++ ns))
more-written l c d at i ms ns ei fits ec ed =
    let front : length (number_bytes 8 ms) ≡ 8 * length ms = length-number-bytes 8 ms in
    let rest : length (number_bytes 8 ns) ≡ 8 * length ns = length-number-bytes 8 ns in
    let place : i ≡ at + length (number_bytes 8 ms) = omega arith in
    rw (ed, ec, place, patch-join l at (number_bytes 8 ms) (number_bytes 8 ns) (omega arith), number-bytes-append 8 ms ns)

-- numbers written one after the other: before the first, and number j of ns behind those before it
pub none-written : (l : List ℕ) (at : ℕ) → l ≡ patch l at (number_bytes 8 [])
unfolding number_bytes
none-written l at = rw add-zero (sym (take-append-drop at l))

pub next-written : (l c d : List ℕ) (k j : ℕ) (ns : List ℕ) → 8 * (k + length ns) ≤ length l → j < length ns → c ≡ patch l (8 * k) (number_bytes 8 (take j ns))
    → d ≡ patch c (8 * (k + j)) (le 8 (get_or ns j 0)) → d ≡ patch l (8 * k) (number_bytes 8 (take (j + 1) ns))
unfolding number_bytes
next-written l c d k j ns fits here ec ed =
    let front : length (take j ns) ≡ j = length-take-le j ns (omega arith) in
    let last : d ≡ patch c (8 * (k + j)) (number_bytes 8 (get_or ns j 0 ∷ [])) = ed ∙ ap (patch c (8 * (k + j))) (sym (append-nil (le 8 (get_or ns j 0)))) in
    rw (take_more ns j 0 here)
    (more-written l c d (8 * k) (8 * (k + j)) (take j ns) (get_or ns j 0 ∷ []) (omega arith) (omega arith) ec last)
