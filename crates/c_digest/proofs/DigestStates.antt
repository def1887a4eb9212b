-- The code over a state's buffer: one turn of each loop over the words, and the state put together and taken apart.
use Prim.Native.Nat.{ℕ, ◌+◌, ◌-◌, ◌*◌, ◌≤◌, ◌<◌}
use native.Mathlib.Numerals.{add-one}
use native.Mathlib.Omega.{arith}
use mathlib.Core.List.{List, [], ◌++◌, append_assoc}
use mathlib.Core.Path.{◌≡◌, refl, sym, ap, ◌∙◌}
use lib.ListN.{length, get_or, take, set}
use lib.Seq.{take-suc, take-suc-set, take_all, length-take-le, drop-drop}
use borrow.Rule.Slice.PartMut.{put_mid}
use Rattle.octets.specs.Numbers.{le, value}
use Rattle.octets.specs.Parts.{part, patch}
use Rattle.octets.proofs.Numbers.{length-le}
use Rattle.octets.proofs.Parts.{length-patch, take-patch, patch-join}
use Rattle.digest.specs.declared.State.{State}
use Rattle.c_numbers.specs.Numbers.{numbers_in}
use Rattle.c_numbers.specs.Sizes.{digest_state_size}
use Rattle.c_digest.specs.DigestState.{tail_at, count_at, words_of, word_bytes_of, decode_of, encode_of}
use Rattle.c_numbers.proofs.NumberBytes.{length-number-bytes, number-bytes-last}

-- ---- the loops over the words

pub read-turn : (b ws : List ℕ) (i x : ℕ) → i < length ws → take i ws ≡ words_of i b → x ≡ value (part b (4 * i) 4)
    → take (i + 1) (set ws i x) ≡ words_of (i + 1) b
unfolding numbers_in
read-turn b ws i x l e ex = rw (add-one, take-suc-set ws i x l, e, ex)

-- a front that ends with a patch
front-patch : (l : List ℕ) (at : ℕ) (x y : List ℕ) (end : ℕ) → take at l ≡ x → at + length y ≡ end → end ≤ length l → take end (patch l at y) ≡ x ++ y
front-patch l at x y end e q fits = rw (← q) (take-patch l at y (omega arith) ∙ ap (λ (r : List ℕ). r ++ y) e)

-- the next word, put behind the first i in the buffer that was a
pub put-turn : (ws a b c : List ℕ) (i x : ℕ) → i < length ws → 4 * i + 4 ≤ length a → b ≡ patch a 0 (word_bytes_of (take i ws)) → x ≡ get_or ws i 0
    → c ≡ patch b (4 * i) (le 4 x) → c ≡ patch a 0 (word_bytes_of (take (i + 1) ws))
put-turn ws a b c i x l fits e ex ec =
    let size : length (le 4 x) ≡ 4 = length-le 4 x in
    let front : length (word_bytes_of (take i ws)) ≡ 4 * i = rw (length-number-bytes 4 (take i ws), length-take-le i ws (omega arith)) in
    let place : 4 * i ≡ 0 + length (word_bytes_of (take i ws)) = omega arith in
    let last : word_bytes_of (take i ws) ++ le 4 x ≡ word_bytes_of (take (i + 1) ws) = rw (add-one, take-suc ws i 0 l, number-bytes-last, ex) in
    ec
    ∙ ap (λ (r : List ℕ). patch r (4 * i) (le 4 x)) e
    ∙ ap (λ (k : ℕ). patch (patch a 0 (word_bytes_of (take i ws))) k (le 4 x)) place
    ∙ patch-join a 0 (word_bytes_of (take i ws)) (le 4 x) (omega arith)
    ∙ ap (patch a 0) last

-- ---- a state put together, and taken apart

-- a part written over by a copy
pub overwritten : (l s : List ℕ) (at end : ℕ) → at + length s ≡ end → put_mid at (end - at) l s ≡ patch l at s
overwritten l s at end e =
    let k : end - at ≡ length s = omega arith in
    rw (k, drop-drop)

-- words, tail and count, written one behind the other
pub written : (s : State) (a b c d : List ℕ) → length a ≡ digest_state_size → b ≡ patch a 0 (word_bytes_of s.words) → length s.words ≡ 8
    → length s.tail ≡ 64 → c ≡ patch b tail_at s.tail → d ≡ patch c count_at (le 8 s.count) → d ≡ encode_of s
unfolding encode_of
written s a b c d la eb eight full ec ed =
    let words : length (word_bytes_of s.words) ≡ tail_at = rw (length-number-bytes 4 s.words, eight) in
    let lb : length b ≡ digest_state_size = ap length eb ∙ length-patch a 0 (word_bytes_of s.words) (omega arith) ∙ la in
    let e : take tail_at b ≡ word_bytes_of s.words = ap (take tail_at) eb ∙ front-patch a 0 [] (word_bytes_of s.words) tail_at refl (omega arith) (omega arith) in
    let last : length (le 8 s.count) ≡ 8 = length-le 8 s.count in
    let lc : length c ≡ digest_state_size = ap length ec ∙ length-patch b tail_at s.tail (omega arith) ∙ lb in
    let ld : length d ≡ digest_state_size = ap length ed ∙ length-patch c count_at (le 8 s.count) (omega arith) ∙ lc in
    let front : take count_at c ≡ word_bytes_of s.words ++ s.tail =
    ap (take count_at) ec ∙ front-patch b tail_at (word_bytes_of s.words) s.tail count_at e (omega arith) (omega arith) in
    sym (take_all digest_state_size d (omega arith))
    ∙ ap (take digest_state_size) ed
    ∙ front-patch c count_at (word_bytes_of s.words ++ s.tail) (le 8 s.count) digest_state_size front (omega arith) (omega arith)
    ∙ append_assoc (word_bytes_of s.words) s.tail (le 8 s.count)

-- words, tail and count, read from their places
pub read : (b ws t : List ℕ) (n : ℕ) → ws ≡ words_of 8 b → t ≡ part b tail_at 64 → n ≡ value (part b count_at 8) → record { words = ws; tail = t; count = n } ≡ decode_of b
unfolding decode_of
read b ws t n ew et en = rw (ew, et, en)
