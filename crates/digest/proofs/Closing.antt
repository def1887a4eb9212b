-- What closing leaves, over plain lists: the padding put together, the words written out, and each way through the calls.
use Prim.Native.Nat.{ℕ, zero, suc, ◌+◌, ◌*◌, ◌≤◌, ◌<◌}
use mathlib.Core.Path.{◌≡◌, refl, sym, ap, ◌∙◌}
use mathlib.Core.List.{List, [], ◌∷◌, ◌++◌, append_assoc, append-nil, flatten}
use native.Mathlib.Nat.{zero-add, div-one}
use native.Mathlib.Numerals.{add-one}
use native.Mathlib.Omega.{arith}
use native.Mathlib.Decide.{dec_le}
use lib.ListN.{length, get_or, take, set, replicate, length-append}
use lib.Seq.{take-suc}
use borrow.Rule.Slice.PartMut.{put_mid}
use Rattle.std.specs.Int.{w32, w64, to_be_bytes, bytes_high_first}
use Rattle.std.proofs.lemmas.Slice.{take-put_mid}
use borrow.Author.Tests.{le-ltb, lt-ltb}
use Rattle.octets.specs.Answer.{taken, number_in}
use Rattle.octets.specs.Numbers.{be}
use Rattle.octets.proofs.Numbers.{length-be}
use Rattle.octets.proofs.Parts.{take-replicate}
use Rattle.digest.specs.declared.State.{State}
use Rattle.digest.specs.Pieces.{limit, behind_of, fresh_of, absorb_of, UpdateOutcome, refused_piece_of, update_of, DigestOutcome, refused_digest_of, close_of, finish_of, digest_of}
use Rattle.digest.specs.Sha256.{sha256}
use Rattle.digest.specs.Sha256.Promise.{update-taken, update-refused, count-absorb, closing, absorb-both, close-whole, digest-taken}
use Rattle.digest.specs.Padding.{zero_bytes_of, padding_of, bytes_of}

-- ---- the padding

-- the library's big-endian bytes are the standard's
high-first : (k n : ℕ) → bytes_high_first k n ≡ be k n
high-first zero n = refl
high-first (suc zero) n = rw div-one
high-first (suc (suc k)) n = rw (high-first (suc k) n)

-- 0x80 and the length, copied into zeros
pub padded : (c z k : ℕ) (x : List ℕ) → z ≡ zero_bytes_of c → z ≤ 63 → x ≡ to_be_bytes w64 (8 * c)
    → take (z + 9) (put_mid (z + 1) k (set (replicate 72 0) 0 128) x) ≡ padding_of c
unfolding padding_of
padded c z k x ez le ex =
    let bytes : x ≡ be 8 (8 * c) = ex ∙ high-first 8 (8 * c) in
    let size : length x ≡ 8 = ap length bytes ∙ length-be 8 (8 * c) in
    let zeros : take z (replicate {A = ℕ} 71 0) ≡ replicate z 0 = take-replicate z 71 0 (omega arith) in
    rw (take-put_mid (z + 1) k (set (replicate 72 0) 0 128) x (z + 9) (omega arith) (omega arith), add-one, zeros, ez, bytes)

-- ---- the words of a hash value

bytes-append : (h g : List ℕ) → bytes_of (h ++ g) ≡ bytes_of h ++ bytes_of g
unfolding bytes_of
bytes-append [] g = refl
bytes-append (w ∷ h) g = rw (bytes-append h g) (sym (append_assoc (be 4 w) (bytes_of h) (bytes_of g)))

bytes_one : (w : ℕ) → bytes_of (w ∷ []) ≡ be 4 w
unfolding bytes_of
bytes_one w = refl

pub bytes-turn : (h out x : List ℕ) (i k : ℕ) → i < length h → 4 * i + 4 ≤ length out → take (4 * i) out ≡ bytes_of (take i h) → x ≡ to_be_bytes w32 (get_or h i 0)
    → take (4 * (i + 1)) (put_mid (4 * i) k out x) ≡ bytes_of (take (i + 1) h)
bytes-turn h out x i k l fits e ex =
    let bytes : x ≡ be 4 (get_or h i 0) = ex ∙ high-first 4 (get_or h i 0) in
    let size : length x ≡ 4 = ap length bytes ∙ length-be 4 (get_or h i 0) in
    rw (take-put_mid (4 * i) k out x (4 * (i + 1)) (omega arith) (omega arith), add-one, take-suc h i 0 l, bytes-append, bytes_one, e, bytes)

-- ---- the calls, a way through each at a time

pub closed : (s a : State) (l r : List ℕ) → l ≡ padding_of s.count → a ≡ absorb_of s l → r ≡ bytes_of a.words → r ≡ close_of s
unfolding close_of
closed s a l r el ea er = rw (er, ea, el)

pub update-fits : (s t : State) (p : List ℕ) → s.count + length p ≤ limit → t ≡ absorb_of s p → record { answer = taken tt; state = t } ≡ update_of s p
update-fits s t p h e = rw (e, update-taken s p h)

pub finish-past : (s : State) → limit < s.count → refused_digest_of ≡ finish_of s
unfolding finish_of
finish-past s h = rw (lt-ltb limit s.count h)

pub finish-fits : (s : State) (d : List ℕ) → s.count ≤ limit → d ≡ close_of s → record { answer = taken tt; digest = d } ≡ finish_of s
unfolding finish_of
finish-fits s d h e = rw (le-ltb limit s.count h, e)

digest-past : (m : List ℕ) → limit < length m → refused_digest_of ≡ digest_of m
unfolding digest_of
digest-past m h = rw (lt-ltb limit (length m) h)

-- a message in one piece, by what adding it to the state f before any piece gave
module _ (m : List ℕ) (f : State) (ef : f ≡ fresh_of) where
  count-fresh : f.count + length m ≡ length m
  count-fresh = ap (λ (s : State). s.count + length m) ef ∙ zero-add (length m)

  pub whole-past : refused_piece_of f ≡ update_of f m → refused_digest_of ≡ digest_of m
  whole-past e = side (dec_le (length m) limit)
    where
      side : Dec (length m ≤ limit) → refused_digest_of ≡ digest_of m
      side (no h) = digest-past m (omega arith)
      side (yes h) = absurd (let z : ◌≡◌ {A = ℕ} 1 0 = ap (λ (o : UpdateOutcome). number_in o.answer) (e ∙ update-taken f m (omega (arith, count-fresh))) in omega arith)

  pub whole-fits : (s : State) (r : DigestOutcome) → record { answer = taken tt; state = s } ≡ update_of f m → r ≡ finish_of s → r ≡ digest_of m
  unfolding flatten
  whole-fits s r e er = side (dec_le (length m) limit)
    where
      piece : flatten (m ∷ []) ≡ m
      piece = append-nil m

      side : Dec (length m ≤ limit) → r ≡ digest_of m
      side (no h) = absurd (let z : ◌≡◌ {A = ℕ} 0 1 = ap (λ (o : UpdateOutcome). number_in o.answer) (e ∙ update-refused f m (omega (arith, count-fresh))) in omega arith)
      side (yes h) =
          er ∙ ap (λ (x : UpdateOutcome). finish_of x.state) (e ∙ ap (λ (x : State). update_of x m) ef) ∙ closing (m ∷ []) (rw piece h)
          ∙ ap (λ (x : List ℕ). record { answer = taken tt; digest = sha256 x }) piece ∙ sym (digest-taken m h)

-- a message in two pieces: two parts behind a state, and then from nothing

pub counted : (s a : State) (p : List ℕ) → a ≡ absorb_of s p → a.count ≡ s.count + length p
counted s a p e = ap (λ (x : State). x.count) e ∙ count-absorb s p

pub behind : (s a b : State) (p q r : List ℕ) → length s.tail ≡ 64 → a ≡ absorb_of s p → b ≡ absorb_of a q → r ≡ close_of b → r ≡ close_of (absorb_of s (p ++ q))
behind s a b p q r full ea eb er = er ∙ ap close_of (eb ∙ ap (λ (x : State). absorb_of x q) ea ∙ absorb-both s p q full)

pub two_past : (p q : List ℕ) → limit < length p + length q → refused_digest_of ≡ digest_of (p ++ q)
two_past p q h = digest-past (p ++ q) (omega (arith, h, length-append p q))

pub two-fit : (p q : List ℕ) (s : State) (d : List ℕ) → length p + length q ≤ limit → s ≡ fresh_of → d ≡ close_of (absorb_of (behind_of s.words 0) (p ++ q))
    → record { answer = taken tt; digest = d } ≡ digest_of (p ++ q)
two-fit p q s d h es ed =
    let fits : length (p ++ q) ≤ limit = omega (arith, h, length-append p q) in
    let is : d ≡ sha256 (p ++ q) = ed ∙ ap (λ (x : State). close_of (absorb_of (behind_of x.words 0) (p ++ q))) es ∙ close-whole (p ++ q) in
    ap (λ (x : List ℕ). record { answer = taken tt; digest = x }) is ∙ sym (digest-taken (p ++ q) fits)
