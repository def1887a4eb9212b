-- The theorems of specs/Theorems: a state and its bytes.
use native.Mathlib.Omega.{arith}
use mathlib.Core.List.{◌++◌}
use mathlib.Core.Path.{◌≡◌, ap, ◌∙◌}
use lib.ListN.{length, drop, length-append, length-drop, take-append-drop}
use lib.Seq.{take_all, take_at, drop-drop}
use Rattle.octets.specs.Numbers.{Bytes, le, value}
use Rattle.octets.specs.Parts.{part}
use Rattle.octets.proofs.Numbers.{length-le, bytes_le, value-le, le-value, value-bound}
use Rattle.octets.proofs.Parts.{length_part, part-all, part-behind, bytes-append, bytes-part}
use Rattle.digest.specs.declared.State.{State}
use Rattle.c_numbers.specs.Sizes.{digest_state_size}
use Rattle.c_digest.specs.DigestState.{tail_at, count_at, words_of, word_bytes_of, decode_of, encode_of, IsState}
use Rattle.c_digest.specs.Theorems.{DecodeEncode, EncodeBytes, EncodeDecode, DecodeState}
use Rattle.c_numbers.proofs.NumberBytes.{length-number-bytes, bytes-number-bytes, numbers-of-bytes, bytes-of-numbers, length-numbers, numbers-below}

module _ (s : State) (v : IsState s) where
  length_front : length (word_bytes_of s.words) ≡ tail_at
  length_front = rw (length-number-bytes 4 s.words, v.eight)

  length-of-state : length (encode_of s) ≡ digest_state_size
  unfolding encode_of
  length-of-state =
      let last : length (le 8 s.count) ≡ 8 = length-le 8 s.count in
      omega (arith, length-append (word_bytes_of s.words) (s.tail ++ le 8 s.count), length-append s.tail (le 8 s.count), length_front, v.full)

  bytes-of-state : Bytes (encode_of s)
  unfolding encode_of
  bytes-of-state = bytes-append (bytes-number-bytes 4 s.words) (bytes-append v.bytes (bytes_le 8 s.count))

  words_back : words_of 8 (encode_of s) ≡ s.words
  unfolding encode_of
  words_back = numbers-of-bytes 4 8 s.words (s.tail ++ le 8 s.count) v.words (omega (arith, v.eight)) ∙ take_all 8 s.words (omega (arith, v.eight))

  tail-back : part (encode_of s) tail_at 64 ≡ s.tail
  unfolding encode_of
  tail-back =
      part-behind (word_bytes_of s.words) (s.tail ++ le 8 s.count) tail_at 0 64 length_front
      ∙ take_at s.tail (le 8 s.count) 64 v.full

  count-back : value (part (encode_of s) count_at 8) ≡ s.count
  unfolding encode_of
  count-back =
      ap value
      (part-behind (word_bytes_of s.words) (s.tail ++ le 8 s.count) tail_at 64 8 length_front
      ∙ part-behind s.tail (le 8 s.count) 64 0 8 v.full
      ∙ part-all (le 8 s.count) 8 (length-le 8 s.count))
      ∙ value-le 8 s.count v.count

pub decode-encode : DecodeEncode
unfolding decode_of
decode-encode s v = rw (words_back s v, tail-back s v, count-back s v)

pub encode-bytes : EncodeBytes
encode-bytes s v = (length-of-state s v, bytes-of-state s v)

pub encode-decode : EncodeDecode
unfolding encode_of decode_of
encode-decode b h l =
    let size : length (part b count_at 8) ≡ 8 = length_part b count_at 8 (omega arith) in
    let count : le 8 (value (part b count_at 8)) ≡ part b count_at 8 = rw size at (le-value (bytes-part count_at 8 h)) in
    let last : part b count_at 8 ≡ drop count_at b = take_all 8 (drop count_at b) (rw length-drop (omega arith)) in
    let behind : part b tail_at 64 ++ drop count_at b ≡ drop tail_at b = rw (drop-drop 64 tail_at b) at (take-append-drop 64 (drop tail_at b)) in
    rw (bytes-of-numbers 4 8 b h (omega arith), count, last, behind) (take-append-drop tail_at b)

pub decode-state : DecodeState
unfolding decode_of
decode-state b h l =
    let size : length (part b count_at 8) ≡ 8 = length_part b count_at 8 (omega arith) in
    record {
      eight = length-numbers 4 8 b;
      words = numbers-below 4 8 b (omega arith) h (omega arith);
      full = length_part b tail_at 64 (omega arith);
      bytes = bytes-part tail_at 64 h;
      count = rw size at (value-bound (bytes-part count_at 8 h));
    }
