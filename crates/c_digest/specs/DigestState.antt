-- How the state of a digest lies in a buffer. R11; numbers are little-endian (R9).
--
-- tail_at, count_at           : where the tail and the count of a state start, in bytes; its words start at 0
-- words_of n b               : the first n words in b, each in 4 bytes
-- word_bytes_of ws            : the words ws, each in 4 bytes
-- decode_of b                : the state in the bytes b: eight words, the tail's 64 bytes, the count in 8 bytes
-- encode_of s                : the bytes of the state s: words, tail and count, one behind the other
-- IsState s                 : s is a state that the code's type can hold
use Rattle.std.specs.Prelude.{ℕ, ◌^◌, ◌<◌, List, ◌++◌, ◌≡◌, length, get_or}
use Rattle.octets.specs.Numbers.{Bytes, le, value}
use Rattle.octets.specs.Parts.{part}
use Rattle.digest.specs.declared.State.{State}
use Rattle.c_numbers.specs.Numbers.{numbers_in, number_bytes}

abbrev pub tail_at : ℕ
tail_at = 32

abbrev pub count_at : ℕ
count_at = 96

abbrev pub words_of : ℕ → List ℕ → List ℕ
words_of n b = numbers_in 4 n b

abbrev pub word_bytes_of : List ℕ → List ℕ
word_bytes_of ws = number_bytes 4 ws

unfoldable pub decode_of : List ℕ → State
decode_of b = record { words = words_of 8 b; tail = part b tail_at 64; count = value (part b count_at 8) }

unfoldable pub encode_of : State → List ℕ
encode_of s = word_bytes_of s.words ++ (s.tail ++ le 8 s.count)

-- eight words of 32 bits, a tail of 64 bytes and a count of 64 bits
pub record IsState (s : State) : Type 0 where
  pub eight : length s.words ≡ 8
  pub words : (i : ℕ) → get_or s.words i 0 < 2 ^ 32
  pub full : length s.tail ≡ 64
  pub bytes : Bytes s.tail
  pub count : s.count < 2 ^ 64
