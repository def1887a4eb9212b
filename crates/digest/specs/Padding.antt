-- Padding and the bytes of a digest, R10: FIPS 180-4, sections 5.1.1 and 6.2.2, for messages of whole bytes.
--
-- zero_bytes_of c  : how many zero bytes stand between the byte 0x80 and the length, for a message of c bytes: the least z with c + 1 + z ≡ 56 (mod 64);
--                  Theorems has it as the standard's least number of zero bits
-- padding_of c    : what is appended to a message of c bytes: a one bit, zeros, and the message's length in bits in 8 bytes
-- bytes_of h      : the digest, the words of a hash value one after the other, each with its most significant byte first
use Rattle.std.specs.Prelude.{ℕ, ◌-◌, ◌*◌, ◌%◌, List, [], ◌∷◌, ◌++◌, replicate}
use Rattle.octets.specs.Numbers.{be}

unfoldable pub zero_bytes_of : ℕ → ℕ
zero_bytes_of c = (119 - c % 64) % 64

unfoldable pub padding_of : ℕ → List ℕ
padding_of c = 0x80 ∷ (replicate (zero_bytes_of c) 0 ++ be 8 (8 * c))

unfoldable pub bytes_of : List ℕ → List ℕ
bytes_of [] = []
bytes_of (w ∷ h) = be 4 w ++ bytes_of h
