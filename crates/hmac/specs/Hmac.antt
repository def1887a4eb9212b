-- HMAC with SHA-256, R104: RFC 2104, section 2. The standard's H is SHA-256, its L the 32 bytes of a digest, its B the 64 bytes of a block.
--
-- block_size    : B
-- ipad, opad   : the bytes of the inner and the outer pad
-- shortened k  : the key k, or its digest where it is longer than a block
-- block_of k    : the key as one block: zeros behind what `shortened` gives
-- padded x k   : that block, each byte xored with x
-- hmac k m     : the 32 bytes that the key k gives for the message m
-- most_key      : the longest key that a call takes, in bytes; key_ok k: whether a call takes the key k, R106
use Rattle.std.specs.Prelude.{ℕ, ◌-◌, Bool, ◌&&◌, List, ◌++◌, map, leb, ltb, length, replicate}
use Rattle.std.specs.Int.Bits.{bit_xor}
use Rattle.octets.specs.Choice.{pick}
use Rattle.digest.specs.Sha256.{sha256}

abbrev pub block_size : ℕ
block_size = 64

abbrev pub ipad : ℕ
ipad = 0x36

abbrev pub opad : ℕ
opad = 0x5c

-- "Applications that use keys longer than B bytes will first hash the key using H and then use the resultant L byte string as the actual key"
abbrev pub shortened : List ℕ → List ℕ
shortened k = pick (ltb block_size (length k)) (sha256 k) k

-- "append zeros to the end of K to create a B byte string"
unfoldable pub block_of : List ℕ → List ℕ
block_of k = shortened k ++ replicate (block_size - length (shortened k)) 0

abbrev pub padded : ℕ → List ℕ → List ℕ
padded x k = map (λ b. bit_xor b x) (block_of k)

-- "H(K XOR opad, H(K XOR ipad, text))"
unfoldable pub hmac : List ℕ → List ℕ → List ℕ
hmac k m = sha256 (padded opad k ++ sha256 (padded ipad k ++ m))

abbrev pub most_key : ℕ
most_key = 256

abbrev pub key_ok : List ℕ → Bool
key_ok k = leb 1 (length k) && leb (length k) most_key
