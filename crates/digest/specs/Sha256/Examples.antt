-- NIST's worked examples of FIPS 180-4 for SHA-256, as theorems: a message of one block and one of two. What their blocks lead to is computed in
-- compression/specs/Examples. More vectors are run by the program digest_vectors.
use Rattle.std.specs.Prelude.{◌≡◌, [], ◌∷◌, ◌++◌, replicate}
use Rattle.std.proofs.Common.{ap, ◌∙◌}
use Rattle.compression.specs.Compression.{compress_of, hash_of}
use Rattle.compression.specs.Examples.{message, only-block, first_block, second_block}
use Rattle.digest.specs.Padding.{zero_bytes_of, padding_of, bytes_of}
use Rattle.digest.specs.Sha256.{sha256}

-- "abc"
pub one_block : sha256 (0x61 ∷ 0x62 ∷ 0x63 ∷ [])
    ≡
    0xba ∷ 0x78 ∷ 0x16 ∷ 0xbf ∷ 0x8f ∷ 0x01 ∷ 0xcf ∷ 0xea ∷ 0x41 ∷ 0x41 ∷ 0x40 ∷ 0xde ∷ 0x5d ∷ 0xae ∷ 0x22 ∷ 0x23 ∷
    0xb0 ∷ 0x03 ∷ 0x61 ∷ 0xa3 ∷ 0x96 ∷ 0x17 ∷ 0x7a ∷ 0x9c ∷ 0xb4 ∷ 0x10 ∷ 0xff ∷ 0x61 ∷ 0xf2 ∷ 0x00 ∷ 0x15 ∷ 0xad ∷
    []
unfolding sha256 padding_of zero_bytes_of bytes_of hash_of
one_block = ap bytes_of only-block

-- "abcdbcdecdefdefgefghfghighijhijkijkljklmklmnlmnomnopnopq"
pub two_blocks : sha256 message
    ≡
    0x24 ∷ 0x8d ∷ 0x6a ∷ 0x61 ∷ 0xd2 ∷ 0x06 ∷ 0x38 ∷ 0xb8 ∷ 0xe5 ∷ 0xc0 ∷ 0x26 ∷ 0x93 ∷ 0x0c ∷ 0x3e ∷ 0x60 ∷ 0x39 ∷
    0xa3 ∷ 0x3c ∷ 0xe4 ∷ 0x59 ∷ 0x64 ∷ 0xff ∷ 0x21 ∷ 0x67 ∷ 0xf6 ∷ 0xec ∷ 0xed ∷ 0xd4 ∷ 0x19 ∷ 0xdb ∷ 0x06 ∷ 0xc1 ∷
    []
unfolding sha256 padding_of zero_bytes_of bytes_of hash_of
two_blocks = ap bytes_of ((λ i. compress_of (first_block i) (replicate 62 0 ++ (0x01 ∷ 0xc0 ∷ []))) ∙ second_block)
