-- NIST's worked examples of FIPS 180-4 for SHA-256, block by block, as theorems: the hash value after each block of a message of one block and of one of two,
-- padded as section 5.1.1 says. Crate digest has the same of the messages.
--
-- message : "abcdbcdecdefdefgefghfghighijhijkijkljklmklmnlmnomnopnopq", the longer of the two; the other is "abc"
use Rattle.std.specs.Prelude.{◌≡◌, ℕ, List, [], ◌∷◌, ◌++◌, replicate, refl}
use Rattle.compression.specs.Words.{rotr, Ch, Maj, Σ₀, Σ₁, σ₀, σ₁}
use Rattle.compression.specs.Constants.{K, initial_hash}
use Rattle.compression.specs.Compression.{word_of, next_of, schedule_of, variables_of, round_of, rounds_of, added_of, compress_of}

-- "abc", 24 bits
pub only-block : compress_of initial_hash (0x61 ∷ 0x62 ∷ 0x63 ∷ 0x80 ∷ (replicate 59 0 ++ (0x18 ∷ [])))
    ≡
    0xba7816bf ∷ 0x8f01cfea ∷ 0x414140de ∷ 0x5dae2223 ∷ 0xb00361a3 ∷ 0x96177a9c ∷ 0xb410ff61 ∷ 0xf20015ad ∷
    []
unfolding compress_of added_of variables_of rounds_of round_of schedule_of next_of word_of K rotr Ch Maj Σ₀ Σ₁ σ₀ σ₁
only-block = refl

abbrev pub message : List ℕ
message =
    0x61 ∷ 0x62 ∷ 0x63 ∷ 0x64 ∷ 0x62 ∷ 0x63 ∷ 0x64 ∷ 0x65 ∷ 0x63 ∷ 0x64 ∷ 0x65 ∷ 0x66 ∷ 0x64 ∷ 0x65 ∷
    0x66 ∷ 0x67 ∷ 0x65 ∷ 0x66 ∷ 0x67 ∷ 0x68 ∷ 0x66 ∷ 0x67 ∷ 0x68 ∷ 0x69 ∷ 0x67 ∷ 0x68 ∷ 0x69 ∷ 0x6a ∷
    0x68 ∷ 0x69 ∷ 0x6a ∷ 0x6b ∷ 0x69 ∷ 0x6a ∷ 0x6b ∷ 0x6c ∷ 0x6a ∷ 0x6b ∷ 0x6c ∷ 0x6d ∷ 0x6b ∷ 0x6c ∷
    0x6d ∷ 0x6e ∷ 0x6c ∷ 0x6d ∷ 0x6e ∷ 0x6f ∷ 0x6d ∷ 0x6e ∷ 0x6f ∷ 0x70 ∷ 0x6e ∷ 0x6f ∷ 0x70 ∷ 0x71 ∷
    []

-- the hash value between its two blocks
abbrev pub halfway : List ℕ
halfway =
    0x85e655d6 ∷ 0x417a1795 ∷ 0x3363376a ∷ 0x624cde5c ∷ 0x76e09589 ∷ 0xcac5f811 ∷ 0xcc4b32c1 ∷ 0xf20e533a ∷
    []

pub first_block : compress_of initial_hash (message ++ (0x80 ∷ replicate 7 0)) ≡ halfway
unfolding compress_of added_of variables_of rounds_of round_of schedule_of next_of word_of K rotr Ch Maj Σ₀ Σ₁ σ₀ σ₁
first_block = refl

-- 448 bits
pub second_block : compress_of halfway (replicate 62 0 ++ (0x01 ∷ 0xc0 ∷ []))
    ≡
    0x248d6a61 ∷ 0xd20638b8 ∷ 0xe5c02693 ∷ 0x0c3e6039 ∷ 0xa33ce459 ∷ 0x64ff2167 ∷ 0xf6ecedd4 ∷ 0x19db06c1 ∷
    []
unfolding compress_of added_of variables_of rounds_of round_of schedule_of next_of word_of K rotr Ch Maj Σ₀ Σ₁ σ₀ σ₁
second_block = refl
