-- The SHA-256 hash computation, R10: FIPS 180-4, sections 5.2.1 and 6.2.2. A block is 64 bytes, a hash value eight words.
--
-- word_of b t           : M_t, word t of the block b: its bytes 4 t to 4 t + 3, the most significant first (5.2.1, 3.1)
-- schedule_of n b       : the words W_0 to W_(n-1) of the message schedule of the block b (6.2.2, step 1)
-- variables_of h        : the working variables a to h, from the hash value h (step 2)
-- round_of v k w        : one round, with the round constant k and the schedule's word w (step 3)
-- rounds_of n v w       : the first n rounds, with the schedule w
-- added_of v h          : the next hash value, from the working variables v after the rounds and the hash value h (step 4)
-- compress_of h b       : the hash value after the block b, from the hash value h before it: steps 1 to 4
-- hash_of n h m         : the hash value after the first n blocks of m, from the hash value h
use Rattle.std.specs.Prelude.{ℕ, zero, suc, ◌+◌, ◌-◌, ◌*◌, ◌^◌, List, [], ◌∷◌, ◌++◌, nat_lt, slice_index, slice_index_or}
use Rattle.octets.specs.Choice.{pick}
use Rattle.octets.specs.Parts.{part}
use Rattle.compression.specs.declared.Variables.{Variables}
use Rattle.compression.specs.Constants.{K}
use Rattle.compression.specs.Words.{◌⊞◌, Ch, Maj, Σ₀, Σ₁, σ₀, σ₁}

unfoldable pub word_of : List ℕ → ℕ → ℕ
word_of b t = slice_index b (4 * t) * 2 ^ 24 + slice_index b (4 * t + 1) * 2 ^ 16 + slice_index b (4 * t + 2) * 2 ^ 8 + slice_index b (4 * t + 3)

-- W_t, from the block b and the words w before it
unfoldable pub next_of : List ℕ → List ℕ → ℕ → ℕ
next_of b w t =
    pick (nat_lt t 16)
    (word_of b t)
    (σ₁ (slice_index w (t - 2)) ⊞ slice_index_or w (t - 7) 0 ⊞ σ₀ (slice_index w (t - 15)) ⊞ slice_index_or w (t - 16) 0)

unfoldable pub schedule_of : ℕ → List ℕ → List ℕ
schedule_of zero b = []
schedule_of (suc t) b = schedule_of t b ++ (next_of b (schedule_of t b) t ∷ [])

unfoldable pub variables_of : List ℕ → Variables
variables_of h =
    record { a = slice_index h 0; b = slice_index h 1; c = slice_index h 2; d = slice_index h 3; e = slice_index h 4; f = slice_index h 5; g = slice_index h 6; h = slice_index h 7 }

abbrev pub T₁ : Variables → ℕ → ℕ → ℕ
T₁ v k w = v.h ⊞ Σ₁ v.e ⊞ Ch v.e v.f v.g ⊞ k ⊞ w

abbrev pub T₂ : Variables → ℕ
T₂ v = Σ₀ v.a ⊞ Maj v.a v.b v.c

unfoldable pub round_of : Variables → ℕ → ℕ → Variables
round_of v k w =
    record { a = T₁ v k w ⊞ T₂ v; b = v.a; c = v.b; d = v.c; e = v.d ⊞ T₁ v k w; f = v.e; g = v.f; h = v.g }

unfoldable pub rounds_of : ℕ → Variables → List ℕ → Variables
rounds_of zero v w = v
rounds_of (suc t) v w = round_of (rounds_of t v w) (slice_index K t) (slice_index w t)

unfoldable pub added_of : Variables → List ℕ → List ℕ
added_of v h =
    (v.a ⊞ slice_index_or h 0 0) ∷ (v.b ⊞ slice_index_or h 1 0) ∷ (v.c ⊞ slice_index_or h 2 0) ∷ (v.d ⊞ slice_index_or h 3 0) ∷
    (v.e ⊞ slice_index_or h 4 0) ∷ (v.f ⊞ slice_index_or h 5 0) ∷ (v.g ⊞ slice_index_or h 6 0) ∷ (v.h ⊞ slice_index_or h 7 0) ∷
    []

unfoldable pub compress_of : List ℕ → List ℕ → List ℕ
compress_of h b = added_of (rounds_of 64 (variables_of h) (schedule_of 64 b)) h

unfoldable pub hash_of : ℕ → List ℕ → List ℕ → List ℕ
hash_of zero h m = h
hash_of (suc i) h m = compress_of (hash_of i h m) (part m (64 * i) 64)
