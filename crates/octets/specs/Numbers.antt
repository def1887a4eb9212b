-- Bytes, and the numbers that they write down. R9: the least significant byte comes first, save in the numbers of FIPS 180-4, which are big-endian.
use Rattle.std.specs.Prelude.{ℕ, zero, suc, ◌+◌, ◌*◌, ◌/◌, ◌%◌, ◌^◌, ◌<◌, List, [], ◌∷◌, get_or}

-- every element of l is a byte: below 256. By index, as the code knows a lent slice; past the end `get_or` gives 0, so nothing is asked there.
-- A record, so that a law about l finds l by itself.
pub record Bytes (l : List ℕ) : Type 0 where
  pub below : (i : ℕ) → get_or l i 0 < 256

-- n in k bytes, the least significant first; what does not fit is left out
abbrev pub le : ℕ → ℕ → List ℕ
le zero n = []
le (suc k) n = (n % 256) ∷ le k (n / 256)

-- n in k bytes, the most significant first; what does not fit is left out
abbrev pub be : ℕ → ℕ → List ℕ
be zero n = []
be (suc k) n = (n / 256 ^ k % 256) ∷ be k n

-- the number that bytes write down, the least significant first
abbrev pub value : List ℕ → ℕ
value [] = 0
value (b ∷ bs) = b + 256 * value bs
