-- Numbers of one width in a buffer, one behind the other, each little-endian.
--
-- numbers_in w n b           : the first n numbers in b, each in w bytes
-- number_bytes w ns          : the numbers ns, each in w bytes
-- number_at b k              : number k in b, where each has 8 bytes
use Rattle.std.specs.Prelude.{ℕ, zero, suc, ◌*◌, List, [], ◌∷◌, ◌++◌}
use Rattle.octets.specs.Numbers.{le, value}
use Rattle.octets.specs.Parts.{part}

unfoldable pub numbers_in : ℕ → ℕ → List ℕ → List ℕ
numbers_in w zero b = []
numbers_in w (suc n) b = numbers_in w n b ++ (value (part b (w * n) w) ∷ [])

unfoldable pub number_bytes : ℕ → List ℕ → List ℕ
number_bytes w [] = []
number_bytes w (n ∷ ns) = le w n ++ number_bytes w ns

abbrev pub number_at : List ℕ → ℕ → ℕ
number_at b k = value (part b (8 * k) 8)
