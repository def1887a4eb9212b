-- Parts of a list of bytes: taken, replaced, compared. A part is given by index and length, in bytes, as R17 gives the fields of a
-- superblock.
use Rattle.std.specs.Prelude.{ℕ, ◌+◌, Bool, true, false, ◌&&◌, List, [], ◌∷◌, ◌++◌, eqb, length, take, drop}

-- the n bytes of l from index `at`
abbrev pub part : List ℕ → ℕ → ℕ → List ℕ
part l at n = take n (drop at l)

-- l with the `length s` bytes from index `at` replaced by s
abbrev pub patch : List ℕ → ℕ → List ℕ → List ℕ
patch l at s = take at l ++ (s ++ drop (at + length s) l)

-- whether a and b are as long and have the same bytes
abbrev pub same : List ℕ → List ℕ → Bool
same [] [] = true
same [] (y ∷ b) = false
same (x ∷ a) [] = false
same (x ∷ a) (y ∷ b) = eqb x y && same a b
