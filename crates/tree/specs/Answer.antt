-- Number and values of each answer (R71, R100); the data block counts as level −1 (R84).
--
-- level_at k        : the level of place k on the path: −1, the data block's, where k is 0, else k − 1
-- mismatch_at k     : the refusal 12, the highest failing level being that of place k
-- mismatch k       : refused with it
-- refusal_of r      : the code's refusal r
-- answer_of a       : the answer of a call of the code that returns a, and nothing else
use Rattle.std.specs.Prelude.{ℕ, zero, suc, [], ◌∷◌, ℤ, pos, negsuc, Result, Ok, Err}
use Rattle.octets.specs.Answer.{Answer, Refusal, taken, refused, refusal}
use Rattle.tree.specs.declared.Refusal as code
use Rattle.tree.specs.declared.Refusal.TheVariants.{WrongLength, OutOfRange, DataDiffers, LevelDiffers}

abbrev pub level_at : ℕ → ℤ
level_at zero = negsuc 0
level_at (suc l) = pos l

abbrev pub mismatch_at : ℕ → Refusal ℤ
mismatch_at k = refusal 12 (level_at k ∷ [])

abbrev pub mismatch : ℕ → Answer ℤ (Unit {0})
mismatch k = refused (mismatch_at k)

abbrev pub refusal_of : code.Refusal → Refusal ℤ
refusal_of WrongLength = refusal 1 []
refusal_of OutOfRange = refusal 2 []
refusal_of DataDiffers = mismatch_at 0
refusal_of (LevelDiffers l) = mismatch_at (suc l)

abbrev pub answer_of : Result (Unit {0}) code.Refusal → Answer ℤ (Unit {0})
answer_of (Ok x) = taken tt
answer_of (Err r) = refused (refusal_of r)
