-- The hash tree's calls over buffers. R84, R86, R87.
--
-- length_call n              : what gaffreel_tree_length answers for the count n, in bytes: the tree's length, 0 for one data block; 0 too where the count is out of range
-- BuildCall                 : what gaffreel_tree_build leaves: its number, and the contents of the two buffers that it is lent to write to
-- refused_build k t r        : the call was refused with the number k, and the buffers hold t and r as before
-- build_leaves o r           : what it leaves where the tree's build has the result o; the root digest's buffer, which held r, has the root digest of a taken one
-- build_call n s d t r       : what it leaves of the count n, salt s, image d, tree's buffer t and root digest's buffer r
-- level_bytes_of v            : the level v in a level's buffer: little-endian, a negative one in two's complement
-- level_in b                 : the level in the bytes b of such a buffer
-- IsLevel v                 : the level v is one that 32 bits hold
-- level_buffer_of a l         : what a level's buffer l holds where the answer is a: the level that is also returned; l where none is
-- verify_call b i t n s r l  : what gaffreel_tree_verify leaves of the data block b, index i, tree t, count n, salt s, root digest r and level's buffer l
use Rattle.std.specs.Prelude.{ℕ, ◌-◌, ◌^◌, ◌<◌, List, [], ◌∷◌, ltb, ℤ, pos, negsuc, length}
use Rattle.octets.specs.Numbers.{le, value}
use Rattle.octets.specs.Answer.{Answer, taken, refused, number_in}
use Rattle.octets.specs.Choice.{pick, first_met, differs}
use Rattle.digest.specs.Sha256.{digest_size}
use Rattle.tree_path.specs.Places.{length_of}
use Rattle.tree.specs.Build.{BuildOutcome, build_of}
use Rattle.tree.specs.Verify.{verify_of}
use Rattle.c_numbers.specs.Sizes.{level_size}
use Rattle.c_numbers.specs.Outcome.{Outcome, wrong_length, refused_with, answering}

-- ---- length

abbrev pub length_call : ℕ → ℕ
length_call n = length_of n

-- ---- build

pub record BuildCall : Type 0 where
  -- the number that the call answers
  pub number : ℕ
  -- the contents of the buffers afterwards
  pub tree : List ℕ
  pub root : List ℕ

abbrev pub refused_build : ℕ → List ℕ → List ℕ → BuildCall
refused_build k t r = record { number = k; tree = t; root = r }

abbrev pub build_leaves : BuildOutcome → List ℕ → BuildCall
build_leaves o r = record { number = number_in o.answer; tree = o.tree; root = (answering o.answer r o.root).buffer }

unfoldable pub build_call : ℕ → List ℕ → List ℕ → List ℕ → List ℕ → BuildCall
build_call n s d t r =
    first_met
    ((differs (length r) digest_size, refused_build wrong_length t r) ∷ [])
    (build_leaves (build_of n s d t) r)

-- ---- verify

-- negsuc n is −(n + 1)
abbrev pub level_bytes_of : ℤ → List ℕ
level_bytes_of (pos n) = le level_size n
level_bytes_of (negsuc n) = le level_size (2 ^ 32 - 1 - n)

abbrev pub level_in : List ℕ → ℤ
level_in b = pick (ltb (value b) (2 ^ 31)) (pos (value b)) (negsuc (2 ^ 32 - 1 - value b))

abbrev pub IsLevel : ℤ → Type 0
IsLevel (pos n) = n < 2 ^ 31
IsLevel (negsuc n) = n < 2 ^ 31

-- the first of the values vs as a level; l where there is none
abbrev pub first_level_of : List ℤ → List ℕ → List ℕ
first_level_of [] l = l
first_level_of (v ∷ vs) l = level_bytes_of v

abbrev pub level_buffer_of : Answer ℤ (Unit {0}) → List ℕ → List ℕ
level_buffer_of (taken x) l = l
level_buffer_of (refused r) l = first_level_of r.values l

unfoldable pub verify_call : List ℕ → ℕ → List ℕ → ℕ → List ℕ → List ℕ → List ℕ → Outcome
verify_call b i t n s r l =
    first_met
    ((differs (length l) level_size, refused_with wrong_length l) ∷ [])
    (record { number = number_in (verify_of b i t n s r); buffer = level_buffer_of (verify_of b i t n s r) l })
