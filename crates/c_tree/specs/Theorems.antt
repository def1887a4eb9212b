-- What is proved of a level and its bytes; the proof is in proofs/LevelBytes.
use Rattle.std.specs.Prelude.{◌≡◌, ℤ}
use Rattle.c_tree.specs.HashTree.{level_bytes_of, level_in, IsLevel}

-- A level is read back from its bytes.
abbrev pub LevelBack : Type 0
LevelBack = (v : ℤ) → IsLevel v → level_in (level_bytes_of v) ≡ v
