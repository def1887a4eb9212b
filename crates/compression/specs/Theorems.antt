-- What is proved beyond each function's own contract; the proofs are in proofs/Rotation and proofs/Ring.
use Rattle.std.specs.Prelude.{◌≡◌, ℕ, ◌-◌, ◌%◌, ◌^◌, ◌<◌, ◌≤◌, List, bit_or, slice_index}
use Rattle.compression.specs.Words.{shr, shl, rotr}
use Rattle.compression.specs.Compression.{schedule_of}
use Rattle.compression.specs.Ring.{ring_of}

-- FIPS 180-4, section 3.2, operation 4: of a word, the or of the two shifts is the rotation, at every distance. R96: the sigma functions of the code are
-- by shifts and or, and this one law makes rotations of them.
abbrev pub ShiftsRotate : Type 0
ShiftsRotate = (n x : ℕ) → n ≤ 32 → x < 2 ^ 32 → bit_or (shr n x) (shl (32 - n) x) ≡ rotr n x

-- R113: the ring with the words of the rounds before t has, at the place of each of the last sixteen of these rounds (of all, if they are fewer), FIPS
-- 180-4's word of that round. One law over the distance d.
abbrev pub RingHolds : Type 0
RingHolds = (b : List ℕ) (t d : ℕ) → 0 < d → d ≤ 16 → d ≤ t → slice_index (ring_of t b) ((t - d) % 16) ≡ slice_index (schedule_of 64 b) (t - d)
