-- How the code keeps the message schedule, R113: a ring of sixteen words, in which the word of round t stands at place t mod 16, until that of
-- round t + 16 takes the place.
--
-- ring_of t b : the ring with the words of the rounds before t of the block b; a place that no word has come to yet holds zero
use Rattle.std.specs.Prelude.{ℕ, zero, suc, ◌%◌, List, replicate, slice_index, slice_set}
use Rattle.compression.specs.Compression.{schedule_of}

unfoldable pub ring_of : ℕ → List ℕ → List ℕ
ring_of zero b = replicate 16 0
ring_of (suc t) b = slice_set (ring_of t b) (t % 16) (slice_index (schedule_of 64 b) t)
