-- The length of each kind of buffer that the C interface gives a form of its own, in bytes. That of a digest, and of a root digest, is `digest_size` of
-- crate digest.
--
-- digest_state_size           : the state of a digest
-- level_size                 : a failing level of a hash tree
-- layout_size                : a volume's layout
-- volume_state_size           : a volume's state
-- answer_size                : what a volume's call says
use Rattle.std.specs.Prelude.{ℕ}

abbrev pub digest_state_size : ℕ
digest_state_size = 104

abbrev pub level_size : ℕ
level_size = 4

abbrev pub layout_size : ℕ
layout_size = 64

abbrev pub volume_state_size : ℕ
volume_state_size = 104

abbrev pub answer_size : ℕ
answer_size = 40
