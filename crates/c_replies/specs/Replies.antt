-- What a volume's call says, in an answer's buffer, and what open and query give in theirs. R71.
--
-- An answer is five numbers of 8 bytes each, little-endian.
--
-- Reply                     : what a call says: the number that it answers, and the five numbers of its answer
-- answer_bytes_of r           : the bytes of the five numbers of the reply r
-- replying r after          : what a call leaves that says r, and whose other buffers then hold `after`
-- done_reply a b c d e       : the reply of a call that was carried out, with these five numbers
-- refused_reply r            : the reply of a call that was refused with r: how many values are also returned, then these
-- with_counts r n k          : the reply r with n and k as its fourth and fifth number
-- number_reply a             : the reply to the answer a of a call that gives one number
-- plain_reply a              : the reply to the answer a of format, write, read or verify, which give nothing beside it
-- flush_reply a, ..          : the reply to the answer a of the call of that name
-- did_of d                   : what a step did, as a number: 0 where it did nothing, 1 where it stored a sector
-- sector_of d                : the sector that it stored, else 0
-- acknowledged_bit, filling_bit : the bits of what a step says
-- says_of x                  : what a step says, as bits
-- opened_bytes a s           : what the state's buffer s holds where open gave the answer a
-- held_bytes a l             : what the layout's buffer l holds where query gave the answer a
use Rattle.std.specs.Prelude.{Option, Some, None, ℕ, Bool, List, [], ◌∷◌, ◌++◌, length, get_or, take}
use Rattle.octets.specs.Answer.{Refusal, Answer, taken, refused}
use Rattle.octets.specs.Choice.{pick}
use Rattle.on_disk.specs.declared.Layout.{Layout}
use Rattle.model.specs.declared.Says.{Says}
use Rattle.model.specs.declared.Says.TheVariants as saying
use Rattle.model.specs.declared.State.{State}
use Rattle.c_replies.specs.declared.Reply.{Reply}
use Rattle.c_numbers.specs.Called.{Called}
use Rattle.c_numbers.specs.Outcome.{done}
use Rattle.c_numbers.specs.Numbers.{number_bytes}
use Rattle.c_volume_state.specs.VolumeState.{layout_bytes_of, encode_of}

unfoldable pub answer_bytes_of : Reply → List ℕ
answer_bytes_of r = number_bytes 8 r.answer

abbrev pub replying : {A : Type 0} → Reply → A → Called A
replying r after = record { number = r.number; left = after; answer = answer_bytes_of r }

abbrev pub done_reply : ℕ → ℕ → ℕ → ℕ → ℕ → Reply
done_reply a b c d e = record { number = done; answer = a ∷ b ∷ c ∷ d ∷ e ∷ [] }

abbrev pub refused_reply : Refusal ℕ → Reply
refused_reply r = record { number = r.number; answer = length r.values ∷ get_or r.values 0 0 ∷ get_or r.values 1 0 ∷ 0 ∷ 0 ∷ [] }

abbrev pub with_counts : Reply → ℕ → ℕ → Reply
with_counts r n k = record { number = r.number; answer = take 3 r.answer ++ (n ∷ k ∷ []) }

abbrev pub number_reply : Answer ℕ ℕ → Reply
number_reply (taken n) = done_reply n 0 0 0 0
number_reply (refused r) = refused_reply r

abbrev pub plain_reply : Answer ℕ (Unit {0}) → Reply
plain_reply (taken x) = done_reply 0 0 0 0 0
plain_reply (refused r) = refused_reply r

-- 1 where the batch is acknowledged at once, 0 where committing begins
abbrev pub flush_reply : Answer ℕ Bool → Reply
flush_reply (taken at_once) = done_reply (pick at_once 1 0) 0 0 0 0
flush_reply (refused r) = refused_reply r

-- the stores to come
abbrev pub open_reply : Answer ℕ (State × ℕ) → Reply
open_reply (taken x) = done_reply x.1 0 0 0 0
open_reply (refused r) = refused_reply r

-- the bytes that staging must have
abbrev pub query_reply : Answer ℕ (Layout × ℕ) → Reply
query_reply (taken x) = done_reply x.1 0 0 0 0
query_reply (refused r) = refused_reply r

abbrev pub did_of : Option ℕ → ℕ
did_of None = 0
did_of (Some n) = 1

abbrev pub sector_of : Option ℕ → ℕ
sector_of None = 0
sector_of (Some n) = n

abbrev pub acknowledged_bit : ℕ
acknowledged_bit = 1

abbrev pub filling_bit : ℕ
filling_bit = 2

abbrev pub says_of : Says → ℕ
says_of saying.Nothing = 0
says_of saying.Acknowledged = acknowledged_bit
says_of saying.Filling = filling_bit

-- with two numbers more, n and k, which a refusal has too
abbrev pub step_reply : Answer ℕ (Option ℕ × Says) → ℕ → ℕ → Reply
step_reply (taken x) n k = done_reply (did_of x.0) (sector_of x.0) (says_of x.1) n k
step_reply (refused r) n k = with_counts (refused_reply r) n k

-- ---- what open and query give

-- the state's buffer s afterwards
abbrev pub opened_bytes : Answer ℕ (State × ℕ) → List ℕ → List ℕ
opened_bytes (taken x) s = encode_of x.0
opened_bytes (refused r) s = s

-- the layout's buffer l afterwards
abbrev pub held_bytes : Answer ℕ (Layout × ℕ) → List ℕ → List ℕ
held_bytes (taken x) l = layout_bytes_of x.0
held_bytes (refused r) l = l
