-- The ledger: R61. It is a fold over a transcript, and never sees a volume, a state or an answer.
--
-- Noted          : what the ledger is fed: the cuts and calls in order, each write's sector and bytes, and which calls were taken
-- Contents       : what each logical sector holds
-- Ledger         : the contents, the batch, and for each taken flush of a batch that was not empty, since the last cut, how many taken steps are to come
--                  until it enters the batch
-- last_for ws s d : the bytes of the last write of ws to sector s, else d
-- entered c ws   : the contents c with the batch ws entered, in order
-- note m l x     : the ledger l after x, where a commit takes m steps
-- ledger_of m xs  : the ledger of the transcript xs
-- FlushesCount   : each taken flush counts by itself: a second one does not set the count anew. The proof is in proofs/Ledger
use Rattle.std.specs.Prelude.{ℕ, zero, suc, ◌-◌, ◌≤◌, Bool, true, false, ◌||◌, List, [], ◌∷◌, ◌++◌, ◌≢◌, ◌≡◌, length, replicate, eqb}
use Rattle.octets.specs.Choice.{pick}
use Rattle.octets.specs.Sectors.{sector_size}

pub data Noted : Type 0 where
  cut : Noted
  opened : (taken : Bool) → Noted
  wrote : (taken : Bool) (sector : ℕ) (bytes : List ℕ) → Noted
  flushed : (taken : Bool) → Noted
  stepped : (taken : Bool) → Noted
  read : (taken : Bool) → Noted

pub record Write : Type 0 where
  pub sector : ℕ
  pub bytes : List ℕ

abbrev pub Contents : Type 0
Contents = (sector : ℕ) → List ℕ

abbrev pub last_for : List Write → ℕ → List ℕ → List ℕ
last_for [] s d = d
last_for (w ∷ ws) s d = last_for ws s (pick (eqb w.sector s) w.bytes d)

abbrev pub entered : Contents → List Write → Contents
entered c ws s = last_for ws s (c s)

pub record Ledger : Type 0 where
  pub contents : Contents
  pub batch : List Write
  pub to_come : List ℕ

-- R62
abbrev pub start : Ledger
start = record { contents = λ s. replicate sector_size 0; batch = []; to_come = [] }

-- R63
abbrev pub after_write : ℕ → List ℕ → Ledger → Ledger
after_write s bytes l = record { contents = l.contents; batch = l.batch ++ (record { sector = s; bytes = bytes } ∷ []); to_come = l.to_come }

-- R64: a flush of a batch that is not empty counts, by itself
abbrev pub after_flush : ℕ → Ledger → Ledger
after_flush m l = record { contents = l.contents; batch = l.batch; to_come = pick (eqb (length l.batch) 0) l.to_come (m ∷ l.to_come) }

-- whether a step is the last of one of these counts, and what it leaves of them
abbrev pub has_last : List ℕ → Bool
has_last [] = false
has_last (n ∷ ns) = eqb n 1 || has_last ns

abbrev pub one_less : List ℕ → List ℕ
one_less [] = []
one_less (zero ∷ ns) = one_less ns
one_less (suc zero ∷ ns) = one_less ns
one_less (suc (suc n) ∷ ns) = suc n ∷ one_less ns

-- R64: the last of the steps enters the batch, and empties it
abbrev pub count_down : Contents → List Write → List ℕ → Ledger
count_down c ws ns =
    pick (has_last ns) (record { contents = entered c ws; batch = []; to_come = one_less ns }) (record { contents = c; batch = ws; to_come = one_less ns })

abbrev pub after_step : Ledger → Ledger
after_step l = count_down l.contents l.batch l.to_come

-- whether the next taken step enters the batch
abbrev pub enters_next : Ledger → Bool
enters_next l = has_last l.to_come

-- R65
abbrev pub after_cut : Ledger → Ledger
after_cut l = record { contents = l.contents; batch = []; to_come = [] }

-- R65: all else, refused calls too, changes nothing
abbrev pub note : ℕ → Ledger → Noted → Ledger
note m l cut = after_cut l
note m l (opened taken) = l
note m l (wrote true s bytes) = after_write s bytes l
note m l (wrote false s bytes) = l
note m l (flushed true) = after_flush m l
note m l (flushed false) = l
note m l (stepped true) = after_step l
note m l (stepped false) = l
note m l (read taken) = l

-- the ledger l after a transcript, and the ledger of a whole transcript
abbrev pub note_all : ℕ → Ledger → List Noted → Ledger
note_all m l [] = l
note_all m l (x ∷ xs) = note_all m (note m l x) xs

abbrev pub ledger_of : ℕ → List Noted → Ledger
ledger_of m xs = note_all m start xs

-- with m − 1 steps after the second flush and one before it, the first has its m-th
abbrev pub FlushesCount : Type 0
FlushesCount =
    (m : ℕ) (l : Ledger) → 2 ≤ m → length l.batch ≢ 0 → l.to_come ≡ []
    → (note_all m l (flushed true ∷ stepped true ∷ flushed true ∷ replicate (m - 1) (stepped true))).contents ≡ entered l.contents l.batch
