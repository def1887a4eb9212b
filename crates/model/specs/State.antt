-- What is tested of loans and states: R54, and refusal 1 of R71. Which call is lent what is R53: its first row says so.
--
-- Verdict             : what the rules of a call say: none is met (passed), or the refusal of the first that is
-- last_id              : 2^64 − 1, which no commit may be given
-- volume_loan_ok v      : whether a volume is whole sectors, and not over the limit
-- staging_ok g st      : whether a staging loan is as long as a section
-- sector_ok b          : whether a loan is as long as a sector
-- place_ok g n id p    : whether the place of the phase p exists, as far as neither volume nor staging is needed (R55, R56): of an entry, three stores (R118)
-- state_ok s           : whether the state s is sound, as far as neither is needed
-- volume_ok s v        : whether v is a volume that the layout fits, and on which the place of s exists
-- staged_ok s st       : whether st is a staging loan of its length, in which the place of s exists
-- is_filling p, is_recovering p : which phase it is (R52)
-- in_phase s p         : s in the phase p
use Rattle.std.specs.Prelude.{ℕ, ◌-◌, ◌*◌, ◌%◌, ◌^◌, Bool, true, false, not, ◌&&◌, List, length, leb, ltb, eqb}
use Rattle.octets.specs.Answer.{Answer, taken}
use Rattle.octets.specs.Sectors.{sector_size}
use Rattle.on_disk.specs.declared.Layout.{Layout}
use Rattle.model.specs.declared.Phase.{Phase}
use Rattle.model.specs.declared.Phase.TheVariants.{Filling, Committing, WritingBack, Recovering}
use Rattle.model.specs.declared.State.{State}
use Rattle.on_disk.specs.Layout.{most_sectors, entry_count, section_size, needed, layout_ok}
use Rattle.model.specs.Journal.{replay}
use Rattle.on_disk.specs.Section.{entry_of}
use Rattle.model.specs.Store.{most_home_stores, home_count, steps_of}

-- The rules of a call are rows of a test and a verdict, in order, read by `first_met` of octets (R69).
abbrev pub Verdict : Type 0
Verdict = Answer ℕ (Unit {0})

abbrev pub passed : Verdict
passed = taken tt

abbrev pub last_id : ℕ
last_id = 2 ^ 64 - 1

abbrev pub volume_loan_ok : List ℕ → Bool
volume_loan_ok v = eqb (length v % sector_size) 0 && leb (length v) (most_sectors * sector_size)

unfoldable pub staging_ok : Layout → List ℕ → Bool
staging_ok g st = eqb (length st) (section_size g.width * sector_size)

abbrev pub sector_ok : List ℕ → Bool
sector_ok b = eqb (length b) sector_size

abbrev pub place_ok : Layout → ℕ → ℕ → Phase → Bool
place_ok g count id Filling = true
place_ok g count id (Committing j) = ltb j (section_size g.width) && (ltb 0 count && ltb id last_id)
place_ok g count id (WritingBack i h) = ltb i count && ltb h most_home_stores
place_ok g count id (Recovering k) = eqb count 0

unfoldable pub state_ok : State → Bool
state_ok s =
    layout_ok s.layout
    && (leb s.count (entry_count s.layout.width)
    && (not (eqb s.id 0)
    && place_ok s.layout s.count s.id s.phase))

-- a step below the number that the recovery of v has
abbrev pub replay_ok : Layout → List ℕ → Phase → Bool
replay_ok g v Filling = true
replay_ok g v (Committing j) = true
replay_ok g v (WritingBack i h) = true
replay_ok g v (Recovering k) = ltb k (steps_of g (replay g v))

unfoldable pub volume_ok : State → List ℕ → Bool
volume_ok s v = volume_loan_ok v && (leb (needed s.layout * sector_size) (length v) && replay_ok s.layout v s.phase)

-- a store that the staged entry has (R118)
abbrev pub store_ok : Layout → List ℕ → Phase → Bool
store_ok g st Filling = true
store_ok g st (Committing j) = true
store_ok g st (WritingBack i h) = ltb h (home_count g (entry_of g.width st i))
store_ok g st (Recovering k) = true

unfoldable pub staged_ok : State → List ℕ → Bool
staged_ok s st = staging_ok s.layout st && store_ok s.layout st s.phase

abbrev pub in_phase : State → Phase → State
in_phase s p = record { layout = s.layout; phase = p; count = s.count; id = s.id }

abbrev pub is_filling : Phase → Bool
is_filling Filling = true
is_filling (Committing j) = false
is_filling (WritingBack i h) = false
is_filling (Recovering k) = false

abbrev pub is_recovering : Phase → Bool
is_recovering Filling = false
is_recovering (Committing j) = false
is_recovering (WritingBack i h) = false
is_recovering (Recovering k) = true
