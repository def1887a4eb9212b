-- Open: R37, all is checked and nothing is stored; refusals in the order of R73.
--
-- misplaced_id g n k      : whether a section with the id n, 0 where it is not whole, stands in the wrong place as section k (R31)
-- misplaced g v k        : whether section k of the volume v does
-- superblock_rows g r v   : the rules on volume and superblock, for the layout g that it holds
-- journal_rows g v        : the rules on the journal's ids
-- open_rows g r v st      : all rules but those on the sections to be replayed
-- entry_rows tag g x      : the rules on the entry x that is to be replayed; entries_verdict: on all of them, in replay order
-- replay_verdict tag g v  : what the rules say of the sections to be replayed
-- open_of tags r v st     : the call: its answer and the staging loan afterwards
use Rattle.std.specs.Prelude.{ℕ, ◌+◌, ◌*◌, Bool, not, ◌&&◌, List, [], ◌∷◌, ◌++◌, length, leb, ltb, eqb}
use Rattle.octets.specs.Answer.{Answer, taken, refused, refuse}
use Rattle.octets.specs.Choice.{pick, first_met}
use Rattle.octets.specs.Parts.{same}
use Rattle.octets.specs.Sectors.{sector_size}
use Rattle.on_disk.specs.declared.Layout.{Layout}
use Rattle.model.specs.declared.Phase.{Phase}
use Rattle.model.specs.declared.Phase.TheVariants.{Filling, Recovering}
use Rattle.model.specs.declared.State.{State}
use Rattle.on_disk.specs.Layout.{most_reserved, superblock_size, needed}
use Rattle.on_disk.specs.Superblock.{superblock_at, layout_in, is_zero, superblock_ok}
use Rattle.on_disk.specs.Section.{empty_section}
use Rattle.octets.specs.Lists.{all_below, first_below}
use Rattle.model.specs.Journal.{greatest_id, section_for, whole_ids, Replayed, replay}
use Rattle.model.specs.Tag.{Tag, Tags}
use Rattle.model.specs.Store.{steps_of}
use Rattle.model.specs.State.{Verdict, passed, last_id, volume_loan_ok, staging_ok}

abbrev pub misplaced_id : Layout → ℕ → ℕ → Bool
misplaced_id g n k = not (eqb n 0) && not (eqb (section_for g n) k)

abbrev pub misplaced : Layout → List ℕ → ℕ → Bool
misplaced g v k = misplaced_id g (whole_ids g v k) k

abbrev pub superblock_rows : Layout → ℕ → List ℕ → List (Bool × Verdict)
superblock_rows g r v =
    (not (volume_loan_ok v), refuse 1 [])
    ∷ (ltb most_reserved r, refuse 2 [])
    ∷ (ltb (length v) ((r + superblock_size) * sector_size), refuse 5 ((r + superblock_size) ∷ []))
    ∷ (is_zero (superblock_at r v), refuse 3 [])
    ∷ (not (superblock_ok r (superblock_at r v)), refuse 4 [])
    ∷ (ltb (length v) (needed g * sector_size), refuse 5 (needed g ∷ []))
    ∷ []

abbrev pub journal_rows : Layout → List ℕ → List (Bool × Verdict)
journal_rows g v =
    (eqb (greatest_id g v) last_id, refuse 10 [])
    ∷ (not (all_below g.sections (λ k. not (misplaced g v k))), refuse 11 (first_below g.sections (misplaced g v) ∷ []))
    ∷ []

abbrev pub open_rows : Layout → ℕ → List ℕ → List ℕ → List (Bool × Verdict)
open_rows g r v st = superblock_rows g r v ++ ((not (staging_ok g st), refuse 1 []) ∷ journal_rows g v)

abbrev pub entry_rows : Tag → Layout → Replayed → List (Bool × Verdict)
entry_rows tag g x =
    (leb g.provided x.entry.sector, refuse 6 (x.section ∷ x.index ∷ []))
    ∷ (not (same x.entry.tag (tag x.entry.sector x.entry.bytes)), refuse 7 (x.section ∷ x.index ∷ []))
    ∷ []

abbrev pub entries_verdict : Tag → Layout → List Replayed → Verdict
entries_verdict tag g [] = passed
entries_verdict tag g (x ∷ xs) = first_met (entry_rows tag g x) (entries_verdict tag g xs)

abbrev pub replay_verdict : Tag → Layout → List ℕ → Verdict
replay_verdict tag g v = entries_verdict tag g (replay g v)

-- R39: recovering, or filling where nothing is to be replayed
abbrev pub phase_for : ℕ → Phase
phase_for n = pick (eqb n 0) Filling (Recovering 0)

abbrev pub opened_state : Layout → List ℕ → State
opened_state g v = record { layout = g; phase = phase_for (steps_of g (replay g v)); count = 0; id = greatest_id g v + 1 }

pub record OpenResult : Type 0 where
  pub answer : Answer ℕ (State × ℕ)
  pub staging : List ℕ

-- R40: the number of steps to come; R38: staging is an empty section; R70: a refused call changes nothing
abbrev pub open_by : Layout → List ℕ → List ℕ → Verdict → OpenResult
open_by g v st (taken x) = record { answer = taken (opened_state g v, steps_of g (replay g v)); staging = empty_section g.width }
open_by g v st (refused r) = record { answer = refused r; staging = st }

unfoldable pub open_with : Tags → Layout → ℕ → List ℕ → List ℕ → OpenResult
open_with tags g r v st = open_by g v st (first_met (open_rows g r v st) (replay_verdict (tags g.width) g v))

abbrev pub open_of : Tags → ℕ → List ℕ → List ℕ → OpenResult
open_of tags r v st = open_with tags (layout_in r (superblock_at r v)) r v st
