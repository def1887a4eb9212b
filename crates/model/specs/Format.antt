-- Format: R35, R36; refusals in the order of R72.
--
-- format_rows g v      : the rules of the call, in order
-- fresh_run tag g q n  : run q with n data sectors: their tags, zeros to the end of the tag area, zero data
-- last_run g           : the number of the last run; last_length g: the data sectors still needed there (R18)
-- fresh_volume tag g v : the volume v as format leaves it
-- format_of tags g v   : the call: its answer and the volume afterwards
use Rattle.std.specs.Prelude.{ℕ, ◌+◌, ◌-◌, ◌*◌, ◌/◌, ◌%◌, Bool, not, List, [], ◌∷◌, ◌++◌, length, take, drop, replicate, ltb}
use Rattle.octets.specs.Answer.{taken, refused, refuse}
use Rattle.octets.specs.Choice.{first_met}
use Rattle.octets.specs.Sectors.{sector_size}
use Rattle.on_disk.specs.declared.Layout.{Layout}
use Rattle.on_disk.specs.Layout.{section_size, run_length, tag_area, needed, layout_ok}
use Rattle.on_disk.specs.Superblock.{superblock_of, superblock_at, is_zero}
use Rattle.octets.specs.Lists.{collect}
use Rattle.model.specs.Tag.{Tag, Tags}
use Rattle.model.specs.State.{Verdict, passed, volume_loan_ok}

abbrev pub zeros : ℕ → List ℕ
zeros n = replicate n 0

abbrev pub fresh_tags : Tag → Layout → ℕ → ℕ → List ℕ
fresh_tags tag g q n = collect n (λ i. tag (q * run_length g + i) (zeros sector_size))

abbrev pub fresh_run : Tag → Layout → ℕ → ℕ → List ℕ
fresh_run tag g q n = fresh_tags tag g q n ++ (zeros (tag_area g * sector_size - n * g.width) ++ zeros (n * sector_size))

abbrev pub last_run : Layout → ℕ
last_run g = (g.provided - 1) / run_length g

abbrev pub last_length : Layout → ℕ
last_length g = (g.provided - 1) % run_length g + 1

unfoldable pub fresh_volume : Tag → Layout → List ℕ → List ℕ
fresh_volume tag g v =
    take (g.reserved * sector_size) v
    ++ (superblock_of g
    ++ (zeros (g.sections * section_size g.width * sector_size)
    ++ (collect (last_run g) (λ q. fresh_run tag g q (run_length g))
    ++ (fresh_run tag g (last_run g) (last_length g)
    ++ drop (needed g * sector_size) v))))

abbrev pub format_rows : Layout → List ℕ → List (Bool × Verdict)
format_rows g v =
    (not (volume_loan_ok v), refuse 1 [])
    ∷ (not (layout_ok g), refuse 2 [])
    ∷ (ltb (length v) (needed g * sector_size), refuse 5 (needed g ∷ []))
    ∷ (not (is_zero (superblock_at g.reserved v)), refuse 3 [])
    ∷ []

pub record FormatResult : Type 0 where
  pub answer : Verdict
  pub volume : List ℕ

abbrev pub format_by : Tag → Layout → List ℕ → Verdict → FormatResult
format_by tag g v (taken x) = record { answer = taken x; volume = fresh_volume tag g v }
format_by tag g v (refused r) = record { answer = refused r; volume = v }

unfoldable pub format_of : Tags → Layout → List ℕ → FormatResult
format_of tags g v = format_by (tags g.width) g v (first_met (format_rows g v) passed)
