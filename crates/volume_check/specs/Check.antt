-- The check of a whole volume, R88: it is opened, its recovery finished in memory, and each sector read.
--
-- recover_of r v st  : the call: open, then as many steps as it reports are to come. Its answer, as open's: the state, and how many stores there were; or
--                      open's refusal. And volume and staging afterwards
-- is_bad s v st n    : whether sector n is bad: the volume provides it, and a read of it is refused. Where the volume is filling, that is by refusal 7 alone
-- flags_of bad n     : a byte for each sector below n: 1 where it is bad, else 0
-- count_of bad n     : how many of them are bad
-- Flagged bad n r l : r is how many, and l the bytes
use Rattle.std.specs.Prelude.{ℕ, zero, suc, ◌+◌, Bool, not, ◌&&◌, ◌≡◌, List, [], ◌∷◌, replicate, ltb}
use Rattle.octets.specs.Answer.{Answer, taken, refused, is_taken}
use Rattle.octets.specs.Choice.{pick}
use Rattle.octets.specs.Sectors.{sector_size}
use Rattle.model.specs.declared.State.{State}
use Rattle.octets.specs.Lists.{collect}
use Rattle.model.specs.Tag.{tag_of}
use Rattle.model.specs.Open.{OpenResult, open_of}
use Rattle.model.specs.Advance.{AdvanceResult, advance_of}
use Rattle.model.specs.Read.{read_of}

pub record RecoverResult : Type 0 where
  pub answer : Answer ℕ (State × ℕ)
  pub volume : List ℕ
  pub staging : List ℕ

-- n steps left o
abbrev pub recovered : ℕ → AdvanceResult → RecoverResult
recovered n o = record { answer = taken (o.state, n); volume = o.volume; staging = o.staging }

abbrev pub recover_by : List ℕ → Answer ℕ (State × ℕ) → List ℕ → RecoverResult
recover_by v (taken x) st = recovered x.1 (advance_of x.1 x.0 v st)
recover_by v (refused r) st = record { answer = refused r; volume = v; staging = st }

abbrev pub recover_from : List ℕ → OpenResult → RecoverResult
recover_from v o = recover_by v o.answer o.staging

unfoldable pub recover_of : ℕ → List ℕ → List ℕ → RecoverResult
recover_of r v st = recover_from v (open_of tag_of r v st)

unfoldable pub is_bad : State → List ℕ → List ℕ → ℕ → Bool
is_bad s v st n =
    not (is_taken (read_of tag_of s v st n (replicate sector_size 0)).answer) && ltb n s.layout.provided

-- ---- of the sectors below n, those of which a test holds

abbrev pub flags_of : (ℕ → Bool) → ℕ → List ℕ
flags_of bad n = collect n (λ i. pick (bad i) 1 0 ∷ [])

abbrev pub count_of : (ℕ → Bool) → ℕ → ℕ
count_of bad zero = 0
count_of bad (suc n) = count_of bad n + pick (bad n) 1 0

abbrev pub Flagged : (ℕ → Bool) → ℕ → ℕ → List ℕ → Type 0
Flagged bad n r l = (r ≡ count_of bad n) × (l ≡ flags_of bad n)
