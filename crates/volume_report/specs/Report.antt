-- The report of a check, as text: R88 to R90.
--
-- characters_of s  : the bytes of a text: the ASCII code of each character
-- decimal n       : a number in decimal, without leading zeros; n is below 10^20
-- field_of w n     : a word, then a number
-- line_of w n      : the same as the end of a line
-- refused_line r   : all that is printed of a refusal, R89
-- layout_line g    : the first line of a check
-- bad_lines bad n  : a line for each bad one of the sectors below n, rising
-- check_text ..    : the lines of a check, R90: the layout, how many stores open reported, the bad sectors, how many they are
-- report_of v      : the report of the image v: its text, and the image afterwards
-- FreshReports    : the report of a volume that format left; FreshPrints: R90's example
-- Puts .., Reports .. : that a call put a text, or a report, in a loan
use Prim.Native.Char.{code}
use Prim.Native.String.{String, [] as no_text, ◌∷◌ as ◌then◌}
use Rattle.std.specs.Prelude.{ℕ, zero, suc, ◌+◌, ◌*◌, ◌/◌, ◌≤◌, Bool, false, List, [], ◌∷◌, ◌++◌, ◌≡◌, length, get_or, replicate, ltb, eqb}
use Rattle.io.specs.Digits.{last_digits}
use Rattle.octets.specs.Answer.{Refusal, Answer, taken, refused, refusal}
use Rattle.octets.specs.Choice.{pick}
use Rattle.octets.specs.Parts.{patch}
use Rattle.octets.specs.Sectors.{sector_size}
use Rattle.on_disk.specs.declared.Layout.{Layout}
use Rattle.model.specs.declared.State.{State}
use Rattle.on_disk.specs.Layout.{run_length}
use Rattle.octets.specs.Lists.{collect}
use Rattle.model.specs.Tag.{tag_of}
use Rattle.model.specs.State.{passed}
use Rattle.model.specs.Format.{format_of}
use Rattle.model.specs.Query.{query_of}
use Rattle.volume_check.specs.Check.{RecoverResult, recover_of, is_bad, count_of}

-- R88: the sectors of the longest image
abbrev pub most_image_sectors : ℕ
most_image_sectors = 128

-- ---- words and numbers

abbrev pub characters_of : String → List ℕ
characters_of no_text = []
characters_of (c then s) = code c ∷ characters_of s

-- how many digits n has, where they are at most most + 1
abbrev pub places : (most : ℕ) → ℕ → ℕ
places zero n = 1
places (suc most) n = pick (ltb n 10) 1 (suc (places most (n / 10)))

unfoldable pub decimal : ℕ → List ℕ
decimal n = last_digits 10 (places 19 n) n

abbrev pub field_of : String → ℕ → List ℕ
field_of w n = characters_of w ++ decimal n

abbrev pub newline : List ℕ
newline = characters_of "\n"

abbrev pub line_of : String → ℕ → List ℕ
line_of w n = field_of w n ++ newline

-- ---- lines

abbrev pub refused_line : Refusal ℕ → List ℕ
refused_line r = line_of "refused " r.number

abbrev pub layout_line : Layout → List ℕ
layout_line g =
    field_of "tag " g.width ++ field_of " run " (run_length g) ++ field_of " sections " g.sections ++ line_of " provided " g.provided

abbrev pub bad_line : ℕ → List ℕ
bad_line s = line_of "bad-sector " s

abbrev pub bad_lines : (ℕ → Bool) → ℕ → List ℕ
bad_lines bad n = collect n (λ s. pick (bad s) (bad_line s) [])

-- whether a byte of a list of flags is 1
abbrev pub flagged : List ℕ → ℕ → Bool
flagged flags s = eqb (get_or flags s 0) 1

abbrev pub checked_text : Layout → ℕ → (ℕ → Bool) → ℕ → List ℕ
checked_text g stores bad count = layout_line g ++ line_of "replay " stores ++ bad_lines bad g.provided ++ line_of "bad " count

abbrev pub check_text : Layout → ℕ → (ℕ → Bool) → List ℕ
check_text g stores bad = checked_text g stores bad (count_of bad g.provided)

-- ---- the report of an image

pub record Report : Type 0 where
  pub text : List ℕ
  pub image : List ℕ

abbrev pub refused_report : List ℕ → Refusal ℕ → Report
refused_report v r = record { text = refused_line r; image = v }

abbrev pub report_by : Layout → Answer ℕ (State × ℕ) → List ℕ → List ℕ → Report
report_by g (taken x) v st = record { text = check_text g x.1 (is_bad x.0 v st); image = v }
report_by g (refused r) v st = refused_report v r

abbrev pub report_from : Layout → RecoverResult → Report
report_from g o = report_by g o.answer o.volume o.staging

-- the length of staging follows from the superblock
abbrev pub report_held : List ℕ → Answer ℕ (Layout × ℕ) → Report
report_held v (taken x) = report_from x.0 (recover_of 0 v (replicate x.1 0))
report_held v (refused r) = refused_report v r

-- R89: a refused opening, or input that is too long
unfoldable pub report_of : List ℕ → Report
report_of v = pick (ltb (most_image_sectors * sector_size) (length v)) (refused_report v (refusal 1 [])) (report_held v (query_of 0 v))

-- of a volume that format left, as an image: no store to come, and no bad sector. The proof is in proofs/Fresh.
abbrev pub FreshReports : Type 0
FreshReports =
    (g : Layout) (v : List ℕ) → (format_of tag_of g v).answer ≡ passed → g.reserved ≡ 0
    → length (format_of tag_of g v).volume ≤ most_image_sectors * sector_size
    → (report_of (format_of tag_of g v).volume).text ≡ check_text g 0 (λ s. false)

-- R90: T 32, N 16, S 1, P 16, to the byte
abbrev pub example : Layout
example = record { reserved = 0; shift = 4; width = 32; sections = 1; provided = 16 }

abbrev pub FreshPrints : Type 0
FreshPrints =
    (v : List ℕ) → (format_of tag_of example v).answer ≡ passed → length (format_of tag_of example v).volume ≤ most_image_sectors * sector_size
    → (report_of (format_of tag_of example v).volume).text ≡ characters_of "tag 32 run 16 sections 1 provided 16\nreplay 0\nbad 0\n"

-- ---- what a call did with the loan that takes the text

-- it put the bytes x at index `at` of the loan t, answered the index behind them, and left the loan t'
pub record Puts (t : List ℕ) (at : ℕ) (x : List ℕ) (behind : ℕ) (t' : List ℕ) : Type 0 where
  pub text : t' ≡ patch t at x
  pub end : behind ≡ at + length x

-- it put the report o at the start of the loan t, answered how long it is, and left the loan t' and the image v'
pub record Reports (o : Report) (t : List ℕ) (n : ℕ) (t' v' : List ℕ) : Type 0 where
  pub text : Puts t 0 o.text n t'
  pub image : v' ≡ o.image
