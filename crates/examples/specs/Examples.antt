-- The numbers of two rules, a table each. R91: the examples that are proved together. R71: the number and values of each answer.
--
-- A row has what the definitions give, and the rule's numbers (`paper`). The claim, one for a table, is that they are the same in every row.
use Rattle.std.specs.Prelude.{ℕ, ◌-◌, ◌*◌, Bool, true, ◌&&◌, List, [], ◌∷◌, ◌++◌, ◌≡◌, refl, ℤ, pos, negsuc, length, replicate, Err}
use Rattle.octets.specs.Answer.{Answer, taken, refused, number_in}
use Rattle.octets.specs.Parts.{same}
use Rattle.on_disk.specs.declared.Layout.{Layout}
use Rattle.model.specs.declared.Phase.TheVariants.{Filling}
use Rattle.model.specs.declared.State.{State}
use Rattle.model.specs.declared.Refusal.{Refusal}
use Rattle.model.specs.declared.Refusal.TheVariants as volume
use Rattle.model.specs.Refusal.{refusal_of}
use Rattle.on_disk.specs.Layout.{width_ok, layout_ok, entry_size, per_sector, entry_count, section_size, tag_area, data_at, tag_start, tag_byte, needed}
use Rattle.on_disk.specs.Section.{empty_section}
use Rattle.model.specs.Journal.{section_for}
use Rattle.model.specs.Store.{home_count, home_store}
use Rattle.model.specs.State.{state_ok, staging_ok}
use Rattle.model.specs.Tag.{tag_of}
use Rattle.model.specs.Format.{format_of}
use Rattle.model.specs.Write.{write_of}
use Rattle.model.specs.Keyed.{write_keyed_of}
use Rattle.digest.specs.Answer as digest-answers
use Rattle.hmac.specs.declared.Refusal.TheVariants as hmac
use Rattle.hmac.specs.Answer as hmac-answers
use Rattle.tree.specs.declared.Refusal.TheVariants as tree
use Rattle.tree.specs.Answer as tree-answers
use Rattle.tree_path.specs.Places.{levels_above, levels_of, hash_blocks_of, digest_at}
use Rattle.tree.specs.Build.{build_of}

-- ---- what the rows are about

-- r 0, T 32, N 16, S 1, with P as given
abbrev bench : ℕ → Layout
bench p = record { reserved = 0; shift = 4; width = 32; sections = 1; provided = p }

-- tags of 32 bytes on runs of 2 ^ n sectors
abbrev tagged : ℕ → Layout
tagged n = record { reserved = 0; shift = n; width = 32; sections = 1; provided = 1 }

abbrev journalled : ℕ → Layout
journalled s = record { reserved = 0; shift = 4; width = 32; sections = s; provided = 16 }

-- tags of 20 bytes on runs of 8 sectors
abbrev short_runs : Layout
short_runs = record { reserved = 0; shift = 3; width = 20; sections = 1; provided = 8 }

-- tags of 30 bytes on runs of 32 sectors, of which 24 are provided
abbrev crossing : Layout
crossing = record { reserved = 0; shift = 5; width = 30; sections = 1; provided = 24 }

-- how many stores bring an entry for logical sector s home there, and where store h of them goes
abbrev stores_for : ℕ → ℕ
stores_for s = home_count crossing (record { sector = s; bytes = []; tag = [] })

abbrev store_at : ℕ → ℕ → ℕ
store_at s h = (home_store crossing [] (record { sector = s; bytes = []; tag = [] }) h).at

-- a refusal's number and values; nothing where the call is taken
abbrev refusal_in : {A : Type 0} → Answer ℕ A → List ℕ
refusal_in (taken x) = []
refusal_in (refused r) = r.number ∷ r.values

abbrev opened : State
opened = record { layout = bench 16; phase = Filling; count = 0; id = 1 }

-- how a format with tags of t bytes is refused
abbrev refused_width : ℕ → List ℕ
refused_width t = refusal_in (format_of tag_of (record { reserved = 0; shift = 4; width = t; sections = 1; provided = 16 }) (replicate (128 * 512) 0)).answer

-- how a write with a key of n bytes is refused
abbrev keyed : ℕ → List ℕ
keyed n = refusal_in (write_keyed_of (replicate n 75) opened (empty_section 32) 5 (replicate 512 0)).answer

-- the hash blocks of the tree over n data blocks
abbrev hash_blocks : ℕ → ℕ
hash_blocks n = hash_blocks_of (levels_of n) n

-- ---- the examples, R91

pub record Row : Type 0 where
  pub given : List ℕ
  pub paper : List ℕ

abbrev table : List Row
table =
    -- T 8: the bytes of an entry, the entries of a metadata sector (R27, R28), E and M (R26)
    record { given = entry_size 8 ∷ per_sector 8 ∷ entry_count 8 ∷ section_size 8 ∷ []; paper = 24 ∷ 20 ∷ 160 ∷ 168 ∷ [] } ∷
    -- T 16, likewise
    record { given = entry_size 16 ∷ per_sector 16 ∷ entry_count 16 ∷ section_size 16 ∷ []; paper = 32 ∷ 15 ∷ 120 ∷ 128 ∷ [] } ∷
    -- T 32, likewise
    record { given = entry_size 32 ∷ per_sector 32 ∷ entry_count 32 ∷ section_size 32 ∷ []; paper = 48 ∷ 10 ∷ 80 ∷ 88 ∷ [] } ∷
    -- T 20 (R115), likewise
    record { given = entry_size 20 ∷ per_sector 20 ∷ entry_count 20 ∷ section_size 20 ∷ []; paper = 40 ∷ 12 ∷ 96 ∷ 104 ∷ [] } ∷
    -- T from 1 to 8: the bytes of an entry at either end of the range
    record { given = entry_size 1 ∷ entry_size 8 ∷ []; paper = 24 ∷ 24 ∷ [] } ∷
    -- T from 9 to 16, likewise
    record { given = entry_size 9 ∷ entry_size 16 ∷ []; paper = 32 ∷ 32 ∷ [] } ∷
    -- T from 17 to 24, likewise
    record { given = entry_size 17 ∷ entry_size 24 ∷ []; paper = 40 ∷ 40 ∷ [] } ∷
    -- T from 25 to 32, likewise
    record { given = entry_size 25 ∷ entry_size 32 ∷ []; paper = 48 ∷ 48 ∷ [] } ∷
    -- how T 0 and T 33 are refused
    record { given = refused_width 0 ++ refused_width 33; paper = 2 ∷ 2 ∷ [] } ∷
    -- T 20, N 8, P 8, and T 30, N 32, P 24: the sectors needed, which the bench program takes
    record { given = needed short_runs ∷ needed crossing ∷ []; paper = 128 ∷ 128 ∷ [] } ∷
    -- T 30, N 32, P 24: the byte of the tag area at which the tag of sector 17 starts, so that it goes on in the next sector; where its three stores go, the
    -- lower sector of the tag before the upper (R116); how many stores sectors 16, 17 and 18 have, and 49, which is not below P and has 49 mod N = 17 (R117)
    record {
      given =
          tag_start crossing 17 ∷ store_at 17 0 ∷ store_at 17 1 ∷ store_at 17 2 ∷ stores_for 16 ∷ stores_for 17 ∷ stores_for 18 ∷ stores_for 49 ∷ [];
      paper = 510 ∷ 121 ∷ 96 ∷ 97 ∷ 2 ∷ 3 ∷ 2 ∷ 3 ∷ [];
    } ∷
    -- T 32: A, R19, for N 128 and N 256
    record { given = tag_area (tagged 7) ∷ tag_area (tagged 8) ∷ []; paper = 8 ∷ 16 ∷ [] } ∷
    -- P 16: the sectors needed, and how a volume of one less is refused
    record {
      given = needed (bench 16) ∷ refusal_in (format_of tag_of (bench 16) (replicate (119 * 512) 0)).answer;
      paper = 120 ∷ 5 ∷ 120 ∷ [];
    } ∷
    -- P 16: where logical sector 5 lies (R22) and its tag (R23), and how sector 16 is refused
    record {
      given = data_at (bench 16) 5 ∷ tag_byte (bench 16) 5 ∷ refusal_in (write_of tag_of opened (empty_section 32) 16 (replicate 512 0)).answer;
      paper = 109 ∷ 49312 ∷ 6 ∷ [];
    } ∷
    -- a write to sector 5 with keys of 0, 1, 256 and 257 bytes, R106
    record {
      given = keyed 0 ++ (keyed 1 ++ (keyed 256 ++ keyed 257));
      paper = 2 ∷ 2 ∷ [];
    } ∷
    -- P 20: the sectors needed, and where logical sector 17 lies, and its tag: in the second run
    record { given = needed (bench 20) ∷ data_at (bench 20) 17 ∷ tag_byte (bench 20) 17 ∷ []; paper = 132 ∷ 129 ∷ 61472 ∷ [] } ∷
    -- S 3: the sections of the ids 1, 3 and 4, R31
    record { given = section_for (journalled 3) 1 ∷ section_for (journalled 3) 3 ∷ section_for (journalled 3) 4 ∷ []; paper = 0 ∷ 2 ∷ 0 ∷ [] } ∷
    -- the hash blocks above 1 data block (R110), 128, 129 and 16,384 (R80), and how 0 and 16,385 are refused (R83)
    record {
      given =
          hash_blocks 1 ∷ hash_blocks 128 ∷ hash_blocks 129 ∷ hash_blocks 16384 ∷ number_in (build_of 0 [] [] []).answer ∷ number_in (build_of 16385 [] [] []).answer ∷ [];
      paper = 0 ∷ 1 ∷ 3 ∷ 129 ∷ 2 ∷ 2 ∷ [];
    } ∷
    -- 129 data blocks: the byte of the tree at which the digest of block 128 stands, R81
    record { given = digest_at (levels_of 129 - 1) 129 128 ∷ []; paper = 8192 ∷ [] } ∷
    []

abbrev pub row_count : ℕ
row_count = length table

-- every row's two sides are the same
abbrev pub all_same : List Row → Bool
all_same [] = true
all_same (row ∷ rows) = same row.given row.paper && all_same rows

-- THE CLAIM
pub starred-examples : all_same table ≡ true
unfolding layout_ok width_ok home_count format_of write_of write_keyed_of state_ok staging_ok empty_section levels_above levels_of hash_blocks_of build_of
starred-examples = refl

-- ---- the refusals, R71

-- number and values of an answer, one behind the other, as integers; the number alone where nothing is also returned
abbrev told : {A : Type 0} → Answer ℤ A → List ℤ
told (taken x) = pos 0 ∷ []
told (refused r) = pos r.number ∷ r.values

-- the same where the values are natural numbers
abbrev integers : List ℕ → List ℤ
integers [] = []
integers (n ∷ ns) = pos n ∷ integers ns

abbrev told_plain : {A : Type 0} → Answer ℕ A → List ℤ
told_plain (taken x) = pos 0 ∷ []
told_plain (refused r) = pos r.number ∷ integers r.values

-- the answer of a volume's call that is refused so
abbrev volume_answer : Refusal → Answer ℕ (Unit {0})
volume_answer r = refused (refusal_of r)

pub record Told : Type 0 where
  pub given : List ℤ
  pub paper : List ℤ

abbrev refusals : List Told
refusals =
    -- digest. 1: its limit is passed
    record { given = told_plain (digest-answers.answer_of (record {})); paper = pos 1 ∷ [] } ∷
    -- HMAC. 1 and 2: the digest's limit, the length of a key (R106)
    record { given = told_plain (hmac-answers.answer_of hmac.TooLong); paper = pos 1 ∷ [] } ∷
    record { given = told_plain (hmac-answers.answer_of hmac.KeyLength); paper = pos 2 ∷ [] } ∷
    -- volume, the table's rows in order.
    -- 1: the length of a loan, or the state
    record { given = told_plain (volume_answer volume.Malformed); paper = pos 1 ∷ [] } ∷
    -- 2: a parameter
    record { given = told_plain (volume_answer volume.Parameter); paper = pos 2 ∷ [] } ∷
    -- 3: a superblock that is not zero at format, or is at open
    record { given = told_plain (volume_answer volume.Superblock); paper = pos 3 ∷ [] } ∷
    -- 4: a superblock that is not valid
    record { given = told_plain (volume_answer volume.Invalid); paper = pos 4 ∷ [] } ∷
    -- 5: a volume that is too short, with the sectors needed
    record { given = told_plain (volume_answer (volume.Short 120)); paper = pos 5 ∷ pos 120 ∷ [] } ∷
    -- 6: a logical sector that is not below P: an argument; a staged entry, with its place; one of the journal, with section and place
    record { given = told_plain (volume_answer volume.Range); paper = pos 6 ∷ [] } ∷
    record { given = told_plain (volume_answer (volume.StagedRange 7)); paper = pos 6 ∷ pos 7 ∷ [] } ∷
    record { given = told_plain (volume_answer (volume.JournalRange 2 7)); paper = pos 6 ∷ pos 2 ∷ pos 7 ∷ [] } ∷
    -- 7: a tag that does not fit, with the sector; in the journal, with section and place
    record { given = told_plain (volume_answer (volume.TagMismatch 5)); paper = pos 7 ∷ pos 5 ∷ [] } ∷
    record { given = told_plain (volume_answer (volume.JournalTagMismatch 2 7)); paper = pos 7 ∷ pos 2 ∷ pos 7 ∷ [] } ∷
    -- 8: a full batch
    record { given = told_plain (volume_answer volume.Full); paper = pos 8 ∷ [] } ∷
    -- 9: a phase that forbids the call
    record { given = told_plain (volume_answer volume.NotNow); paper = pos 9 ∷ [] } ∷
    -- 10: no commit id left
    record { given = told_plain (volume_answer volume.Exhausted); paper = pos 10 ∷ [] } ∷
    -- 11: a whole section that is not where its id belongs, with the section
    record { given = told_plain (volume_answer (volume.Misplaced 2)); paper = pos 11 ∷ pos 2 ∷ [] } ∷
    -- tree. 1: the length of a loan
    record { given = told (tree-answers.answer_of (Err tree.WrongLength)); paper = pos 1 ∷ [] } ∷
    -- tree. 2: a parameter
    record { given = told (tree-answers.answer_of (Err tree.OutOfRange)); paper = pos 2 ∷ [] } ∷
    -- tree. 12: a block that does not verify, with the highest failing level; the data block is level −1 (R84)
    record { given = told (tree-answers.answer_of (Err tree.DataDiffers)); paper = pos 12 ∷ negsuc 0 ∷ [] } ∷
    record { given = told (tree-answers.answer_of (Err (tree.LevelDiffers 1))); paper = pos 12 ∷ pos 1 ∷ [] } ∷
    []

abbrev pub refusal_count : ℕ
refusal_count = length refusals

abbrev given_in : List Told → List (List ℤ)
given_in [] = []
given_in (row ∷ rows) = row.given ∷ given_in rows

abbrev paper_in : List Told → List (List ℤ)
paper_in [] = []
paper_in (row ∷ rows) = row.paper ∷ paper_in rows

-- THE CLAIM
pub refusal-numbers : given_in refusals ≡ paper_in refusals
refusal-numbers = refl
