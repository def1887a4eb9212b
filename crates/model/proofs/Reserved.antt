-- Reserved sectors are never read: what a call finds of a volume lies from sector r on.
use Prim.Native.Nat.{ℕ, zero, suc, ◌+◌, ◌-◌, ◌*◌, ◌%◌, ◌≤◌}
use mathlib.Core.Bool.{Bool, not, ◌&&◌}
use mathlib.Core.List.{List, ◌∷◌, [], ◌++◌}
use mathlib.Core.Path.{◌≡◌, refl, sym, ap, ◌∙◌}
use native.Mathlib.Omega.{arith}
use lib.Dec.{leb, eqb}
use lib.ListN.{length, take, drop}
use lib.Seq.{drop-drop}
use Rattle.octets.specs.Answer.{taken, refused, refuse}
use Rattle.octets.specs.Choice.{first_met}
use Rattle.octets.specs.Parts.{part, patch}
use Rattle.octets.specs.Sectors.{sector_at}
use Rattle.on_disk.specs.declared.Layout.{Layout}
use Rattle.model.specs.declared.Phase.{Phase}
use Rattle.model.specs.declared.Phase.TheVariants.{Filling, Committing, WritingBack, Recovering}
use Rattle.model.specs.declared.State.{State}
use Rattle.on_disk.specs.Layout.{most_sectors, section_size, section_at, base, data_at, tag_byte, tag_sector, tag_offset, first_piece}
use Rattle.on_disk.specs.Superblock.{superblock_at, layout_in}
use Rattle.on_disk.specs.Section.{Entry}
use Rattle.octets.specs.Lists.{all_below, first_below}
use Rattle.model.specs.Journal.{whole_id, section_of, greatest_id, section_for, whole_ids, replay}
use Rattle.model.specs.Tag.{Tags, tag_at}
use Rattle.model.specs.Store.{home_store, store_of, RecoveryStep, storing, recovery_step_at}
use Rattle.model.specs.State.{Verdict, passed, volume_loan_ok, replay_ok, volume_ok, staging_ok, sector_ok, last_id}
use Rattle.model.specs.Format.{format_rows, format_by, format_of}
use Rattle.model.specs.Open.{misplaced, open_rows, superblock_rows, entries_verdict, open_by, open_with, open_of}
use Rattle.model.specs.Query.{query_with, query_of}
use Rattle.model.specs.Step.{range_rows, step_rows, phase_step, step_by, step_of}
use Rattle.model.specs.JournalStep.{commit_step, home_step, recover_at}
use Rattle.model.specs.Read.{read_rows, read_by, read_of}
use Rattle.model.specs.NextStore.{next_store_of}
use Rattle.model.specs.Reserved.{AgreeFrom, ReservedUnread}
use Rattle.model.proofs.Journals.{front, top_kept, replay-kept}

module _ (r : ℕ) (v w : List ℕ) (agree : AgreeFrom r v w) where
  -- ---- what is read

  long : length v ≡ length w
  long = agree.0

  part_same : (a n : ℕ) → r * 512 ≤ a → part v a n ≡ part w a n
  part_same a n l =
      let split : r * 512 + (a - r * 512) ≡ a = omega arith in
      ap (λ (k : ℕ). take n (drop k v)) (sym split) ∙ ap (take n) (sym (drop-drop (a - r * 512) (r * 512) v))
      ∙ ap (λ (x : List ℕ). take n (drop (a - r * 512) x)) agree.1
      ∙ ap (take n) (drop-drop (a - r * 512) (r * 512) w) ∙ ap (λ (k : ℕ). take n (drop k w)) split

  superblock-same : superblock_at r v ≡ superblock_at r w
  superblock-same = part_same (r * 512) 4096 (omega arith)

  loan-same : volume_loan_ok v ≡ volume_loan_ok w
  loan-same = ap (λ (n : ℕ). eqb (n % 512) 0 && leb n (most_sectors * 512)) long

  -- ---- by a layout with r reserved sectors

  module _ (g : Layout) (from : g.reserved ≡ r) where
    section-same : (k : ℕ) → section_of g v k ≡ section_of g w k
    section-same k = part_same (section_at g k * 512) (section_size g.width * 512) (omega (arith, from))

    front_same : front g v ≡ front g w
    front_same = part_same (g.reserved * 512) ((base g - g.reserved) * 512) (omega (arith, from))

    ids-same : (k : ℕ) → whole_ids g v k ≡ whole_ids g w k
    ids-same k = ap (whole_id g.width) (section-same k)

    top-same : greatest_id g v ≡ greatest_id g w
    top-same = top_kept g v w front_same

    replay-same : replay g v ≡ replay g w
    replay-same = replay-kept g v w front_same

    misplaced-same : misplaced g v ≡ misplaced g w
    misplaced-same = λ i k. not (eqb (ids-same k i) 0) && not (eqb (section_for g (ids-same k i)) k)

    data-same : (s : ℕ) → sector_at v (data_at g s) ≡ sector_at w (data_at g s)
    data-same s = part_same (data_at g s * 512) 512 (omega (arith, from))

    tag_same : (s : ℕ) → tag_at g v s ≡ tag_at g w s
    tag_same s = part_same (tag_byte g s) g.width (omega (arith, from))

    home_same : (e : Entry) (h : ℕ) → home_store g v e h ≡ home_store g w e h
    home_same e zero = refl
    home_same e (suc zero) =
        ap (λ (x : List ℕ). record { at = tag_sector g e.sector; content = patch x (tag_offset g e.sector) (take (first_piece g e.sector) e.tag) })
        (part_same (tag_sector g e.sector * 512) 512 (omega (arith, from)))
    home_same e (suc (suc h)) =
        ap (λ (x : List ℕ). record { at = tag_sector g e.sector + 1; content = patch x 0 (drop (first_piece g e.sector) e.tag) })
        (part_same ((tag_sector g e.sector + 1) * 512) 512 (omega (arith, from)))

  -- ---- the calls

  format-same : (tags : Tags) (g : Layout) → g.reserved ≡ r → (format_of tags g v).answer ≡ (format_of tags g w).answer
  unfolding format_of
  format-same tags g from = rows (first_met (format_rows g v) passed) (first_met (format_rows g w) passed) verdict
    where
      verdict : first_met (format_rows g v) passed ≡ first_met (format_rows g w) passed
      verdict = rw (loan-same, long, from, superblock-same)

      rows : (x y : Verdict) → x ≡ y → (format_by (tags g.width) g v x).answer ≡ (format_by (tags g.width) g w y).answer
      rows (taken a) (taken b) e = refl
      rows (taken a) (refused b) e = e
      rows (refused a) (taken b) e = e
      rows (refused a) (refused b) e = e

  query-with : (g : Layout) → query_with g r v ≡ query_with g r w
  unfolding query_with
  query-with g = rw (loan-same, long, superblock-same)

  query-same : query_of r v ≡ query_of r w
  query-same = query-with (layout_in r (superblock_at r v)) ∙ ap (λ (b : List ℕ). query_with (layout_in r b) r w) superblock-same

  open-with : (tags : Tags) (g : Layout) (st : List ℕ) → g.reserved ≡ r → open_with tags g r v st ≡ open_with tags g r w st
  unfolding open_with
  open-with tags g st from =
      ap (λ (x : Verdict). open_by g v st x) verdict ∙ by-same (first_met (open_rows g r w st) (entries_verdict (tags g.width) g (replay g w)))
    where
      rows : open_rows g r v st ≡ open_rows g r w st
      rows =
          rw (loan-same, long, superblock-same, top-same g from)
          (ap (λ (f : ℕ → Bool). superblock_rows g r w
          ++ ((not (staging_ok g st), refuse 1 [])
          ∷ (eqb (greatest_id g w) last_id, refuse 10 [])
          ∷ (not (all_below g.sections (λ k. not (f k))), refuse 11 (first_below g.sections f ∷ []))
          ∷ [])) (misplaced-same g from))

      verdict : first_met (open_rows g r v st) (entries_verdict (tags g.width) g (replay g v)) ≡ first_met (open_rows g r w st) (entries_verdict (tags g.width) g (replay g w))
      verdict = λ i. first_met (rows i) (entries_verdict (tags g.width) g (replay-same g from i))

      by-same : (x : Verdict) → open_by g v st x ≡ open_by g w st x
      by-same (taken a) = rw (replay-same g from, top-same g from)
      by-same (refused a) = refl

  open-same : (tags : Tags) (st : List ℕ) → open_of tags r v st ≡ open_of tags r w st
  open-same tags st =
      open-with tags (layout_in r (superblock_at r v)) st refl ∙ ap (λ (b : List ℕ). open_with tags (layout_in r b) r w st) superblock-same

  module _ (s : State) (st : List ℕ) (from : s.layout.reserved ≡ r) where
    abbrev h : Layout
    h = s.layout

    place_same : (p : Phase) → replay_ok h v p ≡ replay_ok h w p
    place_same Filling = refl
    place_same (Committing j) = refl
    place_same (WritingBack i k) = refl
    place_same (Recovering k) = rw (replay-same h from)

    volume-same : volume_ok s v ≡ volume_ok s w
    unfolding volume_ok
    volume-same = rw (loan-same, long, place_same s.phase)

    range_same : (p : Phase) → range_rows s v st p ≡ range_rows s w st p
    range_same Filling = refl
    range_same (Committing j) = refl
    range_same (WritingBack i k) = refl
    range_same (Recovering k) = rw (replay-same h from)

    home-step : (e : Entry) (k : ℕ) (last : Bool) (p : Phase) (left : List ℕ) → home_step s v st e k last p left ≡ home_step s w st e k last p left
    unfolding home_step
    home-step e k last p left = rw (home_same h from e k)

    recover-same : (k : ℕ) (x : RecoveryStep) → recover_at s v st k x ≡ recover_at s w st k x
    recover-same k (storing (store_of x i)) = rw (replay-same h from) (home-step x.entry i _ _ st)

    phase-same : (p : Phase) → phase_step s v st p ≡ phase_step s w st p
    unfolding commit_step
    phase-same Filling = refl
    phase-same (Committing j) = refl
    phase-same (WritingBack i k) = home-step _ k _ _ _
    phase-same (Recovering k) = recover-same k (recovery_step_at h v k) ∙ rw (replay-same h from)

    by-same : (x : Verdict) → step_by s v st x ≡ step_by s w st x
    by-same (taken a) = phase-same s.phase
    by-same (refused a) = refl

    rows_same : step_rows s v st ≡ step_rows s w st
    rows_same = rw (volume-same, range_same s.phase)

    step_same : step_of s v st ≡ step_of s w st
    unfolding step_of
    step_same = by-same (first_met (step_rows s v st) passed) ∙ ap (λ rows. step_by s w st (first_met rows passed)) rows_same

    next-same : (out : List ℕ) → next_store_of s v st out ≡ next_store_of s w st out
    unfolding next_store_of
    next-same out =
        by-same (first_met ((not (sector_ok out), refuse 1 []) ∷ step_rows s v st) passed)
        ∙ ap (λ rows. step_by s w st (first_met ((not (sector_ok out), refuse 1 []) ∷ rows) passed)) rows_same

    read_same : (tags : Tags) (n : ℕ) (loan : List ℕ) → read_of tags s v st n loan ≡ read_of tags s w st n loan
    unfolding read_of
    read_same tags n loan = read-by (first_met (read_rows tags s v st n loan) passed) ∙ ap (λ rows. read_by tags s w st n loan (first_met rows passed)) read-rows
      where
        read-by : (x : Verdict) → read_by tags s v st n loan x ≡ read_by tags s w st n loan x
        read-by (taken a) = rw (data-same h from n)
        read-by (refused a) = refl

        read-rows : read_rows tags s v st n loan ≡ read_rows tags s w st n loan
        read-rows = rw (volume-same, tag_same h from n, data-same h from n)

pub reserved-unread : ReservedUnread
reserved-unread tags r v w agree =
    record {
      format = format-same r v w agree tags;
      query = query-same r v w agree;
      opens = open-same r v w agree tags;
      step = step_same r v w agree;
      next = λ s st out from. next-same r v w agree s st from out;
      read = λ s st n loan from. read_same r v w agree s st from tags n loan;
    }
