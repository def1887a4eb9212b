-- What a wrong key shows: specs/WrongKey.
use Prim.Native.Nat.{ℕ, ◌+◌, ◌-◌, ◌*◌}
use mathlib.Core.Bool.{Bool, true, false, not, ◌&&◌}
use mathlib.Core.List.{List, [], ◌∷◌, ◌++◌}
use mathlib.Core.Logic.{◌⊎◌, inl, inr}
use mathlib.Core.Path.{◌≡◌, refl, sym, ap, ◌∙◌}
use lib.Dec.{leb, ltb}
use lib.ListN.{take, drop}
use Rattle.octets.specs.Answer.{taken, refused, refuse, is_taken, number_in}
use Rattle.octets.specs.Choice.{pick, first_met}
use Rattle.octets.specs.Lists.{collect}
use Rattle.octets.specs.Parts.{same}
use Rattle.octets.specs.Sectors.{sector_size, sector_at}
use Rattle.on_disk.specs.declared.Layout.{Layout}
use Rattle.on_disk.specs.Layout.{section_size, run_length, tag_area, data_at, needed}
use Rattle.on_disk.specs.Superblock.{superblock_of, superblock_at, layout_in}
use Rattle.on_disk.specs.Section.{put_entry}
use Rattle.model.specs.declared.State.{State}
use Rattle.model.specs.Journal.{Replayed, replay}
use Rattle.model.specs.Tag.{Tag, Tags, tag_at}
use Rattle.model.specs.State.{Verdict, passed, state_ok, volume_ok, staged_ok, sector_ok, is_recovering}
use Rattle.model.specs.Format.{zeros, fresh_run, last_run, last_length, fresh_volume, format_rows, format_by, format_of}
use Rattle.model.specs.Open.{open_rows, entries_verdict, open_by, open_with, open_of}
use Rattle.model.specs.Write.{write_rows, new_entry, write_by, write_of}
use Rattle.model.specs.Read.{staged_for, read_rows, read_by, read_of}
use Rattle.model.specs.WrongKey.{TagsAgree, WrongKey}
use Rattle.model.proofs.Steps.{never}

-- ---- where the tags agree

entries-same : (a b : Tag) (g : Layout) (xs : List Replayed) → TagsAgree a b xs → entries_verdict b g xs ≡ entries_verdict a g xs
entries-same a b g [] e = refl
entries-same a b g (x ∷ xs) e =
    λ i. pick (leb g.provided x.entry.sector) (refuse 6 (x.section ∷ x.index ∷ []))
    (pick (not (same x.entry.tag (sym e.0 i))) (refuse 7 (x.section ∷ x.index ∷ [])) (entries-same a b g xs e.1 i))

-- ---- what shows

-- of a verdict by the volume's tags and one by others: where the first passes, the second is the same or 7
abbrev Shows : Verdict → Verdict → Type 0
Shows z y = is_taken z ≡ true → (y ≡ z) ⊎ (number_in y ≡ 7)

entry-shows : (far unfit unfit' : Bool) (six : Verdict) (vs : List ℕ) (z y : Verdict) → is_taken six ≡ false → Shows z y
    → Shows (pick far six (pick unfit (refuse 7 vs) z)) (pick far six (pick unfit' (refuse 7 vs) y))
entry-shows true u w six vs z y f e t = never (sym f ∙ t)
entry-shows false true w six vs z y f e t = never t
entry-shows false false true six vs z y f e t = inr refl
entry-shows false false false six vs z y f e t = e t

entries-show : (a b : Tag) (g : Layout) (xs : List Replayed) → Shows (entries_verdict a g xs) (entries_verdict b g xs)
entries-show a b g [] t = inl refl
entries-show a b g (x ∷ xs) t =
    entry-shows (leb g.provided x.entry.sector) (not (same x.entry.tag (a x.entry.sector x.entry.bytes)))
    (not (same x.entry.tag (b x.entry.sector x.entry.bytes))) (refuse 6 (x.section ∷ x.index ∷ [])) (x.section ∷ x.index ∷ [])
    (entries_verdict a g xs) (entries_verdict b g xs) refl (entries-show a b g xs) t

row_shows : (met : Bool) (x z y : Verdict) → Shows z y → Shows (pick met x z) (pick met x y)
row_shows true x z y e t = inl refl
row_shows false x z y e t = e t

rows-show : (rows : List (Bool × Verdict)) (z y : Verdict) → Shows z y → Shows (first_met rows z) (first_met rows y)
rows-show [] z y e = e
rows-show (row ∷ rows) z y e = row_shows row.0 row.1 (first_met rows z) (first_met rows y) (rows-show rows z y e)

-- ---- the calls

module _ (tags tags' : Tags) where
  formats : (g : Layout) (v : List ℕ) → ((s : ℕ) → tags g.width s (zeros sector_size) ≡ tags' g.width s (zeros sector_size))
      → format_of tags' g v ≡ format_of tags g v
  unfolding format_of fresh_volume
  formats g v e = go (first_met (format_rows g v) passed)
    where
      run : (q n : ℕ) → fresh_run (tags' g.width) g q n ≡ fresh_run (tags g.width) g q n
      run q n = λ i. collect n (λ k. sym (e (q * run_length g + k)) i) ++ (zeros (tag_area g * sector_size - n * g.width) ++ zeros (n * sector_size))

      volume : fresh_volume (tags' g.width) g v ≡ fresh_volume (tags g.width) g v
      volume =
          λ i. take (g.reserved * sector_size) v
          ++ (superblock_of g
          ++ (zeros (g.sections * section_size g.width * sector_size)
          ++ (collect (last_run g) (λ q. run q (run_length g) i) ++ (run (last_run g) (last_length g) i ++ drop (needed g * sector_size) v))))

      go : (z : Verdict) → format_by (tags' g.width) g v z ≡ format_by (tags g.width) g v z
      go (taken t) = ap (λ (w : List ℕ). record { answer = taken t; volume = w }) volume
      go (refused r) = refl

  opens : (r : ℕ) (v st : List ℕ) (g : Layout) → layout_in r (superblock_at r v) ≡ g
      → TagsAgree (tags g.width) (tags' g.width) (replay g v) → open_of tags' r v st ≡ open_of tags r v st
  unfolding open_with
  opens r v st g l e =
      ap (λ (h : Layout). open_with tags' h r v st) l
      ∙ ap (λ (z : Verdict). open_by g v st (first_met (open_rows g r v st) z)) (entries-same (tags g.width) (tags' g.width) g (replay g v) e)
      ∙ ap (λ (h : Layout). open_with tags h r v st) (sym l)

  writes : (s : State) (st : List ℕ) (n : ℕ) (bytes : List ℕ) → tags s.layout.width n bytes ≡ tags' s.layout.width n bytes
      → write_of tags' s st n bytes ≡ write_of tags s st n bytes
  unfolding write_of
  writes s st n bytes e = go (first_met (write_rows s st n bytes) passed)
    where
      staged : put_entry s.layout.width st s.count (new_entry tags' s st n bytes) ≡ put_entry s.layout.width st s.count (new_entry tags s st n bytes)
      staged = λ i. put_entry s.layout.width st s.count (record { sector = n; bytes = bytes; tag = sym e i })

      go : (z : Verdict) → write_by tags' s st n bytes z ≡ write_by tags s st n bytes z
      go (taken x) =
          ap
          (λ (l : List ℕ). record {
            answer = taken x;
            state = record { layout = s.layout; phase = s.phase; count = s.count + 1; id = s.id };
            staging = l;
          }) staged
      go (refused r) = refl

  reads : (s : State) (v st : List ℕ) (n : ℕ) (loan : List ℕ)
      → tags s.layout.width n (sector_at v (data_at s.layout n)) ≡ tags' s.layout.width n (sector_at v (data_at s.layout n))
      → read_of tags' s v st n loan ≡ read_of tags s v st n loan
  unfolding read_of
  reads s v st n loan e =
      λ i. read_by tags s v st n loan
      (pick (not (state_ok s && (volume_ok s v && (staged_ok s st && sector_ok loan)))) (refuse 1 [])
      (pick (is_recovering s.phase) (refuse 9 [])
      (pick (leb s.layout.provided n) (refuse 6 [])
      (pick (not (ltb (staged_for s st n) s.count) && not (same (tag_at s.layout v n) (sym e i))) (refuse 7 (n ∷ [])) passed))))

  -- a verdict of open and of read, carried over to the call

  open-shows : (g : Layout) (v st : List ℕ) (z y : Verdict) → Shows z y → is_taken (open_by g v st z).answer ≡ true
      → (open_by g v st y ≡ open_by g v st z) ⊎ ((number_in (open_by g v st y).answer ≡ 7) × ((open_by g v st y).staging ≡ st))
  open-shows g v st (taken x) (taken y) e t = inl refl
  open-shows g v st (taken x) (refused r) e t = side (e refl)
    where
      side : (◌≡◌ {A = Verdict} (refused r) (taken x)) ⊎ (r.number ≡ 7)
          → (open_by g v st (refused r) ≡ open_by g v st (taken x)) ⊎ ((r.number ≡ 7) × (◌≡◌ {A = List ℕ} st st))
      side (inl same) = inl (ap (open_by g v st) same)
      side (inr seven) = inr (seven, refl)
  open-shows g v st (refused r) y e t = never t

  read-shows : (s : State) (v st : List ℕ) (n : ℕ) (loan : List ℕ) (z y : Verdict) → Shows z y → is_taken (read_by tags s v st n loan z).answer ≡ true
      → (read_by tags' s v st n loan y ≡ read_by tags s v st n loan z)
      ⊎ ((number_in (read_by tags' s v st n loan y).answer ≡ 7) × ((read_by tags' s v st n loan y).sector ≡ loan))
  read-shows s v st n loan (taken x) (taken y) e t = inl refl
  read-shows s v st n loan (taken x) (refused r) e t = side (e refl)
    where
      side : (◌≡◌ {A = Verdict} (refused r) (taken x)) ⊎ (r.number ≡ 7)
          → (read_by tags' s v st n loan (refused r) ≡ read_by tags s v st n loan (taken x)) ⊎ ((r.number ≡ 7) × (◌≡◌ {A = List ℕ} loan loan))
      side (inl same) = inl (ap (read_by tags s v st n loan) same)
      side (inr seven) = inr (seven, refl)
  read-shows s v st n loan (refused r) y e t = never t

  read-rows-show : (s : State) (v st : List ℕ) (n : ℕ) (loan : List ℕ)
      → Shows (first_met (read_rows tags s v st n loan) passed) (first_met (read_rows tags' s v st n loan) passed)
  read-rows-show s v st n loan =
      rows-show
      ((not (state_ok s && (volume_ok s v && (staged_ok s st && sector_ok loan))), refuse 1 []) ∷ (is_recovering s.phase, refuse 9 []) ∷ [])
      _ _
      (entry-shows (leb s.layout.provided n)
      (not (ltb (staged_for s st n) s.count) && not (same (tag_at s.layout v n) (tags s.layout.width n (sector_at v (data_at s.layout n)))))
      (not (ltb (staged_for s st n) s.count) && not (same (tag_at s.layout v n) (tags' s.layout.width n (sector_at v (data_at s.layout n)))))
      (refuse 6 []) (n ∷ []) passed passed refl (λ t. inl refl))

  pub wrong-key : WrongKey tags tags'
  unfolding format_of open_with write_of read_of
  wrong-key =
      record {
        format = formats;
        opening = opens;
        write = writes;
        read = reads;
        open_shows = λ r v st.
            let g : Layout = layout_in r (superblock_at r v) in
            open-shows g v st _ _ (rows-show (open_rows g r v st) _ _ (entries-show (tags g.width) (tags' g.width) g (replay g v)));
        read_shows = λ s v st n loan. read-shows s v st n loan _ _ (read-rows-show s v st n loan);
        format_answers = λ g v. format-answers g v (first_met (format_rows g v) passed);
        write_answers = λ s st n bytes. write-answers s st n bytes (first_met (write_rows s st n bytes) passed);
      }
    where
      format-answers : (g : Layout) (v : List ℕ) (z : Verdict) → (format_by (tags' g.width) g v z).answer ≡ (format_by (tags g.width) g v z).answer
      format-answers g v (taken x) = refl
      format-answers g v (refused r) = refl

      write-answers : (s : State) (st : List ℕ) (n : ℕ) (bytes : List ℕ) (z : Verdict) → (write_by tags' s st n bytes z).answer ≡ (write_by tags s st n bytes z).answer
      write-answers s st n bytes (taken x) = refl
      write-answers s st n bytes (refused r) = refl
