-- What each kind of store leaves: homes, the journal, and what lies before it.
use Prim.Native.Nat.{ℕ, zero, suc, ◌+◌, ◌-◌, ◌*◌, ◌≤◌, ◌<◌}
use mathlib.Core.Bool.{true, false}
use mathlib.Core.Path.{◌≡◌, refl, sym, ap, ◌∙◌}
use mathlib.Core.Logic.{◌≢◌, inl, inr, ⊎_elim}
use mathlib.Core.List.{List, [], ◌++◌}
use native.Mathlib.Omega.{arith}
use lib.ListN.{length, take, drop, get_or, length-take, length-drop, take-append-drop}
use lib.Seq.{take_all}
use Rattle.model.specs.Guarantees.{Outside}
use Rattle.octets.specs.Parts.{part, patch}
use Rattle.octets.specs.Sectors.{sector_at, put_sector}
use Rattle.octets.proofs.Parts.{part-add, length-patch, part-patch-same, part-patch-before, part-patch-after, get_or-patch-other}
use Rattle.octets.proofs.Sectors.{put-inside, sector-part, sector-put-same, sector-put-other}
use Rattle.on_disk.specs.Geometry.{Apart, before, behind}
use Rattle.on_disk.specs.Layout.{section_size, section_at, base, data_at, tag_sector, tag_offset, tag_byte, crosses, first_piece, needed}
use Rattle.on_disk.specs.Section.{Entry}
use Rattle.model.specs.Journal.{section_of}
use Rattle.model.specs.Tag.{Tag, tag_at}
use Rattle.model.specs.Store.{home_count, home_store, made}
use Rattle.model.proofs.Plans.{home-in-two, home_some, home-crosses}
use Rattle.model.proofs.Journals.{front}
use Rattle.model.proofs.Replays.{Holds, Frame}
use Rattle.on_disk.proofs.Addresses.{part_apart, Ranged, data-tag, data-data, tag-tag, tag-sector, tag-offset, not-crossing, crossing, data-high, tag-high, data-room, tag-room, tag-end, next-room, section-apart, section-low, base-room}
use Rattle.on_disk.specs.declared.Layout.{Layout}

-- sector s is at home with bytes d
abbrev pub Home : Layout → Tag → List ℕ → Holds
Home g tag v s d = (sector_at v (data_at g s) ≡ d) × (tag_at g v s ≡ tag s d)

swap : {a n b m : ℕ} → Apart a n b m → Apart b m a n
swap (before h) = behind h
swap (behind h) = before h

module _ (g : Layout) (R : Ranged g) (tag : Tag) (v : List ℕ) (room : needed g * 512 ≤ length v)
    (e : Entry) (low : e.sector < g.provided) (whole : length e.bytes ≡ 512) (sized : length e.tag ≡ g.width) where
  data-fits : data_at g e.sector * 512 + length e.bytes ≤ length v
  data-fits = omega (arith, data-room g R e.sector low)

  -- store h replaces the bytes of the tag from `from h` on by `piece h`; of store 0 these are none
  abbrev pub from : ℕ → ℕ
  from zero = 0
  from (suc zero) = 0
  from (suc (suc h)) = first_piece g e.sector

  abbrev pub piece : ℕ → List ℕ
  piece zero = []
  piece (suc zero) = take (first_piece g e.sector) e.tag
  piece (suc (suc h)) = drop (first_piece g e.sector) e.tag

  pub piece-fits : (h : ℕ) → h < home_count g e → from h + length (piece h) ≤ g.width
  piece-fits zero l = omega arith
  piece-fits (suc zero) l = omega (arith, length-take (first_piece g e.sector) e.tag)
  piece-fits (suc (suc h)) l =
      omega (arith, length-drop (first_piece g e.sector) e.tag, crossing g R e.sector (home-crosses g e (omega arith)))

  region-fits : (h : ℕ) → h < home_count g e → tag_byte g e.sector + from h + length (piece h) ≤ length v
  region-fits h l = omega (arith, piece-fits h l, tag-end g R e.sector low)

  pub tag-store : (h : ℕ) → suc h < home_count g e
      → made v (home_store g v e (suc h)) ≡ patch v (tag_byte g e.sector + from (suc h)) (piece (suc h))
  tag-store zero l =
      let q : tag_sector g e.sector * 512 + tag_offset g e.sector ≡ tag_byte g e.sector + 0 = omega (arith, tag-sector g R e.sector) in
      put-inside v (tag_sector g e.sector) (tag_offset g e.sector) (piece 1)
      (omega (arith, length-take (first_piece g e.sector) e.tag, tag-offset g R e.sector)) (omega (arith, tag-room g R e.sector low))
      ∙ ap (λ (x : ℕ). patch v x (piece 1)) q
  tag-store (suc h) l =
      let c : crosses g e.sector ≡ true = home-crosses g e (omega arith) in
      let q : (tag_sector g e.sector + 1) * 512 + 0 ≡ tag_byte g e.sector + first_piece g e.sector =
      omega (arith, tag-sector g R e.sector, tag-offset g R e.sector) in
      put-inside v (tag_sector g e.sector + 1) 0 (piece 2)
      (omega (arith, length-drop (first_piece g e.sector) e.tag, R.t.bound)) (omega (arith, next-room g R e.sector low c))
      ∙ ap (λ (x : ℕ). patch v x (piece 2)) q

  pub home-length : (h : ℕ) → h < home_count g e → length (made v (home_store g v e h)) ≡ length v
  home-length zero l = length-patch v (data_at g e.sector * 512) e.bytes data-fits
  home-length (suc h) l =
      ap length (tag-store h l) ∙ length-patch v (tag_byte g e.sector + from (suc h)) (piece (suc h)) (region-fits (suc h) l)

  -- what lies before the runs
  pub home-low : (h : ℕ) → h < home_count g e → (b m : ℕ) → b + m ≤ base g * 512 → part (made v (home_store g v e h)) b m ≡ part v b m
  home-low zero l b m k =
      part-patch-before v (data_at g e.sector * 512) e.bytes data-fits b m (omega (arith, data-high g R e.sector))
  home-low (suc h) l b m k =
      ap (λ (x : List ℕ). part x b m) (tag-store h l)
      ∙ part-patch-before v (tag_byte g e.sector + from (suc h)) (piece (suc h)) (region-fits (suc h) l) b m
      (omega (arith, tag-high g R e.sector, tag-sector g R e.sector))

  -- a byte outside data and tags
  pub home-outside : (h : ℕ) → h < home_count g e → (b : ℕ) → Outside g b → get_or (made v (home_store g v e h)) b 0 ≡ get_or v b 0
  home-outside zero l b o = get_or-patch-other v (data_at g e.sector * 512) e.bytes data-fits b (rw whole (o.contents e.sector low))
  home-outside (suc h) l b o =
      ap (λ (x : List ℕ). get_or x b 0) (tag-store h l)
      ∙ get_or-patch-other v (tag_byte g e.sector + from (suc h)) (piece (suc h)) (region-fits (suc h) l) b
      (⊎_elim (λ q. inl (omega arith)) (λ q. inr (omega (arith, piece-fits (suc h) l))) (o.tags e.sector low))

  -- what lies apart from the tag
  home-aside : (h : ℕ) → suc h < home_count g e → (b m : ℕ) → Apart b m (tag_byte g e.sector) g.width
      → part (made v (home_store g v e (suc h))) b m ≡ part v b m
  home-aside h l b m q =
      ap (λ (x : List ℕ). part x b m) (tag-store h l)
      ∙ part_apart v (tag_byte g e.sector + from (suc h)) (piece (suc h)) b m (region-fits (suc h) l) (narrow q)
    where
      narrow : Apart b m (tag_byte g e.sector) g.width → Apart b m (tag_byte g e.sector + from (suc h)) (length (piece (suc h)))
      narrow (before k) = before (omega arith)
      narrow (behind k) = behind (omega (arith, piece-fits (suc h) l))

  -- the homes of other sectors
  pub home-frame : (h : ℕ) → h < home_count g e → Frame (Home g tag v) (Home g tag (made v (home_store g v e h))) e.sector
  home-frame zero l s d n p = (
    part_apart v (data_at g e.sector * 512) e.bytes (data_at g s * 512) 512 data-fits (rw whole (data-data g R s e.sector n)) ∙ p.0,
    part_apart v (data_at g e.sector * 512) e.bytes (tag_byte g s) g.width data-fits (rw whole (swap (data-tag g R e.sector s))) ∙ p.1,
  )
  home-frame (suc h) l s d n p = (
    home-aside h l (data_at g s * 512) 512 (data-tag g R s e.sector) ∙ p.0,
    home-aside h l (tag_byte g s) g.width (tag-tag g R s e.sector n) ∙ p.1,
  )

  pub home-data : sector_at (made v (home_store g v e 0)) (data_at g e.sector) ≡ e.bytes
  home-data = part-patch-same v (data_at g e.sector * 512) e.bytes data-fits 512 (sym whole)

  -- the stores of the tag leave the data
  pub data-stays : (h : ℕ) → suc h < home_count g e → sector_at (made v (home_store g v e (suc h))) (data_at g e.sector) ≡ sector_at v (data_at g e.sector)
  data-stays h l = home-aside h l (data_at g e.sector * 512) 512 (data-tag g R e.sector e.sector)

  -- the first store of a tag: its bytes up to the end of the sector; of a tag that does not cross all
  pub first-stands : crosses g e.sector ≡ true
      → part (made v (home_store g v e 1)) (tag_byte g e.sector) (first_piece g e.sector) ≡ take (first_piece g e.sector) e.tag
  first-stands c =
      let q : tag_byte g e.sector + 0 ≡ tag_byte g e.sector = omega arith in
      let l : 1 < home_count g e = home_some g e in
      let n : first_piece g e.sector ≡ length (piece 1) = omega (arith, length-take (first_piece g e.sector) e.tag, crossing g R e.sector c) in
      ap (λ (x : List ℕ). part x (tag_byte g e.sector) (first_piece g e.sector)) (tag-store 0 l ∙ ap (λ (x : ℕ). patch v x (piece 1)) q)
      ∙ part-patch-same v (tag_byte g e.sector) (piece 1) (omega (arith, region-fits 1 l)) (first_piece g e.sector) n

  whole-piece : crosses g e.sector ≡ false → piece 1 ≡ e.tag
  whole-piece c = take_all (first_piece g e.sector) e.tag (omega (arith, not-crossing g R e.sector c))

  pub tag-in-one : crosses g e.sector ≡ false → tag_at g (made v (home_store g v e 1)) e.sector ≡ e.tag
  tag-in-one c =
      let q : tag_byte g e.sector + 0 ≡ tag_byte g e.sector = omega arith in
      let l : 1 < home_count g e = home_some g e in
      ap (λ (x : List ℕ). tag_at g x e.sector) (tag-store 0 l ∙ ap (λ (x : ℕ). patch v x (piece 1)) q ∙ ap (patch v (tag_byte g e.sector)) (whole-piece c))
      ∙ part-patch-same v (tag_byte g e.sector) e.tag (omega (arith, tag-end g R e.sector low)) g.width (sym sized)

  -- the second, where the first stands
  pub tag-in-two : crosses g e.sector ≡ true → part v (tag_byte g e.sector) (first_piece g e.sector) ≡ take (first_piece g e.sector) e.tag
      → tag_at g (made v (home_store g v e 2)) e.sector ≡ e.tag
  tag-in-two c q =
      let l : 2 < home_count g e = omega (arith, home-in-two g e c) in
      let k = crossing g R e.sector c in
      let n : length (piece 2) ≡ g.width - first_piece g e.sector = omega (arith, length-drop (first_piece g e.sector) e.tag) in
      let sum : g.width ≡ first_piece g e.sector + length (piece 2) = omega arith in
      let front : part (made v (home_store g v e 2)) (tag_byte g e.sector) (first_piece g e.sector) ≡ take (first_piece g e.sector) e.tag =
      ap (λ (x : List ℕ). part x (tag_byte g e.sector) (first_piece g e.sector)) (tag-store 1 l)
      ∙ part-patch-before v (tag_byte g e.sector + first_piece g e.sector) (piece 2) (region-fits 2 l) (tag_byte g e.sector) (first_piece g e.sector) (omega arith)
      ∙ q in
      let rest : part (made v (home_store g v e 2)) (tag_byte g e.sector + first_piece g e.sector) (length (piece 2)) ≡ piece 2 =
      ap (λ (x : List ℕ). part x (tag_byte g e.sector + first_piece g e.sector) (length (piece 2))) (tag-store 1 l)
      ∙ part-patch-same v (tag_byte g e.sector + first_piece g e.sector) (piece 2) (region-fits 2 l) (length (piece 2)) refl in
      ap (part (made v (home_store g v e 2)) (tag_byte g e.sector)) sum
      ∙ part-add (made v (home_store g v e 2)) (tag_byte g e.sector) (first_piece g e.sector) (length (piece 2))
      ∙ ap (λ (x : List ℕ). x ++ part (made v (home_store g v e 2)) (tag_byte g e.sector + first_piece g e.sector) (length (piece 2))) front
      ∙ ap (λ (x : List ℕ). take (first_piece g e.sector) e.tag ++ x) rest
      ∙ take-append-drop (first_piece g e.sector) e.tag

  pub home-front : (h : ℕ) → h < home_count g e → front g (made v (home_store g v e h)) ≡ front g v
  home-front h l = home-low h l (g.reserved * 512) ((base g - g.reserved) * 512) (omega arith)

module _ (g : Layout) (R : Ranged g) (tag : Tag) (v : List ℕ) (room : needed g * 512 ≤ length v)
    (k : ℕ) (kl : k < g.sections) (j : ℕ) (jl : j < section_size g.width) (c : List ℕ) (whole : length c ≡ 512) where
  journal-in : (section_at g k + j + 1) * 512 ≤ length v
  journal-in = omega (arith, section-low g R k kl, base-room g R)

  journal-fits : (section_at g k + j) * 512 + length c ≤ length v
  journal-fits = omega (arith, journal-in)

  pub journal-length : length (put_sector v (section_at g k + j) c) ≡ length v
  journal-length = length-patch v ((section_at g k + j) * 512) c journal-fits

  pub journal-other : (k' : ℕ) → k' ≢ k → section_of g (put_sector v (section_at g k + j) c) k' ≡ section_of g v k'
  journal-other k' n =
      part_apart v ((section_at g k + j) * 512) c (section_at g k' * 512) (section_size g.width * 512) journal-fits (go (section-apart g R k' k n))
    where
      go : Apart (section_at g k' * 512) (section_size g.width * 512) (section_at g k * 512) (section_size g.width * 512)
          → Apart (section_at g k' * 512) (section_size g.width * 512) ((section_at g k + j) * 512) (length c)
      go (before h) = before (omega arith)
      go (behind h) = behind (omega arith)

  pub journal-at : sector_at (section_of g (put_sector v (section_at g k + j) c) k) j ≡ c
  journal-at =
      sector-part (put_sector v (section_at g k + j) c) (section_at g k) (section_size g.width) j jl
      ∙ sector-put-same v (section_at g k + j) c whole journal-in

  pub journal-by : (i : ℕ) → i < section_size g.width → i ≢ j
      → sector_at (section_of g (put_sector v (section_at g k + j) c) k) i ≡ sector_at (section_of g v k) i
  journal-by i l n =
      sector-part (put_sector v (section_at g k + j) c) (section_at g k) (section_size g.width) i l
      ∙ sector-put-other v (section_at g k + j) c whole journal-in (section_at g k + i) (omega arith)
      ∙ sym (sector-part v (section_at g k) (section_size g.width) i l)

  pub journal-home : (s : ℕ) (d : List ℕ) → Home g tag v s d → Home g tag (put_sector v (section_at g k + j) c) s d
  journal-home s d p = (
    part-patch-after v ((section_at g k + j) * 512) c journal-fits (data_at g s * 512) 512 (omega (arith, section-low g R k kl, data-high g R s)) ∙ p.0,
    part-patch-after v ((section_at g k + j) * 512) c journal-fits (tag_byte g s) g.width
        (omega (arith, section-low g R k kl, tag-high g R s, tag-sector g R s)) ∙ p.1,
  )

  pub journal-low : (b m : ℕ) → b + m ≤ section_at g 0 * 512 → part (put_sector v (section_at g k + j) c) b m ≡ part v b m
  journal-low b m h = part-patch-before v ((section_at g k + j) * 512) c journal-fits b m (omega arith)
