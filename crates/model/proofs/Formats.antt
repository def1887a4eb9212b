-- What format leaves, and that it is a formatted volume in the sense of demand 3.
use Prim.Native.Nat.{ℕ, suc, ◌+◌, ◌-◌, ◌*◌, ◌/◌, ◌%◌, ◌≤◌, ◌<◌}
use mathlib.Core.Bool.{true}
use mathlib.Core.Path.{◌≡◌, refl, sym, ap, ◌∙◌}
use mathlib.Core.List.{List, ◌++◌}
use native.Mathlib.Omega.{arith}
use native.Mathlib.Decide.{dec_lt, ℕ_discrete}
use native.Mathlib.Nat.{mul-le-mul_right, suc-mul, mod-lt, div-add-mod', mul_assoc}
use lib.Pow.{pow_pos}
use lib.ListN.{length, take, drop, replicate, length-append, length-drop, length-replicate}
use lib.Seq.{take_at, length-take-le}
use borrow.Author.Tests.{ltb-false}
use Rattle.octets.specs.Numbers.{le}
use Rattle.octets.specs.Parts.{part}
use Rattle.octets.specs.Sectors.{sector_at}
use Rattle.octets.proofs.Parts.{part-append-left, part-behind, take-replicate, drop-replicate, part-part}
use Rattle.on_disk.specs.Layout.{section_size, section_at, base, run_length, tag_area, data_at, tag_byte, needed, layout_ok}
use Rattle.octets.specs.Lists.{collect}
use Rattle.on_disk.specs.Superblock.{superblock_of, superblock_at}
use Rattle.on_disk.proofs.Sections.{length-collect, part-collect}
use Rattle.model.specs.Tag.{Tag, Tags, tag_at}
use Rattle.model.specs.State.{volume_loan_ok, Verdict, passed}
use Rattle.octets.specs.Choice.{first_met}
use Rattle.octets.proofs.Answers.{refused-not-taken}
use Rattle.octets.proofs.Choice.{Unmet, unmet}
use Rattle.model.specs.Format.{zeros, fresh_tags, fresh_run, last_run, last_length, fresh_volume, format_rows, format_by, format_of}
use Rattle.model.proofs.Batches.{Seen, is_passed, is_refused, seen, not-not}
use Rattle.on_disk.proofs.Addresses.{Ranged, ranged, tag-in-area, base-room}
use Rattle.on_disk.specs.declared.Layout.{Layout}

-- what format leaves, as the proof of demand 3 uses it
pub record Fresh (tag : Tag) (g : Layout) (v : List ℕ) : Type 0 where
  pub wholes : volume_loan_ok v ≡ true
  pub layout : layout_ok g ≡ true
  pub room : needed g * 512 ≤ length v
  pub super : superblock_at g.reserved v ≡ superblock_of g
  pub journal : (a : ℕ) → section_at g 0 ≤ a → a < section_at g g.sections → sector_at v a ≡ replicate 512 0
  pub zero-data : (s : ℕ) → s < g.provided → sector_at v (data_at g s) ≡ replicate 512 0
  pub tags : (s : ℕ) → s < g.provided → tag_at g v s ≡ tag s (replicate 512 0)

part-zeros : (n x m : ℕ) → x + m ≤ n → part (zeros n) x m ≡ zeros m
part-zeros n x m h = ap (take m) (drop-replicate x n 0 (omega arith)) ∙ take-replicate m (n - x) 0 (omega arith)

pub super-length : (g : Layout) → length (superblock_of g) ≡ 4096
unfolding superblock_of
super-length g = refl

module _ (tag : Tag) (g : Layout) (R : Ranged g) (sz : (s : ℕ) (b : List ℕ) → length (tag s b) ≡ g.width) where
  abbrev N : ℕ
  N = run_length g

  abbrev A : ℕ
  A = tag_area g

  abbrev Z : ℕ
  Z = (tag_area g + run_length g) * 512

  n_pos : 0 < N
  n_pos = pow_pos g.shift

  tags-length : (q n : ℕ) → length (fresh_tags tag g q n) ≡ n * g.width
  tags-length q n = length-collect (λ i. tag (q * run_length g + i) (zeros 512)) g.width n (λ i l. sz (q * run_length g + i) (zeros 512))

  tags-fit : (n : ℕ) → n ≤ N → n * g.width ≤ A * 512
  tags-fit n h = omega (arith, mul-le-mul_right g.width h)

  run_length_lem : (q n : ℕ) → n ≤ N → length (fresh_run tag g q n) ≡ (A + n) * 512
  run_length_lem q n h =
      length-append (fresh_tags tag g q n) (zeros (A * 512 - n * g.width) ++ zeros (n * 512))
      ∙ rw (
        tags-length q n,
        length-append (zeros (A * 512 - n * g.width)) (zeros (n * 512)),
        length-replicate {A = ℕ} (A * 512 - n * g.width) 0,
        length-replicate {A = ℕ} (n * 512) 0,
      ) (omega (arith, tags-fit n h))

  -- a tag and a data sector of a fresh run
  run-tag : (q n o : ℕ) → n ≤ N → o < n → part (fresh_run tag g q n) (o * g.width) g.width ≡ tag (q * N + o) (zeros 512)
  run-tag q n o h l =
      let a : suc o * g.width ≤ n * g.width = mul-le-mul_right g.width l in
      let b : suc o * g.width ≡ o * g.width + g.width = suc-mul o g.width in
      part-append-left (fresh_tags tag g q n) (zeros (A * 512 - n * g.width) ++ zeros (n * 512)) (o * g.width) g.width (omega (arith, tags-length q n))
      ∙ part-collect (λ i. tag (q * run_length g + i) (zeros 512)) g.width n (λ i k. sz (q * run_length g + i) (zeros 512)) o l

  run-data : (q n o : ℕ) → n ≤ N → o < n → part (fresh_run tag g q n) ((A + o) * 512) 512 ≡ zeros 512
  run-data q n o h l =
      let e₁ : (A + o) * 512 ≡ n * g.width + ((A + o) * 512 - n * g.width) = omega (arith, tags-fit n h) in
      let e₂ : (A + o) * 512 - n * g.width ≡ A * 512 - n * g.width + o * 512 = omega (arith, tags-fit n h) in
      ap (λ (x : ℕ). part (fresh_run tag g q n) x 512) e₁
      ∙ part-behind (fresh_tags tag g q n) (zeros (A * 512 - n * g.width) ++ zeros (n * 512)) (n * g.width) ((A + o) * 512 - n * g.width) 512 (tags-length q n)
      ∙ ap (λ (x : ℕ). part (zeros (A * 512 - n * g.width) ++ zeros (n * 512)) x 512) e₂
      ∙ part-behind (zeros (A * 512 - n * g.width)) (zeros (n * 512)) (A * 512 - n * g.width) (o * 512) 512 (length-replicate {A = ℕ} (A * 512 - n * g.width) 0)
      ∙ part-zeros (n * 512) (o * 512) 512 (omega arith)

  module _ (v : List ℕ) (room : needed g * 512 ≤ length v) where
    abbrev rest : List ℕ
    rest = drop (needed g * 512) v

    abbrev full : ℕ → List ℕ
    full q = fresh_run tag g q (run_length g)

    abbrev runs : List ℕ
    runs = collect (last_run g) full ++ (fresh_run tag g (last_run g) (last_length g) ++ rest)

    abbrev journal : List ℕ
    journal = replicate (g.sections * section_size g.width * 512) 0

    last-le : last_length g ≤ N
    last-le = omega (arith, mod-lt (g.provided - 1) n_pos)

    full-length : length (collect (last_run g) full) ≡ last_run g * Z
    full-length = length-collect full Z (last_run g) (λ q l. run_length_lem q N (omega arith))

    head-length : length (take (g.reserved * 512) v) ≡ g.reserved * 512
    head-length = length-take-le (g.reserved * 512) v (omega (arith, base-room g R))

    -- a part of the runs
    in-runs : (x m : ℕ) → part (fresh_volume tag g v) (base g * 512 + x) m ≡ part runs x m
    unfolding fresh_volume
    in-runs x m =
        let e₁ : base g * 512 + x ≡ g.reserved * 512 + (4096 + (g.sections * section_size g.width * 512 + x)) = omega arith in
        ap (λ (y : ℕ). part (fresh_volume tag g v) y m) e₁
        ∙ part-behind (take (g.reserved * 512) v) (superblock_of g ++ (journal ++ runs)) (g.reserved * 512) (4096 + (g.sections * section_size g.width * 512 + x)) m head-length
        ∙ part-behind (superblock_of g) (journal ++ runs) 4096 (g.sections * section_size g.width * 512 + x) m (super-length g)
        ∙ part-behind journal runs (g.sections * section_size g.width * 512) x m (length-replicate {A = ℕ} (g.sections * section_size g.width * 512) 0)

    -- a part of the run of sector s, n of whose data sectors are there
    in-run : (q x m : ℕ) → (q < last_run g) → x + m ≤ Z → part runs (q * Z + x) m ≡ part (full q) x m
    in-run q x m l h =
        let a : suc q * Z ≤ last_run g * Z = mul-le-mul_right Z l in
        let b : suc q * Z ≡ q * Z + Z = suc-mul q Z in
        part-append-left (collect (last_run g) full) (fresh_run tag g (last_run g) (last_length g) ++ rest) (q * Z + x) m (omega (arith, full-length))
        ∙ sym (part-part (collect (last_run g) full) (q * Z) Z x m h)
        ∙ ap (λ (y : List ℕ). part y x m) (part-collect full Z (last_run g) (λ i k. run_length_lem i N (omega arith)) q l)

    in-last : (x m : ℕ) → x + m ≤ (A + last_length g) * 512 → part runs (last_run g * Z + x) m ≡ part (fresh_run tag g (last_run g) (last_length g)) x m
    in-last x m h =
        part-behind (collect (last_run g) full) (fresh_run tag g (last_run g) (last_length g) ++ rest) (last_run g * Z) x m full-length
        ∙ part-append-left (fresh_run tag g (last_run g) (last_length g)) rest x m (omega (arith, run_length_lem (last_run g) (last_length g) last-le))

    -- every sector lies in a fresh run
    data Lies (s : ℕ) : Type 0 where
      lies : (n : ℕ) → n ≤ N → s % N < n
          → ((x m : ℕ) → x + m ≤ (A + n) * 512 → part runs (s / N * Z + x) m ≡ part (fresh_run tag g (s / N) n) x m) → Lies s

    lying : (s : ℕ) → s < g.provided → Lies s
    lying s h = go (dec_lt (s / N) (last_run g)) (ℕ_discrete (s / N) (last_run g))
      where
        z : ℕ
        z = g.provided - 1

        go : Dec (s / N < last_run g) → Dec (s / N ≡ last_run g) → Lies s
        go (yes l) d = lies N (omega arith) (mod-lt s n_pos) (λ x m k. in-run (s / N) x m l k)
        go (no l) (yes e) =
            let a : s / N * N + s % N ≡ s = div-add-mod' s N in
            let b : last_run g * N + (g.provided - 1) % N ≡ g.provided - 1 = div-add-mod' (g.provided - 1) N in
            let c : last_run g * N + s % N ≡ s = rw e at a in
            lies (last_length g) last-le (omega arith) (λ x m k. rw e (in-last x m k))
        go (no l) (no e) =
            let a : suc (last_run g) * N ≤ s / N * N = mul-le-mul_right N (omega arith) in
            let b : suc (last_run g) * N ≡ last_run g * N + N = suc-mul (last_run g) N in
            absurd (omega (arith, div-add-mod' s N, div-add-mod' (g.provided - 1) N, mod-lt (g.provided - 1) n_pos))

    fresh-data : (s : ℕ) → s < g.provided → sector_at (fresh_volume tag g v) (data_at g s) ≡ zeros 512
    fresh-data s h = go (lying s h)
      where
        split : s / N * Z ≡ s / N * (tag_area g + run_length g) * 512
        split = sym (mul_assoc (s / N) (tag_area g + run_length g) 512)

        go : Lies s → sector_at (fresh_volume tag g v) (data_at g s) ≡ zeros 512
        go (lies n le l f) =
            let e : data_at g s * 512 ≡ base g * 512 + (s / N * Z + (A + s % N) * 512) = omega (arith, split) in
            ap (λ (y : ℕ). part (fresh_volume tag g v) y 512) e ∙ in-runs (s / N * Z + (A + s % N) * 512) 512
            ∙ f ((A + s % N) * 512) 512 (omega arith) ∙ run-data (s / N) n (s % N) le l

    fresh-tag : (s : ℕ) → s < g.provided → tag_at g (fresh_volume tag g v) s ≡ tag s (zeros 512)
    fresh-tag s h = go (lying s h)
      where
        split : s / N * Z ≡ s / N * (tag_area g + run_length g) * 512
        split = sym (mul_assoc (s / N) (tag_area g + run_length g) 512)

        go : Lies s → tag_at g (fresh_volume tag g v) s ≡ tag s (zeros 512)
        go (lies n le l f) =
            let e : tag_byte g s ≡ base g * 512 + (s / N * Z + s % N * g.width) = omega (arith, split) in
            ap (λ (y : ℕ). part (fresh_volume tag g v) y g.width) e ∙ in-runs (s / N * Z + s % N * g.width) g.width
            ∙ f (s % N * g.width) g.width (omega (arith, tag-in-area g R s)) ∙ run-tag (s / N) n (s % N) le l
            ∙ ap (λ (y : ℕ). tag y (zeros 512)) (div-add-mod' s N)

    -- the journal, the superblock_at, the length
    fresh-journal : (a : ℕ) → section_at g 0 ≤ a → a < base g → sector_at (fresh_volume tag g v) a ≡ zeros 512
    unfolding fresh_volume
    fresh-journal a h l =
        let J : ℕ = g.sections * section_size g.width * 512 in
        let e : a * 512 ≡ g.reserved * 512 + (4096 + (a * 512 - (g.reserved * 512 + 4096))) = omega arith in
        ap (λ (y : ℕ). part (fresh_volume tag g v) y 512) e
        ∙ part-behind (take (g.reserved * 512) v) (superblock_of g ++ (journal ++ runs)) (g.reserved * 512) (4096 + (a * 512 - (g.reserved * 512 + 4096))) 512 head-length
        ∙ part-behind (superblock_of g) (journal ++ runs) 4096 (a * 512 - (g.reserved * 512 + 4096)) 512 (super-length g)
        ∙ part-append-left journal runs (a * 512 - (g.reserved * 512 + 4096)) 512
        (omega (arith, length-replicate {A = ℕ} (g.sections * section_size g.width * 512) 0))
        ∙ part-zeros (g.sections * section_size g.width * 512) (a * 512 - (g.reserved * 512 + 4096)) 512 (omega arith)

    fresh-super : superblock_at g.reserved (fresh_volume tag g v) ≡ superblock_of g
    unfolding fresh_volume
    fresh-super =
        let e : g.reserved * 512 ≡ g.reserved * 512 + 0 = omega arith in
        ap (λ (y : ℕ). part (fresh_volume tag g v) y 4096) e
        ∙ part-behind (take (g.reserved * 512) v) (superblock_of g ++ (journal ++ runs)) (g.reserved * 512) 0 4096 head-length
        ∙ take_at (superblock_of g) (journal ++ runs) 4096 (super-length g)

    pub format-length : length (fresh_volume tag g v) ≡ length v
    unfolding fresh_volume
    format-length =
        let a = length-append (take (g.reserved * 512) v) (superblock_of g ++ (journal ++ runs)) in
        let b = length-append (superblock_of g) (journal ++ runs) in
        let c = length-append journal runs in
        let d = length-append (collect (last_run g) full) (fresh_run tag g (last_run g) (last_length g) ++ rest) in
        let e = length-append (fresh_run tag g (last_run g) (last_length g)) rest in
        omega (
          arith,
          a,
          b,
          c,
          d,
          e,
          head-length,
          super-length g,
          length-replicate {A = ℕ} (g.sections * section_size g.width * 512) 0,
          full-length,
          run_length_lem (last_run g) (last_length g) last-le,
          length-drop (needed g * 512) v,
          mul_assoc (last_run g) (tag_area g + run_length g) 512,
        )

  pub formatted : layout_ok g ≡ true → (v : List ℕ) → volume_loan_ok v ≡ true → needed g * 512 ≤ length v → Fresh tag g (fresh_volume tag g v)
  formatted ok v w room =
      record {
        wholes = rw (format-length v room) w;
        layout = ok;
        room = rw (format-length v room) room;
        super = fresh-super v room;
        journal = fresh-journal v room;
        zero-data = fresh-data v room;
        tags = fresh-tag v room;
      }

-- a taken format leaves a fresh volume
module _ (tags : Tags) (g : Layout) (v : List ℕ) where
  abbrev verdict : Verdict
  verdict = first_met (format_rows g v) passed

  format-unmet : verdict ≡ passed → Unmet (format_rows g v)
  format-unmet e = unmet (format_rows g v) passed (refused-not-taken _ tt, (refused-not-taken _ tt, (refused-not-taken _ tt, (refused-not-taken _ tt, tt)))) e

  format-passed : (format_of tags g v).answer ≡ passed → verdict ≡ passed
  unfolding format_of
  format-passed e = go (seen verdict)
    where
      go : Seen verdict → verdict ≡ passed
      go (is_passed p) = p
      go (is_refused r p) =
          absurd (refused-not-taken r tt (sym (ap (λ (x : Verdict). (format_by (tags g.width) g v x).answer) p) ∙ e))

  passed-layout : verdict ≡ passed → layout_ok g ≡ true
  passed-layout p = not-not (layout_ok g) (format-unmet p).1.0

  pub format-layout : (format_of tags g v).answer ≡ passed → layout_ok g ≡ true
  format-layout e = passed-layout (format-passed e)

  pub format-fresh : ((s : ℕ) (b : List ℕ) → length (tags g.width s b) ≡ g.width) → (format_of tags g v).answer ≡ passed → Fresh (tags g.width) g (format_of tags g v).volume
  unfolding format_of
  format-fresh sz e =
      let p : verdict ≡ passed = format-passed e in
      let u : Unmet (format_rows g v) = format-unmet p in
      let ok : layout_ok g ≡ true = passed-layout p in
      rw p (formatted (tags g.width) g (ranged g ok) sz ok v (not-not (volume_loan_ok v) u.0) (ltb-false (length v) (needed g * 512) u.1.1.0))
