-- An entry by its bytes in a section: read part by part, and put in part by part.
use Prim.Native.Nat.{ℕ, ◌+◌, ◌-◌, ◌*◌, ◌/◌, ◌%◌, ◌≤◌, ◌<◌}
use mathlib.Core.List.{List, ◌++◌, append_assoc}
use mathlib.Core.Path.{◌≡◌, refl, sym, ap, ◌∙◌}
use native.Mathlib.Omega.{arith}
use lib.ListN.{length, take, drop, replicate, length-append, length-drop, length-replicate}
use lib.Seq.{take_all, take-take, length-take-le}
use Rattle.octets.specs.Numbers.{le, value}
use Rattle.octets.specs.Parts.{part, patch}
use Rattle.octets.specs.Sectors.{sector_at, put_sector}
use Rattle.octets.proofs.Numbers.{length-le}
use Rattle.octets.proofs.Parts.{length_part, length-patch, part-part, patch-join, patch-all}
use Rattle.octets.proofs.Sectors.{put-inside, sector-put-other}
use Rattle.on_disk.specs.Layout.{tag_part, entry_size, per_sector, entry_count, section_size}
use Rattle.on_disk.specs.Section.{id_of, metadata_of, entry_offset, entry_of, put_entry}
use Rattle.on_disk.proofs.Sections.{per_pos, entry-fits, entry-low}

pub id-part : (sec : List ℕ) (j : ℕ) → value (part sec (j * 512 + 504) 8) ≡ id_of (sector_at sec j)
id-part sec j = ap value (sym (part-part sec (j * 512) 512 504 8 (omega arith)))

-- a patch behind another
behind : (l : List ℕ) (at m : ℕ) (x y l₁ l₂ : List ℕ) → m ≡ at + length x → at + length x + length y ≤ length l
    → l₁ ≡ patch l at x → l₂ ≡ patch l₁ m y → l₂ ≡ patch l at (x ++ y)
behind l at m x y l₁ l₂ e h e₁ e₂ = e₂ ∙ ap (λ (z : List ℕ). patch z m y) e₁ ∙ rw e (patch-join l at x y h)

module _ (t i : ℕ) (small : t ≤ 32) (l : i < entry_count t) where
  pub metadata-high : metadata_of t i ≤ 7
  metadata-high = omega (arith, entry-low t (per_pos t (omega arith)) i l)

  pub entry-end : entry_offset t i + entry_size t ≤ 496
  entry-end = entry-fits t (per_pos t (omega arith)) i

  -- an address, as the code computes it
  pub address : (per size : ℕ) → per ≡ per_sector t → size ≡ entry_size t
      → (i / per ≡ metadata_of t i) × (i / per ≤ 7) × (i % per * size ≡ entry_offset t i) × (i % per * size + entry_size t ≤ 496)
  address per size p s = rw (p, s) (refl, metadata-high, refl, entry-end)

  module _ (sec : List ℕ) (at : ℕ) (start : at ≡ metadata_of t i * 512 + entry_offset t i) where
    -- bytes of the entry, in its metadata sector
    inside : (o n : ℕ) → o + n ≤ entry_size t → part sec (at + o) n ≡ part (sector_at sec (metadata_of t i)) (entry_offset t i + o) n
    inside o n h =
        let a : at + o ≡ metadata_of t i * 512 + (entry_offset t i + o) = omega arith in
        ap (λ (k : ℕ). part sec k n) a ∙ sym (part-part sec (metadata_of t i * 512) 512 (entry_offset t i + o) n (omega (arith, entry-end)))

    pub sector-read : value (part sec at 8) ≡ (entry_of t sec i).sector
    unfolding entry_of
    sector-read =
        let z : at ≡ at + 0 = omega arith in
        let o : entry_offset t i + 0 ≡ entry_offset t i = omega arith in
        ap value (ap (λ (k : ℕ). part sec k 8) z ∙ inside 0 8 (omega arith) ∙ ap (λ (k : ℕ). part (sector_at sec (metadata_of t i)) k 8) o)

    pub tag_read : part sec (at + 16) t ≡ (entry_of t sec i).tag
    unfolding entry_of
    tag_read = inside 16 t (omega arith)

    module _ (size : length sec ≡ section_size t * 512) where
      pub data-read : (z b₁ b₂ : List ℕ) → length z ≡ 512 → b₁ ≡ patch z 0 (part sec ((8 + i) * 512) 504) → b₂ ≡ patch b₁ 504 (part sec (at + 8) 8)
          → b₂ ≡ (entry_of t sec i).bytes
      unfolding entry_of
      data-read z b₁ b₂ lz e₁ e₂ =
          let n₁ : length (part sec ((8 + i) * 512) 504) ≡ 504 = length_part sec ((8 + i) * 512) 504 (omega arith) in
          let n₂ : length (part sec (at + 8) 8) ≡ 8 = length_part sec (at + 8) 8 (omega (arith, metadata-high, entry-end)) in
          behind z 0 504 (part sec ((8 + i) * 512) 504) (part sec (at + 8) 8) b₁ b₂ (omega arith) (omega arith) e₁ e₂
          ∙ patch-all z (part sec ((8 + i) * 512) 504 ++ part sec (at + 8) 8) (length-append (part sec ((8 + i) * 512) 504) (part sec (at + 8) 8) ∙ omega arith)
          ∙ ap (λ (x : List ℕ). x ++ part sec (at + 8) 8) (sym (take-take 504 512 (drop ((8 + i) * 512) sec) (omega arith)))
          ∙ ap (λ (x : List ℕ). take 504 (sector_at sec (8 + i)) ++ x) (inside 8 8 (omega arith))

      -- a logical sector n, data b, and the first t bytes of w
      module _ (n : ℕ) (b w : List ℕ) (lb : length b ≡ 512) (lw : t ≤ length w) where
        abbrev padding : List ℕ
        padding = replicate (tag_part t - t) 0

        abbrev content : List ℕ
        content = le 8 n ++ (drop 504 b ++ (take t w ++ padding))

        n₁ : length (part b 504 8) ≡ 8
        n₁ = length_part b 504 8 (omega arith)

        n₂ : length (take t w) ≡ t
        n₂ = length-take-le t w lw

        content-length : length content ≡ entry_size t
        content-length =
            omega (
              arith,
              length-append (le 8 n) (drop 504 b ++ (take t w ++ padding)),
              length-append (drop 504 b) (take t w ++ padding),
              length-append (take t w) padding,
              length-replicate {A = ℕ} (tag_part t - t) 0,
              length-le 8 n,
              length-drop 504 b,
              n₂,
            )

        room : at + entry_size t ≤ length sec
        room = omega (arith, metadata-high, entry-end)

        entry-put : (s₁ s₂ s₃ s₄ : List ℕ) → s₁ ≡ patch sec at (le 8 n) → s₂ ≡ patch s₁ (at + 8) (part b 504 8) → s₃ ≡ patch s₂ (at + 16) (take t w)
            → s₄ ≡ patch s₃ (at + 16 + t) padding → s₄ ≡ patch sec at content
        entry-put s₁ s₂ s₃ s₄ e₁ e₂ e₃ e₄ =
            let n₃ : length (le 8 n ++ part b 504 8) ≡ 16 = omega (arith, length-append (le 8 n) (part b 504 8), length-le 8 n, n₁) in
            let n₄ : length ((le 8 n ++ part b 504 8) ++ take t w) ≡ 16 + t = omega (arith, length-append (le 8 n ++ part b 504 8) (take t w), n₂) in
            let two : s₂ ≡ patch sec at (le 8 n ++ part b 504 8) =
            behind sec at (at + 8) (le 8 n) (part b 504 8) s₁ s₂ (omega (arith, length-le 8 n)) (omega (arith, length-le 8 n, n₁, room)) e₁ e₂ in
            let three : s₃ ≡ patch sec at ((le 8 n ++ part b 504 8) ++ take t w) =
            behind sec at (at + 16) (le 8 n ++ part b 504 8) (take t w) s₂ s₃ (omega arith) (omega (arith, n₂, room)) two e₃ in
            let last : part b 504 8 ≡ drop 504 b = take_all 8 (drop 504 b) (omega (arith, length-drop 504 b)) in
            behind sec at (at + 16 + t) ((le 8 n ++ part b 504 8) ++ take t w) padding s₃ s₄ (omega arith)
            (omega (arith, length-replicate {A = ℕ} (tag_part t - t) 0, room)) three e₄
            ∙ ap (patch sec at)
            (append_assoc (le 8 n ++ part b 504 8) (take t w) padding ∙ append_assoc (le 8 n) (part b 504 8) (take t w ++ padding)
            ∙ ap (λ (x : List ℕ). le 8 n ++ (x ++ (take t w ++ padding))) last)

        pub put_all : (p : ℕ) → p ≡ tag_part t - t → (s₁ s₂ s₃ s₄ s₅ : List ℕ) → s₁ ≡ patch sec at (le 8 n) → s₂ ≡ patch s₁ (at + 8) (part b 504 8) → s₃ ≡ patch s₂ (at + 16) (take t w)
            → s₄ ≡ patch s₃ (at + 16 + t) (replicate p 0) → s₅ ≡ patch s₄ ((8 + i) * 512) (take 504 b)
            → s₅ ≡ put_entry t sec i (record { sector = n; bytes = b; tag = take t w })
        put_all p q s₁ s₂ s₃ s₄ s₅ e₁ e₂ e₃ given e₅ =
            let e₄ : s₄ ≡ patch s₃ (at + 16 + t) padding = given ∙ ap (λ (k : ℕ). patch s₃ (at + 16 + t) (replicate k 0)) q in
            let new : List ℕ = patch (sector_at sec (metadata_of t i)) (entry_offset t i) content in
            let old-length : length (sector_at sec (metadata_of t i)) ≡ 512 = length_part sec (metadata_of t i * 512) 512 (omega (arith, metadata-high)) in
            let fits : entry_offset t i + length content ≤ 512 = omega (arith, entry-end, content-length) in
            let new-length : length new ≡ 512 = length-patch (sector_at sec (metadata_of t i)) (entry_offset t i) content (omega arith) ∙ old-length in
            let within : (metadata_of t i + 1) * 512 ≤ length sec = omega (arith, metadata-high) in
            let fourth : s₄ ≡ put_sector sec (metadata_of t i) new =
            entry-put s₁ s₂ s₃ s₄ e₁ e₂ e₃ e₄ ∙ ap (λ (k : ℕ). patch sec k content) start
            ∙ sym (put-inside sec (metadata_of t i) (entry_offset t i) content fits within) in
            let body : sector_at s₄ (8 + i) ≡ sector_at sec (8 + i) =
            ap (λ (x : List ℕ). sector_at x (8 + i)) fourth
            ∙ sector-put-other sec (metadata_of t i) new new-length within (8 + i) (omega (arith, metadata-high)) in
            let same_length : length s₄ ≡ length sec = ap length (entry-put s₁ s₂ s₃ s₄ e₁ e₂ e₃ e₄) ∙ length-patch sec at content (omega (arith, room, content-length)) in
            let front : length (take 504 b) ≡ 504 = length-take-le 504 b (omega arith) in
            let z : (8 + i) * 512 ≡ (8 + i) * 512 + 0 = omega arith in
            e₅ ∙ ap (λ (k : ℕ). patch s₄ k (take 504 b)) z
            ∙ sym (put-inside s₄ (8 + i) 0 (take 504 b) (omega arith) (omega arith))
            ∙ ap (λ (x : List ℕ). put_sector s₄ (8 + i) (take 504 b ++ x)) (ap (λ (k : ℕ). drop (0 + k) (sector_at s₄ (8 + i))) front ∙ ap (drop 504) body)
            ∙ ap (λ (x : List ℕ). put_sector x (8 + i) (take 504 b ++ drop 504 (sector_at sec (8 + i)))) fourth
