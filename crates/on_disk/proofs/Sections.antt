-- Laws of a section: the id field and the entries do not overlap; an entry that is put is read back, and leaves the others.
use Prim.Native.Nat.{ℕ, zero, suc, ◌+◌, ◌-◌, ◌*◌, ◌/◌, ◌%◌, ◌^◌, ◌≤◌, ◌<◌}
use mathlib.Core.Bool.{Bool, true, false}
use mathlib.Core.Path.{◌≡◌, sym, ap, ◌∙◌, subst}
use mathlib.Core.Logic.{◌≢◌}
use mathlib.Core.List.{List, ◌++◌}
use native.Mathlib.Omega.{arith}
use native.Mathlib.Decide.{dec_lt, ℕ_discrete}
use native.Mathlib.Nat.{mul-le-mul_right, suc-mul, mod-lt, div-add-mod', mul_comm}
use lib.Dec.{ltb}
use lib.ListN.{replicate, length-replicate, length, take, drop, length-append, length-drop, take-append-drop}
use lib.Seq.{take-append-le, drop-append-le, take_at, drop_at, length-take-le, drop-drop, take_all}
use borrow.Author.Tests.{lt-ltb}
use Rattle.octets.specs.Choice.{pick}
use Rattle.octets.specs.Numbers.{le, value}
use Rattle.octets.proofs.Numbers.{length-le, value-le}
use Rattle.octets.specs.Parts.{part, patch}
use Rattle.octets.specs.Sectors.{sector_at, put_sector}
use Rattle.octets.proofs.Parts.{part-append-left, part-patch-same, length-patch, part-part, length_part}
use Rattle.octets.proofs.Sectors.{length-put, sector-put-same, sector-put-other}
use Rattle.on_disk.specs.Geometry.{Apart, before, behind}
use Rattle.on_disk.specs.Layout.{tag_part, entry_size, per_sector, entry_count, section_size}
use Rattle.on_disk.specs.Section.{unused, empty_entry, empty_sector, empty_section, Entry, id_of, with_id, metadata_of, entry_offset, read_entry, entry_of, entry_bytes, put_entry}
use Rattle.octets.specs.Lists.{collect}
use Rattle.on_disk.proofs.Addresses.{part_apart}

-- ---- the id field

module _ (b : List ℕ) (n : ℕ) (whole : length b ≡ 512) where
  front : length (take 504 b) ≡ 504
  front = length-take-le 504 b (omega arith)

  pub length-with_id : length (with_id b n) ≡ 512
  length-with_id = simp (length-append, front, length-le) (omega arith)

  pub id-with_id : n < 2 ^ 64 → id_of (with_id b n) ≡ n
  id-with_id l =
      let e : part (with_id b n) 504 8 ≡ le 8 n =
      rw (drop_at (take 504 b) (le 8 n) 504 front) (take_all 8 (le 8 n) (omega arith)) in
      ap value e ∙ value-le 8 n l

  pub part-with_id : (o m : ℕ) → o + m ≤ 504 → part (with_id b n) o m ≡ part b o m
  part-with_id o m h =
      let g : o ≤ length (take 504 b) = rw front (omega arith) in
      let k : m ≤ length (drop o (take 504 b)) = simp (length-drop, front) (omega arith) in
      let s : List ℕ = le 8 n in
      let e₁ : part (with_id b n) o m ≡ part (take 504 b) o m =
      rw (drop-append-le o (take 504 b) (le 8 n) g, take-append-le m (drop o (take 504 b)) (le 8 n) k) in
      let e₂ : 0 + o ≡ o = omega arith in
      e₁ ∙ part-part b 0 504 o m h ∙ ap (λ (x : ℕ). part b x m) e₂

  pub take-with_id : take 504 (with_id b n) ≡ take 504 b
  take-with_id = part-with_id 0 504 (omega arith)

-- ---- where entries stand

pub per_pos : (t : ℕ) → t ≤ 480 → 0 < per_sector t
per_pos t h = go (dec_lt 0 (per_sector t))
  where
    go : Dec (0 < per_sector t) → 0 < per_sector t
    go (yes p) = p
    go (no n) =
        let z : 496 / entry_size t ≡ 0 = omega arith in
        let e : 0 * entry_size t + 496 % entry_size t ≡ 496 = rw z at (div-add-mod' 496 (entry_size t)) in
        absurd (omega (arith, mod-lt 496 {m = entry_size t} (omega arith)))

module _ (t : ℕ) (pos : 0 < per_sector t) where
  pub entry-fits : (i : ℕ) → entry_offset t i + entry_size t ≤ 496
  entry-fits i =
      let h : suc (i % per_sector t) * entry_size t ≤ per_sector t * entry_size t = mul-le-mul_right (entry_size t) (mod-lt i pos) in
      let e : suc (i % per_sector t) * entry_size t ≡ i % per_sector t * entry_size t + entry_size t = suc-mul (i % per_sector t) (entry_size t) in
      let d : 496 / entry_size t * entry_size t + 496 % entry_size t ≡ 496 = div-add-mod' 496 (entry_size t) in
      omega arith

  pub entry-low : (i : ℕ) → i < entry_count t → metadata_of t i < 8
  entry-low i l = go (dec_lt (metadata_of t i) 8)
    where
      go : Dec (metadata_of t i < 8) → metadata_of t i < 8
      go (yes p) = p
      go (no n) =
          let h : 8 * per_sector t ≤ i / per_sector t * per_sector t = mul-le-mul_right (per_sector t) (omega arith) in
          absurd (omega (arith, div-add-mod' i (per_sector t)))

  -- two entries of one metadata sector
  pub entry-apart : (i j : ℕ) → i ≢ j → metadata_of t i ≡ metadata_of t j → Apart (entry_offset t i) (entry_size t) (entry_offset t j) (entry_size t)
  entry-apart i j n e = go (dec_lt (i % per_sector t) (j % per_sector t)) (dec_lt (j % per_sector t) (i % per_sector t))
    where
      step : (x y : ℕ) → x < y → x * entry_size t + entry_size t ≤ y * entry_size t
      step x y l =
          let h : suc x * entry_size t ≤ y * entry_size t = mul-le-mul_right (entry_size t) l in
          let k : suc x * entry_size t ≡ x * entry_size t + entry_size t = suc-mul x (entry_size t) in
          omega arith

      go : Dec (i % per_sector t < j % per_sector t) → Dec (j % per_sector t < i % per_sector t) → Apart (entry_offset t i) (entry_size t) (entry_offset t j) (entry_size t)
      go (yes l) d = before (step (i % per_sector t) (j % per_sector t) l)
      go (no k) (yes l) = behind (step (j % per_sector t) (i % per_sector t) l)
      go (no k) (no l) =
          let o : i % per_sector t ≡ j % per_sector t = omega arith in
          absurd (n (sym (div-add-mod' i (per_sector t)) ∙ ap (λ (q : ℕ). q * per_sector t + i % per_sector t) e
          ∙ ap (λ (r : ℕ). j / per_sector t * per_sector t + r) o ∙ div-add-mod' j (per_sector t)))

-- an entry is read from its own bytes of the metadata sector alone
pub read_entry-part : (t : ℕ) (m : List ℕ) (at : ℕ) (body : List ℕ) → read_entry t (part m at (entry_size t)) 0 body ≡ read_entry t m at body
read_entry-part t m at body =
    let e₁ : part (part m at (entry_size t)) 0 8 ≡ part m (at + 0) 8 = part-part m at (entry_size t) 0 8 (omega arith) in
    let e₂ : part (part m at (entry_size t)) 8 8 ≡ part m (at + 8) 8 = part-part m at (entry_size t) 8 8 (omega arith) in
    let e₃ : part (part m at (entry_size t)) 16 t ≡ part m (at + 16) t = part-part m at (entry_size t) 16 t (omega arith) in
    let z : at + 0 ≡ at = omega arith in
    λ i. record {
      sector = value ((e₁ ∙ ap (λ (x : ℕ). part m x 8) z) i);
      bytes = take 504 body ++ e₂ i;
      tag = e₃ i;
    }

-- an entry's bytes, read back
pub read_entry-bytes : (e : Entry) (t : ℕ) (body : List ℕ) → e.sector < 2 ^ 64 → length e.bytes ≡ 512 → length e.tag ≡ t
    → take 504 body ≡ take 504 e.bytes → read_entry t (entry_bytes t e) 0 body ≡ e
read_entry-bytes e t body l n k b =
    let padded : List ℕ = e.tag ++ replicate (tag_part t - t) 0 in
    let r : length (drop 504 e.bytes) ≡ 8 = simp (length-drop) (omega arith) in
    let e₁ : value (part (entry_bytes t e) 0 8) ≡ e.sector =
    ap value (take_at (le 8 e.sector) (drop 504 e.bytes ++ padded) 8 (length-le 8 e.sector)) ∙ value-le 8 e.sector l in
    let d₁ : drop 8 (entry_bytes t e) ≡ drop 504 e.bytes ++ padded = drop_at (le 8 e.sector) (drop 504 e.bytes ++ padded) 8 (length-le 8 e.sector) in
    let e₂ : part (entry_bytes t e) 8 8 ≡ drop 504 e.bytes = ap (take 8) d₁ ∙ take_at (drop 504 e.bytes) padded 8 r in
    let d₂ : drop 16 (entry_bytes t e) ≡ padded = sym (drop-drop 8 8 (entry_bytes t e)) ∙ ap (drop 8) d₁ ∙ drop_at (drop 504 e.bytes) padded 8 r in
    let e₃ : part (entry_bytes t e) 16 t ≡ e.tag = ap (take t) d₂ ∙ take_at e.tag (replicate (tag_part t - t) 0) t k in
    let e₄ : take 504 body ++ part (entry_bytes t e) 8 8 ≡ e.bytes =
    ap (λ (x : List ℕ). take 504 body ++ x) e₂ ∙ ap (λ (x : List ℕ). x ++ drop 504 e.bytes) b ∙ take-append-drop 504 e.bytes in
    λ i. record { sector = e₁ i; bytes = e₄ i; tag = e₃ i }

-- ---- an entry is put

abbrev meta_new : ℕ → List ℕ → ℕ → Entry → List ℕ
meta_new t st i e = patch (sector_at st (metadata_of t i)) (entry_offset t i) (entry_bytes t e)

abbrev body_new : List ℕ → ℕ → Entry → List ℕ
body_new st i e = take 504 e.bytes ++ drop 504 (sector_at st (8 + i))

abbrev half : ℕ → List ℕ → ℕ → Entry → List ℕ
half t st i e = put_sector st (metadata_of t i) (meta_new t st i e)

module _ (t : ℕ) (pos : 0 < per_sector t) (st : List ℕ) (i : ℕ) (e : Entry) (size : length st ≡ section_size t * 512) (l : i < entry_count t)
    (s64 : e.sector < 2 ^ 64) (b512 : length e.bytes ≡ 512) (tt' : length e.tag ≡ t) where
  eb-length : length (entry_bytes t e) ≡ entry_size t
  eb-length = simp (length-append, length-drop, length-replicate) (omega arith)

  m-low : metadata_of t i < 8
  m-low = entry-low t pos i l

  old-length : length (sector_at st (metadata_of t i)) ≡ 512
  old-length = length_part st (metadata_of t i * 512) 512 (omega (arith, m-low))

  body-length : length (sector_at st (8 + i)) ≡ 512
  body-length = length_part st ((8 + i) * 512) 512 (omega arith)

  new-fits : entry_offset t i + length (entry_bytes t e) ≤ length (sector_at st (metadata_of t i))
  new-fits = omega (arith, entry-fits t pos i, eb-length, old-length)

  new-length : length (patch (sector_at st (metadata_of t i)) (entry_offset t i) (entry_bytes t e)) ≡ 512
  new-length = length-patch (sector_at st (metadata_of t i)) (entry_offset t i) (entry_bytes t e) new-fits ∙ old-length

  new-body-length : length (take 504 e.bytes ++ drop 504 (sector_at st (8 + i))) ≡ 512
  new-body-length = simp (length-append, length-drop, length-take-le 504 e.bytes (omega arith), body-length) (omega arith)

  in₁ : (metadata_of t i + 1) * 512 ≤ length st
  in₁ = omega (arith, m-low)

  length₁ : length (half t st i e) ≡ length st
  length₁ = length-put st (metadata_of t i) (meta_new t st i e) new-length in₁

  in₂ : (8 + i + 1) * 512 ≤ length (half t st i e)
  in₂ = rw length₁ (omega arith)

  pub length-put_entry : length (put_entry t st i e) ≡ length st
  length-put_entry = length-put (half t st i e) (8 + i) (body_new st i e) new-body-length in₂ ∙ length₁

  -- the metadata sectors and the data sectors afterwards
  meta-same : sector_at (put_entry t st i e) (metadata_of t i) ≡ patch (sector_at st (metadata_of t i)) (entry_offset t i) (entry_bytes t e)
  meta-same =
      sector-put-other (half t st i e) (8 + i) (body_new st i e) new-body-length in₂ (metadata_of t i) (omega (arith, m-low))
      ∙ sector-put-same st (metadata_of t i) (meta_new t st i e) new-length in₁

  meta-other : (j : ℕ) → j < 8 → j ≢ metadata_of t i → sector_at (put_entry t st i e) j ≡ sector_at st j
  meta-other j k n =
      sector-put-other (half t st i e) (8 + i) (body_new st i e) new-body-length in₂ j (omega arith)
      ∙ sector-put-other st (metadata_of t i) (meta_new t st i e) new-length in₁ j n

  data-same : sector_at (put_entry t st i e) (8 + i) ≡ take 504 e.bytes ++ drop 504 (sector_at st (8 + i))
  data-same = sector-put-same (half t st i e) (8 + i) (body_new st i e) new-body-length in₂

  data-other : (j : ℕ) → j ≢ i → sector_at (put_entry t st i e) (8 + j) ≡ sector_at st (8 + j)
  data-other j n =
      sector-put-other (half t st i e) (8 + i) (body_new st i e) new-body-length in₂ (8 + j) (omega arith)
      ∙ sector-put-other st (metadata_of t i) (meta_new t st i e) new-length in₁ (8 + j) (omega (arith, m-low))

  pub entry_of-put-same : entry_of t (put_entry t st i e) i ≡ e
  unfolding entry_of
  entry_of-put-same =
      rw (meta-same, data-same)
      (sym (read_entry-part t (meta_new t st i e) (entry_offset t i) (body_new st i e))
      ∙ ap (λ (x : List ℕ). read_entry t x 0 (take 504 e.bytes ++ drop 504 (sector_at st (8 + i))))
      (part-patch-same (sector_at st (metadata_of t i)) (entry_offset t i) (entry_bytes t e) new-fits (entry_size t) (sym eb-length))
      ∙ read_entry-bytes e t (body_new st i e) s64 b512 tt' (take_at (take 504 e.bytes) (drop 504 (sector_at st (8 + i))) 504 (length-take-le 504 e.bytes (omega arith))))

  pub entry_of-put-other : (j : ℕ) → j < entry_count t → j ≢ i → entry_of t (put_entry t st i e) j ≡ entry_of t st j
  unfolding entry_of
  entry_of-put-other j k n = go (ℕ_discrete (metadata_of t j) (metadata_of t i))
    where
      near : metadata_of t j ≡ metadata_of t i
          → part (patch (sector_at st (metadata_of t i)) (entry_offset t i) (entry_bytes t e)) (entry_offset t j) (entry_size t) ≡ part (sector_at st (metadata_of t i)) (entry_offset t j) (entry_size t)
      near q = part_apart (sector_at st (metadata_of t i)) (entry_offset t i) (entry_bytes t e) (entry_offset t j) (entry_size t) new-fits
          (subst (λ (x : ℕ). Apart (entry_offset t j) (entry_size t) (entry_offset t i) x) (sym eb-length) (entry-apart t pos j i n q))

      go : Dec (metadata_of t j ≡ metadata_of t i) → entry_of t (put_entry t st i e) j ≡ entry_of t st j
      go (yes q) =
          rw (data-other j n, q, meta-same)
          (sym (read_entry-part t (meta_new t st i e) (entry_offset t j) (sector_at st (8 + j)))
          ∙ ap (λ (x : List ℕ). read_entry t x 0 (sector_at st (8 + j))) (near q)
          ∙ read_entry-part t (sector_at st (metadata_of t i)) (entry_offset t j) (sector_at st (8 + j)))
      go (no q) = rw (data-other j n, meta-other (metadata_of t j) (entry-low t pos j k) q)

-- a section whose sectors are those of st with an id put in has st's entries
pub entry-stamped : (t : ℕ) (pos : 0 < per_sector t) (sec st : List ℕ) (n : ℕ) → length st ≡ section_size t * 512
    → ((j : ℕ) → j < section_size t → sector_at sec j ≡ with_id (sector_at st j) n)
    → (i : ℕ) → i < entry_count t → entry_of t sec i ≡ entry_of t st i
unfolding entry_of
entry-stamped t pos sec st n size e i l =
    let ml : metadata_of t i < 8 = entry-low t pos i l in
    let m512 : length (sector_at st (metadata_of t i)) ≡ 512 = length_part st (metadata_of t i * 512) 512 (omega arith) in
    let d512 : length (sector_at st (8 + i)) ≡ 512 = length_part st ((8 + i) * 512) 512 (omega arith) in
    let fits = entry-fits t pos i in
    ap (λ (x : List ℕ). read_entry t x (entry_offset t i) (sector_at sec (8 + i))) (e (metadata_of t i) (omega arith))
    ∙ sym (read_entry-part t (with_id (sector_at st (metadata_of t i)) n) (entry_offset t i) (sector_at sec (8 + i)))
    ∙ ap (λ (x : List ℕ). read_entry t x 0 (sector_at sec (8 + i))) (part-with_id (sector_at st (metadata_of t i)) n m512 (entry_offset t i) (entry_size t) (omega arith))
    ∙ read_entry-part t (sector_at st (metadata_of t i)) (entry_offset t i) (sector_at sec (8 + i))
    ∙ same_body (e (8 + i) (omega arith)) d512
  where
    same_body : sector_at sec (8 + i) ≡ with_id (sector_at st (8 + i)) n → length (sector_at st (8 + i)) ≡ 512
        → read_entry t (sector_at st (metadata_of t i)) (entry_offset t i) (sector_at sec (8 + i)) ≡ read_entry t (sector_at st (metadata_of t i)) (entry_offset t i) (sector_at st (8 + i))
    same_body q d =
        λ k. record {
          sector = value (part (sector_at st (metadata_of t i)) (entry_offset t i) 8);
          bytes = (ap (take 504) q ∙ take-with_id (sector_at st (8 + i)) n d) k ++ part (sector_at st (metadata_of t i)) (entry_offset t i + 8) 8;
          tag = part (sector_at st (metadata_of t i)) (entry_offset t i + 16) t;
        }

-- ---- chunks of one length, and the empty section

module _ (f : ℕ → List ℕ) (z : ℕ) where
  pub length-collect : (n : ℕ) → ((i : ℕ) → i < n → length (f i) ≡ z) → length (collect n f) ≡ n * z
  length-collect zero h = omega arith
  length-collect (suc n) h =
      length-append (collect n f) (f n)
      ∙ rw (length-collect n (λ i l. h i (omega arith)), h n (omega arith)) (sym (suc-mul n z))

  pub part-collect : (n : ℕ) → ((i : ℕ) → i < n → length (f i) ≡ z) → (q : ℕ) → q < n → part (collect n f) (q * z) z ≡ f q
  part-collect zero h q l = absurd (omega arith)
  part-collect (suc n) h q l = go (part-collect n (λ i k. h i (omega arith)) q) (dec_lt q n)
    where
      len : length (collect n f) ≡ n * z
      len = length-collect n (λ i k. h i (omega arith))

      go : (q < n → part (collect n f) (q * z) z ≡ f q) → Dec (q < n) → part (collect n f ++ f n) (q * z) z ≡ f q
      go ih (yes k) =
          let a : suc q * z ≤ n * z = mul-le-mul_right z k in
          let b : suc q * z ≡ q * z + z = suc-mul q z in
          part-append-left (collect n f) (f n) (q * z) z (omega (arith, len)) ∙ ih k
      go ih (no k) =
          let e : n ≡ q = omega arith in
          let d : length (collect n f) ≡ q * z = len ∙ ap (λ (x : ℕ). x * z) e in
          rw (drop_at (collect n f) (f n) (q * z) d) (take_all z (f n) (omega (arith, h n (omega arith))) ∙ ap f e)

module _ (t : ℕ) (pos : 0 < per_sector t) where
  empty-entry-length : length (empty_entry t) ≡ entry_size t
  empty-entry-length = simp length-replicate (omega arith)

  per-fits : entry_size t * per_sector t ≤ 496
  per-fits =
      let d : 496 / entry_size t * entry_size t + 496 % entry_size t ≡ 496 = div-add-mod' 496 (entry_size t) in
      let c : entry_size t * per_sector t ≡ per_sector t * entry_size t = mul_comm (entry_size t) (per_sector t) in
      omega arith

  meta : List ℕ
  meta = collect (per_sector t) (λ i. empty_entry t) ++ replicate (512 - entry_size t * per_sector t) 0

  meta-chunks : length (collect (per_sector t) (λ i. empty_entry t)) ≡ per_sector t * entry_size t
  meta-chunks = length-collect (λ i. empty_entry t) (entry_size t) (per_sector t) (λ i l. empty-entry-length)

  empty-sector-length : (j : ℕ) → length (empty_sector t j) ≡ 512
  empty-sector-length j = go (ltb j 8)
    where
      go : (b : Bool) → length (pick b (collect (per_sector t) (λ i. empty_entry t) ++ replicate (512 - entry_size t * per_sector t) 0) (replicate 512 0)) ≡ 512
      go true =
          length-append (collect (per_sector t) (λ i. empty_entry t)) (replicate (512 - entry_size t * per_sector t) 0)
          ∙ rw (meta-chunks, length-replicate {A = ℕ} (512 - entry_size t * per_sector t) 0) (omega (arith, per-fits, mul_comm (entry_size t) (per_sector t)))
      go false = length-replicate {A = ℕ} 512 0

  pub length-empty : length (empty_section t) ≡ section_size t * 512
  unfolding empty_section
  length-empty = length-collect (empty_sector t) 512 (section_size t) (λ j l. empty-sector-length j)

  empty-at : (j : ℕ) → j < section_size t → sector_at (empty_section t) j ≡ empty_sector t j
  unfolding empty_section
  empty-at j l = part-collect (empty_sector t) 512 (section_size t) (λ i k. empty-sector-length i) j l

  pub empty-unused : (i : ℕ) → i < entry_count t → (entry_of t (empty_section t) i).sector ≡ unused
  unfolding entry_of
  empty-unused i l =
      let ml : metadata_of t i < 8 = entry-low t pos i l in
      let e₁ : sector_at (empty_section t) (metadata_of t i) ≡ empty_sector t (metadata_of t i) = empty-at (metadata_of t i) (omega arith) in
      let e₂ : empty_sector t (metadata_of t i) ≡ collect (per_sector t) (λ i. empty_entry t) ++ replicate (512 - entry_size t * per_sector t) 0 =
      rw (lt-ltb (metadata_of t i) 8 ml) in
      let a : suc (i % per_sector t) * entry_size t ≤ per_sector t * entry_size t = mul-le-mul_right (entry_size t) (mod-lt i pos) in
      let b : suc (i % per_sector t) * entry_size t ≡ i % per_sector t * entry_size t + entry_size t = suc-mul (i % per_sector t) (entry_size t) in
      let z : entry_offset t i + 0 ≡ entry_offset t i = omega arith in
      let e₃ : part (collect (per_sector t) (λ i. empty_entry t)) (entry_offset t i) (entry_size t) ≡ empty_entry t =
      part-collect (λ i. empty_entry t) (entry_size t) (per_sector t) (λ i k. empty-entry-length) (i % per_sector t) (mod-lt i pos) in
      let e₄ : part (collect (per_sector t) (λ i. empty_entry t)) (entry_offset t i) 8 ≡ part (empty_entry t) 0 8 =
      sym (part-part (collect (per_sector t) (λ i. empty_entry t)) (entry_offset t i) (entry_size t) 0 8 (omega arith) ∙ ap (λ (x : ℕ). part (collect (per_sector t) (λ i. empty_entry t)) x 8) z)
      ∙ ap (λ (x : List ℕ). part x 0 8) e₃ in
      ap value (ap (λ (x : List ℕ). part x (entry_offset t i) 8) (e₁ ∙ e₂)
      ∙ part-append-left (collect (per_sector t) (λ i. empty_entry t)) (replicate (512 - entry_size t * per_sector t) 0) (entry_offset t i) 8 (omega (arith, meta-chunks))
      ∙ e₄ ∙ take_at (le 8 unused) (replicate (8 + tag_part t) 0) 8 (length-le 8 unused))
      ∙ value-le 8 unused (omega arith)

-- ---- an entry that is read from a section has all its bytes

module _ (t i : ℕ) (small : t ≤ 32) (l : i < entry_count t) (sec : List ℕ) (size : length sec ≡ section_size t * 512) where
  pos : 0 < per_sector t
  pos = per_pos t (omega arith)

  sector-length : (j : ℕ) → j < section_size t → length (sector_at sec j) ≡ 512
  sector-length j h = length_part sec (j * 512) 512 (omega arith)

  metadata-length : length (sector_at sec (metadata_of t i)) ≡ 512
  metadata-length = sector-length (metadata_of t i) (omega (arith, entry-low t pos i l))

  pub bytes-length : length (entry_of t sec i).bytes ≡ 512
  unfolding entry_of
  bytes-length =
      let low : length (take 504 (sector_at sec (8 + i))) ≡ 504 = length-take-le 504 (sector_at sec (8 + i)) (omega (arith, sector-length (8 + i) (omega arith))) in
      let high : length (part (sector_at sec (metadata_of t i)) (entry_offset t i + 8) 8) ≡ 8 =
      length_part (sector_at sec (metadata_of t i)) (entry_offset t i + 8) 8 (omega (arith, entry-fits t pos i, metadata-length)) in
      length-append (take 504 (sector_at sec (8 + i))) (part (sector_at sec (metadata_of t i)) (entry_offset t i + 8) 8) ∙ omega arith

  pub tag-length : length (entry_of t sec i).tag ≡ t
  unfolding entry_of
  tag-length = length_part (sector_at sec (metadata_of t i)) (entry_offset t i + 16) t (omega (arith, entry-fits t pos i, metadata-length))
