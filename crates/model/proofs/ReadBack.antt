-- A batch that is written to a section is read back as that batch.
use Prim.Native.Nat.{ℕ, zero, suc, ◌+◌, ◌*◌, ◌^◌, ◌≤◌, ◌<◌}
use mathlib.Core.Path.{◌≡◌, refl, sym, ap, ◌∙◌}
use mathlib.Core.Logic.{◌≢◌}
use mathlib.Core.List.{List, [], ◌∷◌, ◌++◌, append-nil}
use native.Mathlib.Nat.{add-zero}
use native.Mathlib.Decide.{dec_lt}
use native.Mathlib.Omega.{arith}
use lib.ListN.{length, get_or, take}
use lib.Seq.{take-suc, take_all, length-take-le}
use borrow.Author.Tests.{eq-eqb, ne_eqb}
use Rattle.octets.specs.Sectors.{sector_at}
use Rattle.on_disk.specs.declared.Layout.{Layout}
use Rattle.on_disk.specs.Layout.{per_sector, entry_count, section_size}
use Rattle.on_disk.specs.Section.{Entry, unused, id_of, entry_of, put_entry, empty_section}
use Rattle.octets.specs.Lists.{collect}
use Rattle.model.specs.Journal.{whole_id, sealed, used_entry, used_of}
use Rattle.model.specs.ReadBack.{Sized, AllSized, put_batch, sealed_section, numbered, ReadBack}
use Rattle.on_disk.proofs.Addresses.{ranged}
use Rattle.on_disk.proofs.Sections.{per_pos, length-put_entry, entry_of-put-same, entry_of-put-other, part-collect, length-empty, empty-unused}
use Rattle.model.proofs.Journals.{whole-all, length-sealed, id-sealed, entry-sealed}

-- what stands past the end of a batch
abbrev no_entry : Entry
no_entry = record { sector = 0; bytes = []; tag = [] }

numbered-append : (k i : ℕ) (es fs : List Entry) → numbered k i (es ++ fs) ≡ numbered k i es ++ numbered k (i + length es) fs
numbered-append k i [] fs = ap (λ (n : ℕ). numbered k n fs) (sym (add-zero i))
numbered-append k i (e ∷ es) fs =
    let n : suc i + length es ≡ i + suc (length es) = omega arith in
    rw (numbered-append k (suc i) es fs, n)

sized-get : (t : ℕ) (es : List Entry) (a : ℕ) → a < length es → AllSized t es → Sized t (get_or es a no_entry)
sized-get t [] a l q = absurd (omega arith)
sized-get t (e ∷ es) zero l q = q.0
sized-get t (e ∷ es) (suc a) l q = sized-get t es a (omega arith) q.1

-- ---- the entries of a staged batch

module _ (t : ℕ) (pos : 0 < per_sector t) where
  module _ (st : List ℕ) (i : ℕ) (e : Entry) (z : length st ≡ section_size t * 512) (l : i < entry_count t) (S : Sized t e) where
    s64 : e.sector < 2 ^ 64
    s64 = omega (arith, S.sector)

    put-length : length (put_entry t st i e) ≡ section_size t * 512
    put-length = length-put_entry t pos st i e z l s64 S.bytes S.tag ∙ z

    put_same : entry_of t (put_entry t st i e) i ≡ e
    put_same = entry_of-put-same t pos st i e z l s64 S.bytes S.tag

    put_other : (j : ℕ) → j < entry_count t → j ≢ i → entry_of t (put_entry t st i e) j ≡ entry_of t st j
    put_other = entry_of-put-other t pos st i e z l s64 S.bytes S.tag

  batch-length : (es : List Entry) (st : List ℕ) (i : ℕ) → length st ≡ section_size t * 512 → i + length es ≤ entry_count t → AllSized t es
      → length (put_batch t st i es) ≡ section_size t * 512
  batch-length [] st i z l q = z
  batch-length (e ∷ es) st i z l q = batch-length es (put_entry t st i e) (suc i) (put-length st i e z (omega arith) q.0) (omega arith) q.1

  -- entries before and behind the batch
  batch-other : (es : List Entry) (st : List ℕ) (i : ℕ) → length st ≡ section_size t * 512 → i + length es ≤ entry_count t → AllSized t es
      → (j : ℕ) → j < entry_count t → ((a : ℕ) → a < length es → j ≢ i + a) → entry_of t (put_batch t st i es) j ≡ entry_of t st j
  batch-other [] st i z l q j h n = refl
  batch-other (e ∷ es) st i z l q j h n =
      let here : j ≢ i = λ x. n 0 (omega arith) (x ∙ sym (add-zero i)) in
      batch-other es (put_entry t st i e) (suc i) (put-length st i e z (omega arith) q.0) (omega arith) q.1 j h (λ a b x. n (suc a) (omega arith) (omega arith))
      ∙ put_other st i e z (omega arith) q.0 j h here

  -- entries of the batch
  batch-at : (es : List Entry) (st : List ℕ) (i : ℕ) → length st ≡ section_size t * 512 → i + length es ≤ entry_count t → AllSized t es
      → (a : ℕ) → a < length es → entry_of t (put_batch t st i es) (i + a) ≡ get_or es a no_entry
  batch-at [] st i z l q a b = absurd (omega arith)
  batch-at (e ∷ es) st i z l q zero b =
      let n : i + 0 ≡ i = omega arith in
      rw n
      (batch-other es (put_entry t st i e) (suc i) (put-length st i e z (omega arith) q.0) (omega arith) q.1 i (omega arith) (λ c d. omega arith)
      ∙ put_same st i e z (omega arith) q.0)
  batch-at (e ∷ es) st i z l q (suc a) b =
      let n : i + suc a ≡ suc i + a = omega arith in
      rw n (batch-at es (put_entry t st i e) (suc i) (put-length st i e z (omega arith) q.0) (omega arith) q.1 a (omega arith))

-- ---- the section that committing stores

module _ (g : Layout) (pos : 0 < per_sector g.width) (es : List Entry) (l : length es ≤ entry_count g.width) (q : AllSized g.width es) (n : ℕ) (n64 : n < 2 ^ 64) where
  abbrev t : ℕ
  t = g.width

  staging : List ℕ
  staging = put_batch t (empty_section t) 0 es

  section : List ℕ
  section = sealed_section g staging n

  staging-length : length staging ≡ section_size t * 512
  unfolding staging
  staging-length = batch-length t pos es (empty_section t) 0 (length-empty t pos) (omega arith) q

  sector : (j : ℕ) → j < section_size t → sector_at section j ≡ sealed g staging n j
  unfolding section
  sector j h = part-collect (sealed g staging n) 512 (section_size t) (λ i k. length-sealed g staging n i staging-length k) j h

  whole : whole_id t section ≡ n
  whole = whole-all t section n (λ j h. ap id_of (sector j h) ∙ id-sealed g staging n j staging-length h n64)

  entry : (i : ℕ) → i < entry_count t → entry_of t section i ≡ entry_of t staging i
  entry = entry-sealed g pos section staging n staging-length sector

  used-at : (k m : ℕ) → m < length es → used_entry k m (entry_of t section m) ≡ record { section = k; index = m; entry = get_or es m no_entry } ∷ []
  unfolding staging
  used-at k m h =
      let z : 0 + m ≡ m = omega arith in
      let e : entry_of t section m ≡ get_or es m no_entry =
      entry m (omega arith) ∙ (rw z at (batch-at t pos es (empty_section t) 0 (length-empty t pos) (omega arith) q m h)) in
      rw (e, ne_eqb (get_or es m no_entry).sector unused (omega (arith, (sized-get t es m h q).sector)))

  unused-at : (k m : ℕ) → length es ≤ m → m < entry_count t → used_entry k m (entry_of t section m) ≡ []
  unfolding staging
  unused-at k m h b =
      let e : (entry_of t section m).sector ≡ unused =
      ap (λ (x : Entry). x.sector) (entry m b ∙ batch-other t pos es (empty_section t) 0 (length-empty t pos) (omega arith) q m b (λ a c. omega arith))
      ∙ empty-unused t pos m b in
      rw (eq-eqb (entry_of t section m).sector unused e)

  -- the used ones of the first m entries
  used-front : (k m : ℕ) → m ≤ entry_count t → collect m (λ i. used_entry k i (entry_of t section i)) ≡ numbered k 0 (take m es)
  used-front k zero h = refl
  used-front k (suc m) h = go (used-front k m (omega arith)) (dec_lt m (length es))
    where
      go : collect m (λ i. used_entry k i (entry_of t section i)) ≡ numbered k 0 (take m es) → Dec (m < length es)
          → collect (suc m) (λ i. used_entry k i (entry_of t section i)) ≡ numbered k 0 (take (suc m) es)
      go ih (yes b) =
          let z : 0 + length (take m es) ≡ m = omega (arith, length-take-le m es (omega arith)) in
          rw (ih, used-at k m b, take-suc es m no_entry b, numbered-append k 0 (take m es) (get_or es m no_entry ∷ []), z)
      go ih (no b) =
          rw (ih, unused-at k m (omega arith) h, take_all m es (omega arith), take_all (suc m) es (omega arith)) (append-nil (numbered k 0 es))

  used : (k : ℕ) → used_of t k section ≡ numbered k 0 es
  used k = used-front k (entry_count t) (omega arith) ∙ ap (numbered k 0) (take_all (entry_count t) es l)

  pub read : (k : ℕ) → (whole_id t (sealed_section g (put_batch t (empty_section t) 0 es) n) ≡ n) × (used_of t k (sealed_section g (put_batch t (empty_section t) 0 es) n) ≡ numbered k 0 es)
  unfolding section staging
  read k = (whole, used k)

pub read_back : ReadBack
read_back g ok es l q k n z n64 = read g (per_pos g.width (omega (arith, (ranged g ok).t.bound))) es l q n n64 k
