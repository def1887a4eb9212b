-- Format: chunks of one length that are stored one after the other; a run; the whole volume.
use Prim.Native.Nat.{ℕ, suc, ◌+◌, ◌-◌, ◌*◌, ◌/◌, ◌%◌, ◌^◌, ◌≤◌, ◌<◌}
use mathlib.Core.Bool.{true, false}
use mathlib.Core.List.{List, [], ◌∷◌, ◌++◌, append_assoc}
use mathlib.Core.Path.{◌≡◌, sym, ap, ◌∙◌}
use native.Mathlib.Nat.{mul-le-mul_right, mul-le-mul_left, mul_assoc, suc-mul, mod-lt, div-le_self}
use native.Mathlib.Numerals.{add-one}
use native.Mathlib.Omega.{arith}
use lib.ListN.{length, take, drop, replicate, length-append, length-replicate, take-append-drop}
use lib.Seq.{drop-drop}
use borrow.Author.Tests.{lt-ltb, le-ltb}
use Rattle.octets.specs.Answer.{refuse}
use Rattle.octets.specs.Parts.{patch}
use Rattle.octets.specs.Sectors.{sector_size}
use Rattle.octets.proofs.Parts.{patch-join}
use Rattle.on_disk.specs.declared.Layout.{Layout}
use Rattle.on_disk.specs.Layout.{most_provided, section_size, section_at, base, run_length, tag_area, needed, layout_ok}
use Rattle.on_disk.specs.Superblock.{superblock_of, superblock_at, is_zero}
use Rattle.model.specs.State.{passed, volume_loan_ok}
use Rattle.on_disk.proofs.Addresses.{Ranged, ranged, base-room}
use Rattle.model.proofs.Formats.{super-length}
use Rattle.octets.specs.Lists.{collect}
use Rattle.model.specs.Tag.{Tag, Tags}
use Rattle.model.specs.Format.{zeros, fresh_tags, fresh_run, last_run, last_length, fresh_volume, FormatResult, format_of}
use Rattle.model.specs.Keyed.{format_keyed_of}
use Rattle.model.proofs.Keyed.{keyed-calls}
use Rattle.hmac.specs.Hmac.{key_ok}
use Rattle.sound.specs.declared.tag.Rule.{Rule}
use Rattle.sound.specs.Rule.{tag_by, keyed_of}
use Rattle.sound.proofs.Rules.{keyed-tags}
use Rattle.on_disk.proofs.Sections.{length-collect}
use Rattle.layout.proofs.Sizes.{width-high, provided-high, run-low, run-high}

-- chunk i of n lies inside all of them
pub chunk-fits : (z i n : ℕ) → i < n → i * z + z ≤ n * z
chunk-fits z i n l =
    let a : suc i * z ≤ n * z = mul-le-mul_right z l in
    omega (arith, suc-mul i z)

pub patch-nil : (v : List ℕ) (at : ℕ) → v ≡ patch v at []
patch-nil v at =
    let z : at + 0 ≡ at = omega arith in
    sym (take-append-drop at v) ∙ ap (λ (k : ℕ). take at v ++ drop k v) (sym z)

-- one chunk more
pub chunk-turn : (f : ℕ → List ℕ) (z : ℕ) (v₀ v : List ℕ) (at i : ℕ) (x r : List ℕ) → ((j : ℕ) → length (f j) ≡ z) → at + (i * z + z) ≤ length v₀
    → v ≡ patch v₀ at (collect i f) → x ≡ f i → r ≡ patch v (at + i * z) x → r ≡ patch v₀ at (collect (i + 1) f)
chunk-turn f z v₀ v at i x r size fits ev ex er =
    let front : length (collect i f) ≡ i * z = length-collect f z i (λ j l. size j) in
    let last : length (f i) ≡ z = size i in
    let place : at + i * z ≡ at + length (collect i f) = omega arith in
    rw (er, ev, ex, place, patch-join v₀ at (collect i f) (f i) (omega arith), add-one)

-- ---- a run

module _ (g : Layout) (ok : layout_ok g ≡ true) where
  -- the tags of a run fit its tag area
  pub tags-room : (n : ℕ) → n ≤ run_length g → n * g.width ≤ tag_area g * 512
  tags-room n h = omega (arith, mul-le-mul_right g.width h)

  pub tags-high : (n : ℕ) → n ≤ run_length g → n * g.width ≤ 2 ^ 20
  tags-high n h =
      let a : n * g.width ≤ run_length g * g.width = mul-le-mul_right g.width h in
      let b : run_length g * g.width ≤ run_length g * 32 = mul-le-mul_left (run_length g) (width-high g ok) in
      omega (arith, run-high g ok)

  pub first-high : (q m : ℕ) → q ≤ most_provided → m ≡ run_length g → q * m ≤ 2 ^ 31
  first-high q m h e =
      let a : q * m ≤ most_provided * m = mul-le-mul_right m h in
      omega (arith, run-high g ok)

-- with tags of T bytes
module _ (tag : Tag) (g : Layout) (ok : layout_ok g ≡ true) (sized : (s : ℕ) (b : List ℕ) → length (tag s b) ≡ g.width) where
  -- tags, zeros to the end of the tag area, zero data: one patch
  pub run-stored : (q n at : ℕ) (v v₁ v₂ r : List ℕ) (first area : ℕ) → n ≤ run_length g → at + (tag_area g + n) * 512 ≤ length v
      → first ≡ q * run_length g → area ≡ tag_area g * 512
      → v₁ ≡ patch v at (collect n (λ i. tag (first + i) (zeros sector_size)))
      → v₂ ≡ patch v₁ (at + n * g.width) (replicate (area - n * g.width) 0) → r ≡ patch v₂ (at + area) (replicate (n * 512) 0)
      → r ≡ patch v at (fresh_run tag g q n)
  run-stored q n at v v₁ v₂ r first area h fits ef ea e₁ e₂ er =
      let T : List ℕ = fresh_tags tag g q n in
      let Z : List ℕ = zeros (tag_area g * 512 - n * g.width) in
      let D : List ℕ = zeros (n * 512) in
      let t : length (fresh_tags tag g q n) ≡ n * g.width =
      length-collect (λ i. tag (q * run_length g + i) (zeros sector_size)) g.width n
      (λ i l. sized (q * run_length g + i) (zeros sector_size)) in
      let z : length (zeros (tag_area g * 512 - n * g.width)) ≡ tag_area g * 512 - n * g.width = length-replicate (tag_area g * 512 - n * g.width) 0 in
      let d : length (zeros (n * 512)) ≡ n * 512 = length-replicate (n * 512) 0 in
      let room : n * g.width ≤ tag_area g * 512 = tags-room g ok n h in
      let a₁ : at + n * g.width ≡ at + length (fresh_tags tag g q n) = omega arith in
      let both : length (fresh_tags tag g q n ++ zeros (tag_area g * 512 - n * g.width)) ≡ tag_area g * 512 =
      omega (arith, length-append (fresh_tags tag g q n) (zeros (tag_area g * 512 - n * g.width))) in
      let a₂ : at + tag_area g * 512 ≡ at + length (fresh_tags tag g q n ++ zeros (tag_area g * 512 - n * g.width)) = omega arith in
      let j₁ : patch (patch v at (fresh_tags tag g q n)) (at + length (fresh_tags tag g q n)) (zeros (tag_area g * 512 - n * g.width))
      ≡ patch v at (fresh_tags tag g q n ++ zeros (tag_area g * 512 - n * g.width)) =
      patch-join v at (fresh_tags tag g q n) (zeros (tag_area g * 512 - n * g.width)) (omega arith) in
      let j₂ = patch-join v at (fresh_tags tag g q n ++ zeros (tag_area g * 512 - n * g.width)) (zeros (n * 512)) (omega arith) in
      rw (er, e₂, e₁, ef, ea, a₁, j₁, a₂, j₂) (ap (patch v at) (append_assoc (fresh_tags tag g q n) (zeros (tag_area g * 512 - n * g.width)) (zeros (n * 512))))

  pub run-size : (q n : ℕ) → n ≤ run_length g → length (fresh_run tag g q n) ≡ (tag_area g + n) * 512
  run-size q n h =
      let t : length (fresh_tags tag g q n) ≡ n * g.width =
      length-collect (λ i. tag (q * run_length g + i) (zeros sector_size)) g.width n
      (λ i l. sized (q * run_length g + i) (zeros sector_size)) in
      let z : length (zeros (tag_area g * 512 - n * g.width)) ≡ tag_area g * 512 - n * g.width = length-replicate (tag_area g * 512 - n * g.width) 0 in
      let d : length (zeros (n * 512)) ≡ n * 512 = length-replicate (n * 512) 0 in
      omega (
        arith,
        tags-room g ok n h,
        length-append (fresh_tags tag g q n) (zeros (tag_area g * 512 - n * g.width) ++ zeros (n * 512)),
        length-append (zeros (tag_area g * 512 - n * g.width)) (zeros (n * 512)),
      )

-- ---- the whole volume

-- what a call leaves that was lent the k bytes from at on
pub part-back : (v : List ℕ) (at k : ℕ) (s : List ℕ) → length s ≡ k → take at v ++ (s ++ drop k (drop at v)) ≡ patch v at s
part-back v at k s e = rw (drop-drop, e)

module _ (g : Layout) (ok : layout_ok g ≡ true) (v : List ℕ) (room : needed g * 512 ≤ length v) where
  R : Ranged g
  R = ranged g ok

  -- the superblock, then zeros up to the runs
  pub head-stored : (s v₁ r : List ℕ) (start journal end : ℕ) → start ≡ g.reserved * 512 → journal ≡ section_at g 0 * 512 → end ≡ base g * 512
      → s ≡ superblock_of g → v₁ ≡ take start v ++ (s ++ drop (journal - start) (drop start v)) → r ≡ patch v₁ journal (replicate (end - journal) 0)
      → r ≡ patch v (g.reserved * 512) (superblock_of g ++ zeros (g.sections * section_size g.width * 512))
  head-stored s v₁ r start journal end es ej ee eb e₁ er =
      let size : length (superblock_of g) ≡ 4096 = super-length g in
      let k : journal - start ≡ 4096 = omega arith in
      let z : end - journal ≡ g.sections * section_size g.width * 512 = omega arith in
      let n : length (zeros (g.sections * section_size g.width * 512)) ≡ g.sections * section_size g.width * 512 = length-replicate (g.sections * section_size g.width * 512) 0 in
      let one : v₁ ≡ patch v (g.reserved * 512) (superblock_of g) = e₁ ∙ rw (k, es, eb) (part-back v (g.reserved * 512) 4096 (superblock_of g) size) in
      let j : journal ≡ g.reserved * 512 + length (superblock_of g) = omega arith in
      rw (er, one, z, j) (patch-join v (g.reserved * 512) (superblock_of g) (zeros (g.sections * section_size g.width * 512)) (omega (arith, base-room g R)))

  -- the full runs and the last one fit
  runs-bytes : last_run g * ((tag_area g + run_length g) * 512) ≡ last_run g * (tag_area g + run_length g) * 512
  runs-bytes = sym (mul_assoc (last_run g) (tag_area g + run_length g) 512)

  pub last-short : last_length g ≤ run_length g
  last-short = omega (arith, mod-lt (g.provided - 1) (run-low g ok))

  pub last-low : last_run g ≤ most_provided
  last-low = omega (arith, div-le_self (g.provided - 1) (run_length g), provided-high g ok)

  pub runs_fit : base g * 512 + last_run g * ((tag_area g + run_length g) * 512) + (tag_area g + last_length g) * 512 ≤ length v
  runs_fit = omega (arith, runs-bytes)

  -- in terms of what the code computes
  module _ (sectors area : ℕ) (es : sectors ≡ run_length g) (ea : area ≡ tag_area g) where
    pub last-is : (g.provided - 1) / sectors ≡ last_run g
    last-is = ap (λ (x : ℕ). (g.provided - 1) / x) es

    pub length-is : (g.provided - 1) % sectors + 1 ≡ last_length g
    length-is = ap (λ (x : ℕ). (g.provided - 1) % x + 1) es

    pub size_is : (area + sectors) * 512 ≡ (tag_area g + run_length g) * 512
    size_is = omega arith

    pub offset-is : (g.provided - 1) / sectors * ((area + sectors) * 512) ≡ last_run g * ((tag_area g + run_length g) * 512)
    offset-is = ap (λ (x : ℕ). x * ((area + sectors) * 512)) last-is ∙ ap (λ (x : ℕ). last_run g * x) size_is

  pub tail-stored : (tag : Tag) → ((s : ℕ) (b : List ℕ) → length (tag s b) ≡ g.width) → (v₁ r : List ℕ) (start place : ℕ) → start ≡ base g * 512 → place ≡ start + last_run g * ((tag_area g + run_length g) * 512)
      → v₁ ≡ patch v start (collect (last_run g) (λ q. fresh_run tag g q (run_length g)))
      → r ≡ patch v₁ place (fresh_run tag g (last_run g) (last_length g))
      → r ≡ patch v (base g * 512) (collect (last_run g) (λ q. fresh_run tag g q (run_length g)) ++ fresh_run tag g (last_run g) (last_length g))
  tail-stored tag sized v₁ r start place es ep e₁ er =
      let full : length (collect (last_run g) (λ q. fresh_run tag g q (run_length g))) ≡ last_run g * ((tag_area g + run_length g) * 512) =
      length-collect (λ q. fresh_run tag g q (run_length g)) ((tag_area g + run_length g) * 512) (last_run g) (λ q l. run-size tag g ok sized q (run_length g) (omega arith)) in
      let last : length (fresh_run tag g (last_run g) (last_length g)) ≡ (tag_area g + last_length g) * 512 = run-size tag g ok sized (last_run g) (last_length g) last-short in
      let p : place ≡ base g * 512 + length (collect (last_run g) (λ q. fresh_run tag g q (run_length g))) = omega arith in
      rw (er, e₁, es, p)
      (patch-join v (base g * 512) (collect (last_run g) (λ q. fresh_run tag g q (run_length g))) (fresh_run tag g (last_run g) (last_length g)) (omega (arith, runs_fit)))

  pub all-stored : (tag : Tag) → ((s : ℕ) (b : List ℕ) → length (tag s b) ≡ g.width) → (v₁ r : List ℕ) → v₁ ≡ patch v (g.reserved * 512) (superblock_of g ++ zeros (g.sections * section_size g.width * 512))
      → r ≡ patch v₁ (base g * 512) (collect (last_run g) (λ q. fresh_run tag g q (run_length g)) ++ fresh_run tag g (last_run g) (last_length g))
      → r ≡ fresh_volume tag g v
  unfolding fresh_volume
  all-stored tag sized v₁ r e₁ er =
      let H : List ℕ = superblock_of g ++ zeros (g.sections * section_size g.width * 512) in
      let full : length (collect (last_run g) (λ q. fresh_run tag g q (run_length g))) ≡ last_run g * ((tag_area g + run_length g) * 512) =
      length-collect (λ q. fresh_run tag g q (run_length g)) ((tag_area g + run_length g) * 512) (last_run g) (λ q l. run-size tag g ok sized q (run_length g) (omega arith)) in
      let last : length (fresh_run tag g (last_run g) (last_length g)) ≡ (tag_area g + last_length g) * 512 = run-size tag g ok sized (last_run g) (last_length g) last-short in
      let tail = length-append (collect (last_run g) (λ q. fresh_run tag g q (run_length g))) (fresh_run tag g (last_run g) (last_length g)) in
      let head : length (superblock_of g ++ zeros (g.sections * section_size g.width * 512)) ≡ 4096 + g.sections * section_size g.width * 512 =
      length-append (superblock_of g) (zeros (g.sections * section_size g.width * 512)) ∙ rw (super-length g, length-replicate {A = ℕ} (g.sections * section_size g.width * 512) 0) in
      let p : base g * 512 ≡ g.reserved * 512 + length (superblock_of g ++ zeros (g.sections * section_size g.width * 512)) = omega arith in
      let end : g.reserved * 512 + length ((superblock_of g ++ zeros (g.sections * section_size g.width * 512)) ++ (collect (last_run g) (λ q. fresh_run tag g q (run_length g)) ++ fresh_run tag g (last_run g) (last_length g))) ≡ needed g * 512 =
      omega (arith, runs-bytes, length-append (superblock_of g ++ zeros (g.sections * section_size g.width * 512)) (collect (last_run g) (λ q. fresh_run tag g q (run_length g)) ++ fresh_run tag g (last_run g) (last_length g))) in
      rw (er, e₁, p, patch-join v (g.reserved * 512) (superblock_of g ++ zeros (g.sections * section_size g.width * 512)) (collect (last_run g) (λ q. fresh_run tag g q (run_length g)) ++ fresh_run tag g (last_run g) (last_length g)) (omega arith), end)
      (simp append_assoc)

-- ---- the call, a return at a time

module _ (tags : Tags) (g : Layout) (v : List ℕ) where
  pub wrong-loan : volume_loan_ok v ≡ false → record { answer = refuse 1 []; volume = v } ≡ format_of tags g v
  unfolding format_of
  wrong-loan a = rw a

  module _ (a : volume_loan_ok v ≡ true) where
    pub wrong-layout : layout_ok g ≡ false → record { answer = refuse 2 []; volume = v } ≡ format_of tags g v
    unfolding format_of
    wrong-layout b = rw (a, b)

    module _ (b : layout_ok g ≡ true) where
      pub too_short : (n : ℕ) → n ≡ needed g → length v < n * 512 → record { answer = refuse 5 (n ∷ []); volume = v } ≡ format_of tags g v
      unfolding format_of
      too_short n e l = rw (a, b, lt-ltb (length v) (needed g * 512) (rw e at l), e)

      module _ (c : needed g * 512 ≤ length v) where
        pub not-zero : is_zero (superblock_at g.reserved v) ≡ false → record { answer = refuse 3 []; volume = v } ≡ format_of tags g v
        unfolding format_of
        not-zero d = rw (a, b, le-ltb (length v) (needed g * 512) c, d)

        pub formatted : (r : List ℕ) → is_zero (superblock_at g.reserved v) ≡ true → r ≡ fresh_volume (tags g.width) g v → record { answer = passed; volume = r } ≡ format_of tags g v
        unfolding format_of
        formatted r d e = rw (a, b, le-ltb (length v) (needed g * 512) c, d, e)

-- ---- with a key

module _ (key : List ℕ) (g : Layout) (v : List ℕ) where
  pub keyed-malformed : volume_loan_ok v ≡ false → record { answer = refuse 1 []; volume = v } ≡ format_keyed_of key g v
  unfolding format_keyed_of
  keyed-malformed e = rw e

  pub key-refused : volume_loan_ok v ≡ true → key_ok key ≡ false → record { answer = refuse 2 []; volume = v } ≡ format_keyed_of key g v
  unfolding format_keyed_of
  key-refused ok e = rw (ok, e)

  pub key-taken : (o : FormatResult) → key_ok key ≡ true → (q : Rule) → q ≡ keyed_of key → o ≡ format_of (tag_by q) g v → o ≡ format_keyed_of key g v
  key-taken o ok q eq e =
      e ∙ ap (λ (x : Rule). format_of (tag_by x) g v) eq ∙ ap (λ (tags : Tags). format_of tags g v) (keyed-tags key) ∙ sym ((keyed-calls.taken key ok).format g v)
