-- Regions of a volume: the data sector and the tag of each logical sector lie apart from one another and behind the journal.
use Prim.Native.Nat.{ℕ, suc, ◌+◌, ◌-◌, ◌*◌, ◌/◌, ◌%◌, ◌≤◌, ◌<◌}
use mathlib.Core.Bool.{Bool, true, false, ◌&&◌}
use mathlib.Core.Path.{◌≡◌, refl, sym, ap, ◌∙◌}
use mathlib.Core.Logic.{◌≢◌}
use mathlib.Core.List.{List}
use native.Mathlib.Omega.{arith}
use native.Mathlib.Decide.{dec_lt}
use native.Mathlib.Nat.{mul-le-mul_right, suc-mul, mod-lt, div-add-mod'}
use lib.Pow.{pow_pos}
use lib.ListN.{length}
use lib.Dec.{leb}
use borrow.Author.Tests.{leb-true, ltb-true, ltb-false}
use Rattle.octets.specs.Parts.{part, patch}
use Rattle.octets.proofs.Parts.{part-patch-before, part-patch-after}
use Rattle.on_disk.specs.Layout.{most_reserved, least_shift, most_shift, most_width, most_sections, most_provided, section_size, run_length, tag_area, section_at, base, run_at, data_at, tag_start, tag_byte, tag_sector, tag_offset, crosses, needed, layout_ok, width_ok}
use Rattle.on_disk.specs.declared.Layout.{Layout}
use Rattle.on_disk.specs.Geometry.{Apart, before, behind}

pub part_apart : (l : List ℕ) (at : ℕ) (s : List ℕ) (b m : ℕ) → at + length s ≤ length l → Apart b m at (length s) → part (patch l at s) b m ≡ part l b m
part_apart l at s b m f (before h) = part-patch-before l at s f b m h
part_apart l at s b m f (behind h) = part-patch-after l at s f b m h

pub and_both : (a b : Bool) → ◌&&◌ a b ≡ true → (a ≡ true) × (b ≡ true)
and_both true b e = (refl, e)
and_both false b e = absurd (let z : ◌≡◌ {A = ℕ} 0 1 = cc in omega arith)

-- what is used of a tag's size
pub record Sizes (t : ℕ) : Type 0 where
  pub some : 1 ≤ t
  pub bound : t ≤ most_width

pub record Ranged (g : Layout) : Type 0 where
  pub r : g.reserved ≤ most_reserved
  pub n-low : least_shift ≤ g.shift
  pub n-high : g.shift ≤ most_shift
  pub t : Sizes g.width
  pub s-low : 1 ≤ g.sections
  pub s-high : g.sections ≤ most_sections
  pub p-low : 1 ≤ g.provided
  pub p-high : g.provided ≤ most_provided

sizes : (t : ℕ) → width_ok t ≡ true → Sizes t
unfolding width_ok
sizes t e =
    let c = and_both (leb 1 t) (leb t most_width) e in
    record { some = leb-true 1 t c.0; bound = leb-true t most_width c.1 }

pub ranged : (g : Layout) → layout_ok g ≡ true → Ranged g
unfolding layout_ok
ranged g e₀ =
    let c₄ = and_both _ (leb 1 g.provided && leb g.provided most_provided) e₀ in
    let c₃ = and_both _ (leb 1 g.sections && leb g.sections most_sections) c₄.0 in
    let c₂ = and_both _ (width_ok g.width) c₃.0 in
    let c₁ = and_both (leb g.reserved most_reserved) _ c₂.0 in
    let n = and_both _ _ c₁.1 in
    let s = and_both _ _ c₃.1 in
    let p = and_both _ _ c₄.1 in
    record {
      r = leb-true g.reserved most_reserved c₁.0;
      n-low = leb-true least_shift g.shift n.0;
      n-high = leb-true g.shift most_shift n.1;
      t = sizes g.width c₂.1;
      s-low = leb-true 1 g.sections s.0;
      s-high = leb-true g.sections most_sections s.1;
      p-low = leb-true 1 g.provided p.0;
      p-high = leb-true g.provided most_provided p.1;
    }

-- sections follow one another
pub section-order : (g : Layout) (k k' : ℕ) → k < k' → section_at g k + section_size g.width ≤ section_at g k'
section-order g k k' l =
    let h : suc k * section_size g.width ≤ k' * section_size g.width = mul-le-mul_right (section_size g.width) l in
    let e : suc k * section_size g.width ≡ k * section_size g.width + section_size g.width = suc-mul k (section_size g.width) in
    omega arith

module _ (g : Layout) (R : Ranged g) where
  run-pos : 0 < run_length g
  run-pos = pow_pos g.shift

  within : (s : ℕ) → s % run_length g < run_length g
  within s = mod-lt s run-pos

  -- a tag ends inside its run's tag area
  pub tag-in-area : (s : ℕ) → tag_start g s + g.width ≤ tag_area g * 512
  tag-in-area s =
      let h : suc (s % run_length g) * g.width ≤ run_length g * g.width = mul-le-mul_right g.width (within s) in
      let e : suc (s % run_length g) * g.width ≡ s % run_length g * g.width + g.width = suc-mul (s % run_length g) g.width in
      omega arith

  run-order : (q q' : ℕ) → q < q' → q * (tag_area g + run_length g) + (tag_area g + run_length g) ≤ q' * (tag_area g + run_length g)
  run-order q q' l =
      let h : suc q * (tag_area g + run_length g) ≤ q' * (tag_area g + run_length g) = mul-le-mul_right (tag_area g + run_length g) l in
      let e : suc q * (tag_area g + run_length g) ≡ q * (tag_area g + run_length g) + (tag_area g + run_length g) = suc-mul q (tag_area g + run_length g) in
      omega arith

  data Runs (s s' : ℕ) : Type 0 where
    lower : s / run_length g < s' / run_length g
        → s / run_length g * (tag_area g + run_length g) + (tag_area g + run_length g) ≤ s' / run_length g * (tag_area g + run_length g) → Runs s s'
    upper : s' / run_length g < s / run_length g
        → s' / run_length g * (tag_area g + run_length g) + (tag_area g + run_length g) ≤ s / run_length g * (tag_area g + run_length g) → Runs s s'
    alike : s / run_length g ≡ s' / run_length g → Runs s s'

  runs : (s s' : ℕ) → Runs s s'
  runs s s' = go (dec_lt (s / run_length g) (s' / run_length g)) (dec_lt (s' / run_length g) (s / run_length g))
    where
      go : Dec (s / run_length g < s' / run_length g) → Dec (s' / run_length g < s / run_length g) → Runs s s'
      go (yes l) d = lower l (run-order (s / run_length g) (s' / run_length g) l)
      go (no k) (yes l) = upper l (run-order (s' / run_length g) (s / run_length g) l)
      go (no k) (no l) = alike (omega arith)

  -- a tag area and a data sector
  pub area-data : (s s' : ℕ) → Apart (run_at g s) (tag_area g) (data_at g s') 1
  area-data s s' = go (runs s s') (within s')
    where
      go : Runs s s' → s' % run_length g < run_length g → Apart (run_at g s) (tag_area g) (data_at g s') 1
      go (lower q l) w = before (omega arith)
      go (upper q l) w = behind (omega arith)
      go (alike e) w = before (rw e (omega arith))

  -- a data sector and a tag
  pub data-tag : (s s' : ℕ) → Apart (data_at g s * 512) 512 (tag_byte g s') g.width
  data-tag s s' = go (runs s s') (within s) (within s') (tag-in-area s')
    where
      go : Runs s s' → s % run_length g < run_length g → s' % run_length g < run_length g → tag_start g s' + g.width ≤ tag_area g * 512
          → Apart (data_at g s * 512) 512 (tag_byte g s') g.width
      go (lower q l) w w' t = before (omega arith)
      go (upper q l) w w' t = behind (omega arith)
      go (alike e) w w' t = behind (rw e (omega arith))

  -- places of two sectors of one run
  data Spots (s s' : ℕ) : Type 0 where
    left : s % run_length g < s' % run_length g → s % run_length g * g.width + g.width ≤ s' % run_length g * g.width → Spots s s'
    right : s' % run_length g < s % run_length g → s' % run_length g * g.width + g.width ≤ s % run_length g * g.width → Spots s s'

  spots : (s s' : ℕ) → s ≢ s' → s / run_length g ≡ s' / run_length g → Spots s s'
  spots s s' n e = go (dec_lt (s % run_length g) (s' % run_length g)) (dec_lt (s' % run_length g) (s % run_length g))
    where
      step : (x y : ℕ) → x < y → x * g.width + g.width ≤ y * g.width
      step x y l =
          let h : suc x * g.width ≤ y * g.width = mul-le-mul_right g.width l in
          let k : suc x * g.width ≡ x * g.width + g.width = suc-mul x g.width in
          omega arith

      go : Dec (s % run_length g < s' % run_length g) → Dec (s' % run_length g < s % run_length g) → Spots s s'
      go (yes l) d = left l (step (s % run_length g) (s' % run_length g) l)
      go (no k) (yes l) = right l (step (s' % run_length g) (s % run_length g) l)
      go (no k) (no l) =
          let o : s % run_length g ≡ s' % run_length g = omega arith in
          absurd (n (sym (div-add-mod' s (run_length g)) ∙ ap (λ (q : ℕ). q * run_length g + s % run_length g) e
          ∙ ap (λ (r : ℕ). s' / run_length g * run_length g + r) o ∙ div-add-mod' s' (run_length g)))

  pub data-data : (s s' : ℕ) → s ≢ s' → Apart (data_at g s * 512) 512 (data_at g s' * 512) 512
  data-data s s' n = go (runs s s') (within s) (within s')
    where
      near : s / run_length g ≡ s' / run_length g → Spots s s' → Apart (data_at g s * 512) 512 (data_at g s' * 512) 512
      near e (left l m) = before (rw e (omega arith))
      near e (right l m) = behind (rw e (omega arith))

      go : Runs s s' → s % run_length g < run_length g → s' % run_length g < run_length g → Apart (data_at g s * 512) 512 (data_at g s' * 512) 512
      go (lower q l) w w' = before (omega arith)
      go (upper q l) w w' = behind (omega arith)
      go (alike e) w w' = near e (spots s s' n e)

  pub tag-tag : (s s' : ℕ) → s ≢ s' → Apart (tag_byte g s) g.width (tag_byte g s') g.width
  tag-tag s s' n = go (runs s s') (tag-in-area s) (tag-in-area s')
    where
      near : s / run_length g ≡ s' / run_length g → Spots s s' → Apart (tag_byte g s) g.width (tag_byte g s') g.width
      near e (left l m) = before (rw e (omega arith))
      near e (right l m) = behind (rw e (omega arith))

      go : Runs s s' → tag_start g s + g.width ≤ tag_area g * 512 → tag_start g s' + g.width ≤ tag_area g * 512
          → Apart (tag_byte g s) g.width (tag_byte g s') g.width
      go (lower q l) w w' = before (omega arith)
      go (upper q l) w w' = behind (omega arith)
      go (alike e) w w' = near e (spots s s' n e)

  pub tag-sector : (s : ℕ) → tag_sector g s * 512 + tag_offset g s ≡ tag_byte g s
  tag-sector s = omega arith

  pub tag-offset : (s : ℕ) → tag_offset g s < 512
  tag-offset s = mod-lt (tag_start g s) (omega arith)

  pub not-crossing : (s : ℕ) → crosses g s ≡ false → tag_offset g s + g.width ≤ 512
  not-crossing s e = ltb-false 512 (tag_offset g s + g.width) e

  pub crossing : (s : ℕ) → crosses g s ≡ true → 512 < tag_offset g s + g.width
  crossing s e = ltb-true 512 (tag_offset g s + g.width) e

  -- the sector that a tag goes on in lies in its run's tag area
  pub next-in-area : (s : ℕ) → crosses g s ≡ true → tag_sector g s + 1 < run_at g s + tag_area g
  next-in-area s e = omega (arith, tag-in-area s, crossing s e)

  pub data-high : (s : ℕ) → base g ≤ data_at g s
  data-high s = omega arith

  pub tag-high : (s : ℕ) → base g ≤ tag_sector g s
  tag-high s = omega arith

  -- both lie inside what the layout needs
  pub data-room : (s : ℕ) → s < g.provided → data_at g s + 1 ≤ needed g
  data-room s l = go (runs s (g.provided - 1)) (within s)
    where
      z : ℕ
      z = g.provided - 1

      order : z / run_length g < s / run_length g → ⊥
      order q =
          let h : suc (z / run_length g) * run_length g ≤ s / run_length g * run_length g = mul-le-mul_right (run_length g) q in
          let e : suc (z / run_length g) * run_length g ≡ z / run_length g * run_length g + run_length g = suc-mul (z / run_length g) (run_length g) in
          omega (arith, div-add-mod' s (run_length g), div-add-mod' z (run_length g), within z)

      go : Runs s z → s % run_length g < run_length g → data_at g s + 1 ≤ needed g
      go (lower q m) w = omega arith
      go (upper q m) w = absurd (order q)
      go (alike e) w =
          let a = div-add-mod' s (run_length g) in
          let b : z / run_length g * run_length g + z % run_length g ≡ z = div-add-mod' z (run_length g) in
          let c : z / run_length g * run_length g + s % run_length g ≡ s = rw e at a in
          rw e (omega arith)

  pub area-room : (s : ℕ) → s < g.provided → run_at g s + tag_area g ≤ needed g
  area-room s l = omega (arith, data-room s l)

  pub tag-room : (s : ℕ) → s < g.provided → tag_sector g s + 1 ≤ needed g
  tag-room s l =
      let d : data_at g s + 1 ≤ needed g = data-room s l in
      let a = tag-in-area s in
      omega (arith, R.t.some)

  pub tag-end : (s : ℕ) → s < g.provided → tag_byte g s + g.width ≤ needed g * 512
  tag-end s l = omega (arith, area-room s l, tag-in-area s)

  pub next-room : (s : ℕ) → s < g.provided → crosses g s ≡ true → tag_sector g s + 2 ≤ needed g
  next-room s l e = omega (arith, area-room s l, next-in-area s e)

  pub section-low : (k : ℕ) → k < g.sections → section_at g k + section_size g.width ≤ base g
  section-low k l = section-order g k g.sections l

  pub base-room : base g ≤ needed g
  base-room = omega (arith, data-high (g.provided - 1))

  pub section-apart : (k k' : ℕ) → k ≢ k'
      → Apart (section_at g k * 512) (section_size g.width * 512) (section_at g k' * 512) (section_size g.width * 512)
  section-apart k k' n = go (dec_lt k k') (dec_lt k' k)
    where
      go : Dec (k < k') → Dec (k' < k) → Apart (section_at g k * 512) (section_size g.width * 512) (section_at g k' * 512) (section_size g.width * 512)
      go (yes l) d = before (omega (arith, section-order g k k' l))
      go (no h) (yes l) = behind (omega (arith, section-order g k' k l))
      go (no h) (no l) = absurd (n (omega arith))
