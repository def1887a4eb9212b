-- Bounds of sizes and addresses, for layouts in range. A product of two variables is bounded by the product of their bounds.
use Prim.Native.Nat.{ℕ, ◌+◌, ◌-◌, ◌*◌, ◌/◌, ◌%◌, ◌^◌, ◌≤◌, ◌<◌}
use mathlib.Core.Bool.{true}
use mathlib.Core.Path.{◌≡◌, refl, sym, ap}
use native.Mathlib.Nat.{mul-le-mul, mul-le-mul_left, div-add-mod', mod-lt, pow-le-pow_right}
use native.Mathlib.Omega.{arith}
use lib.Pow.{pow_pos}
use borrow.Author.Tests.{lt-ltb, le-ltb}
use Rattle.on_disk.specs.Layout.{most_provided, entry_size, per_sector, section_size, run_length, section_at, tag_offset, needed, layout_ok}
use Rattle.on_disk.specs.Section.{Entry}
use Rattle.model.specs.Store.{home_count}
use Rattle.model.proofs.Plans.{home-in-one, home-in-two}
use Rattle.on_disk.specs.declared.Layout.{Layout}
use Rattle.on_disk.proofs.Addresses.{Ranged, ranged, section-low, base-room}

pub per-high : (t : ℕ) → per_sector t ≤ 31
per-high t =
    let whole = div-add-mod' 496 (entry_size t) in
    let least : 496 / entry_size t * 16 ≤ 496 / entry_size t * entry_size t = mul-le-mul_left (496 / entry_size t) (omega arith) in
    omega arith

module _ (g : Layout) (ok : layout_ok g ≡ true) where
  R : Ranged g
  R = ranged g ok

  pub width-high : g.width ≤ 32
  width-high = R.t.bound

  pub reserved-high : g.reserved ≤ 64
  reserved-high = R.r

  pub shift-high : g.shift ≤ 15
  shift-high = R.n-high

  pub sections-low : 1 ≤ g.sections
  sections-low = R.s-low

  pub sections-high : g.sections ≤ 64
  sections-high = R.s-high

  pub provided-low : 1 ≤ g.provided
  provided-low = R.p-low

  pub provided-high : g.provided ≤ most_provided
  provided-high = R.p-high

  -- ---- products, as the code has them: their value, and a bound

  pub sections-product : (k m : ℕ) → k ≤ g.sections → m ≡ section_size g.width → (k * m ≡ k * section_size g.width) × (k * m ≤ 64 * 256)
  sections-product k m l e =
      let sections : k ≤ 64 = omega (arith, sections-high) in
      let size : m ≤ 256 = omega (arith, per-high g.width) in
      (ap (λ (x : ℕ). k * x) e, mul-le-mul sections size)

  pub run-low : 0 < run_length g
  run-low = pow_pos g.shift

  pub run-high : run_length g ≤ 2 ^ 15
  run-high = pow-le-pow_right (omega arith) shift-high

  -- a remainder by two shifts
  pub by-shifts : (s : ℕ) → s < 2 ^ 64
      → (s / run_length g * run_length g % 2 ^ 64 ≤ s) × (s - s / run_length g * run_length g % 2 ^ 64 ≡ s % run_length g) × (s % run_length g ≤ 2 ^ 15)
  by-shifts s l =
      let whole : s / run_length g * run_length g + s % run_length g ≡ s = div-add-mod' s (run_length g) in
      let kept : s / run_length g * run_length g % 2 ^ 64 ≡ s / run_length g * run_length g = omega arith in
      (omega arith, omega arith, omega (arith, run-high, mod-lt s run-low))

  module _ (n : ℕ) (is-length : n ≡ run_length g) where
    pub tags-product : (n * g.width ≡ run_length g * g.width) × (n * g.width ≤ 2 ^ 15 * 32)
    tags-product =
        let length : n ≤ 2 ^ 15 = omega (arith, run-high) in
        (ap (λ (x : ℕ). x * g.width) is-length, mul-le-mul length width-high)

    module _ (s : ℕ) where
      within : (s % n ≡ s % run_length g) × (s % n ≤ 2 ^ 15)
      within = rw is-length (refl, omega (arith, run-high, mod-lt s run-low))

      pub place-product : (s % n * g.width ≡ s % run_length g * g.width) × (s % n * g.width ≤ 2 ^ 15 * 32)
      place-product = (ap (λ (x : ℕ). s % x * g.width) is-length, mul-le-mul within.1 width-high)

  -- ---- the stores of an entry, by where its tag ends

  module _ (n : ℕ) (e : Entry) (is-place : n ≡ e.sector % run_length g) where
    ends_at : tag_offset g e.sector + g.width ≡ n * g.width % 512 + g.width
    ends_at = rw is-place

    pub in_two : 512 < n * g.width % 512 + g.width → 3 ≡ home_count g e
    in_two l = sym (home-in-two g e (lt-ltb 512 (tag_offset g e.sector + g.width) (rw ends_at l)))

    pub in_one : n * g.width % 512 + g.width ≤ 512 → 2 ≡ home_count g e
    in_one l = sym (home-in-one g e (le-ltb 512 (tag_offset g e.sector + g.width) (rw ends_at l)))

  -- section k ends within the volume
  pub section-inside : (n k : ℕ) → needed g * 512 ≤ n → k < g.sections → (section_at g k + section_size g.width) * 512 ≤ n
  section-inside n k h l = omega (arith, section-low g R k l, base-room g R)
