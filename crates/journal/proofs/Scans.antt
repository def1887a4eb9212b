-- Loops over the sections of a journal, and over the sectors of one: what each has found.
use Prim.Native.Nat.{ℕ, zero, suc, ◌-◌, ◌≤◌, ◌<◌}
use mathlib.Core.Bool.{Bool, true, false, not, ◌&&◌}
use mathlib.Core.List.{List}
use mathlib.Core.Logic.{◌≢◌}
use mathlib.Core.Path.{◌≡◌, refl, sym, ap, ◌∙◌}
use native.Mathlib.Decide.{dec_lt}
use native.Mathlib.Omega.{arith}
use lib.ListN.{get_or}
use borrow.Author.Tests.{ne_eqb}
use Rattle.octets.specs.Choice.{pick}
use Rattle.octets.specs.Sectors.{sector_at}
use Rattle.on_disk.specs.Layout.{section_size, layout_ok}
use Rattle.on_disk.specs.Section.{id_of}
use Rattle.octets.specs.Lists.{all_below, first_below}
use Rattle.model.specs.Journal.{whole_id, section_of, section_for, whole_ids}
use Rattle.model.specs.Open.{misplaced_id, misplaced}
use Rattle.on_disk.specs.declared.Layout.{Layout}
use Rattle.journal.specs.Replay.{ids_of}
use Rattle.journal.proofs.Walks.{get_or-ids}
use Rattle.octets.proofs.Lists.{all-below, below_all}
use Rattle.model.proofs.Journals.{whole-all, whole-not}

-- ---- the scan of a section, left at the first sector whose id differs from that of sector 0

module _ (g : Layout) (v : List ℕ) (k : ℕ) (sec : List ℕ) (is : sec ≡ section_of g v k) (j id : ℕ) (same : (i : ℕ) → i < j → id_of (sector_at sec i) ≡ id) where
  pub whole : j ≡ section_size g.width → id ≡ whole_ids g v k
  whole e = sym (ap (whole_id g.width) (sym is) ∙ whole-all g.width sec id (λ i l. same i (omega arith)))

  pub torn : 0 < j → j < section_size g.width → id_of (sector_at sec j) ≢ id → whole_ids g v k ≡ 0
  torn p l n = ap (whole_id g.width) (sym is) ∙ whole-not g.width sec j l (λ q. n (q ∙ same 0 p))

-- ---- the first number of which f holds

module _ (f : ℕ → Bool) where
  abbrev fails : ℕ → Bool
  fails k = not (f k)

  pub first-none : (n : ℕ) → ((i : ℕ) → i < n → f i ≡ false) → first_below (suc n) f ≡ n
  first-none n h = rw (all-below n fails (λ i l. ap not (h i l)))

  pub first-at : (n k : ℕ) → k < n → f k ≡ true → ((i : ℕ) → i < k → f i ≡ false) → first_below n f ≡ k
  first-at zero k l t h = absurd (omega arith)
  first-at (suc n) k l t h = go (dec_lt k n) (λ q. first-at n k q t h)
    where
      not-all : k < n → (b : Bool) → all_below n fails ≡ b → pick b n (first_below n f) ≡ first_below n f
      not-all q false e = refl
      not-all q true e =
          let z : not true ≡ true = ap not (sym t) ∙ below_all n fails e k q in
          absurd (let y : ◌≡◌ {A = ℕ} 0 1 = cc in omega arith)

      go : Dec (k < n) → (k < n → first_below n f ≡ k) → first_below (suc n) f ≡ k
      go (yes q) ih = not-all q (all_below n fails) refl ∙ ih q
      go (no q) ih =
          let e : k ≡ n = omega arith in
          first-none n (λ i m. h i (omega arith)) ∙ sym e

  first-high : (n : ℕ) → first_below n f ≤ n - 1
  first-high zero = omega arith
  first-high (suc n) = go (all_below n fails) (first-high n)
    where
      go : (b : Bool) → first_below n f ≤ n - 1 → pick b n (first_below n f) ≤ suc n - 1
      go true h = omega arith
      go false h = omega arith

  -- with one number more, which f is not asked of: the first, or n where f holds of none
  module _ (n r : ℕ) (e : r ≡ first_below (suc n) f) where
    pub some_below : r < n → (all_below n fails ≡ false) × (r ≡ first_below n f)
    some_below l = go (all_below n fails) refl e
      where
        go : (b : Bool) → all_below n fails ≡ b → r ≡ pick b n (first_below n f) → (all_below n fails ≡ false) × (r ≡ first_below n f)
        go true q h = absurd (omega arith)
        go false q h = (q, h)

    pub none_below : 0 < n → n ≤ r → all_below n fails ≡ true
    none_below p l = go (all_below n fails) refl e
      where
        go : (b : Bool) → all_below n fails ≡ b → r ≡ pick b n (first_below n f) → all_below n fails ≡ true
        go true q h = q
        go false q h = absurd (omega (arith, first-high n))

-- ---- a section out of its place

pub is-misplaced : (g : Layout) (k id r : ℕ) → r ≡ section_for g id → id ≢ 0 → r ≢ k → misplaced_id g id k ≡ true
is-misplaced g k id r at nz n = rw (ne_eqb id 0 nz, ne_eqb (section_for g id) k (λ z. n (at ∙ z)))

-- ---- a search that looks at the same values

all_same : (n : ℕ) (f h : ℕ → Bool) → ((k : ℕ) → k < n → f k ≡ h k) → all_below n f ≡ all_below n h
all_same zero f h e = refl
all_same (suc n) f h e = λ i. all_same n f h (λ k l. e k (omega arith)) i && e n (omega arith) i

pub first-same : (n : ℕ) (f h : ℕ → Bool) → ((k : ℕ) → k < n → f k ≡ h k) → first_below (suc n) f ≡ first_below (suc n) h
first-same zero f h e = refl
first-same (suc n) f h e =
    λ i. pick (all_same (suc n) (λ k. not (f k)) (λ k. not (h k)) (λ k l. ap not (e k l)) i) (suc n) (first-same n f h (λ k l. e k (omega arith)) i)

-- the sections that stand in the wrong place, by the ids of a volume
pub misplaced-first : (g : Layout) (v : List ℕ) → layout_ok g ≡ true → (ids : List ℕ) → ids ≡ ids_of g v
    → first_below (suc g.sections) (λ k. misplaced_id g (get_or ids k 0) k) ≡ first_below (suc g.sections) (misplaced g v)
misplaced-first g v ok ids e =
    first-same g.sections (λ k. misplaced_id g (get_or ids k 0) k) (misplaced g v) (λ k l. ap (λ (n : ℕ). misplaced_id g n k) (get_or-ids g v ids e k l))
