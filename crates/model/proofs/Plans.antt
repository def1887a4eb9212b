-- The stores of a replay, and the steps of a recovery: which entry each is of, and which of its stores.
use Prim.Native.Nat.{ℕ, suc, ◌+◌, ◌≤◌, ◌<◌}
use mathlib.Core.Bool.{Bool, true, false}
use mathlib.Core.Path.{◌≡◌, refl, ap, ◌∙◌}
use mathlib.Core.List.{List, [], ◌∷◌}
use native.Mathlib.Omega.{arith}
use lib.ListN.{length, get_or, length-append, length-map, get_or-append, get_or-map}
use lib.Seq.{get_or-append-add}
use Rattle.octets.proofs.Tables.{length-tabulate, get_or-tabulate}
use Rattle.on_disk.specs.Layout.{crosses}
use Rattle.on_disk.specs.Section.{Entry}
use Rattle.model.specs.Journal.{Replayed}
use Rattle.model.specs.Store.{most_home_stores, home_count, store_of, stores_of_entry, entry_stores, stores_of, storing, recovery_steps, steps_of, no_entry, no_store}
use Rattle.on_disk.specs.declared.Layout.{Layout}

pub length-stores : (g : Layout) (x : Replayed) → length (stores_of_entry g x) ≡ home_count g x.entry
length-stores g x = length-tabulate (home_count g x.entry) (store_of x)

pub get-stores : (g : Layout) (x : Replayed) (h : ℕ) → h < home_count g x.entry → get_or (stores_of_entry g x) h no_store ≡ store_of x h
get-stores g x h l = get_or-tabulate (home_count g x.entry) (store_of x) h no_store l

-- store k is store h of entry i
pub data At (g : Layout) : List Replayed → ℕ → ℕ → ℕ → Type 0 where
  here : {x : Replayed} {xs : List Replayed} {k h : ℕ} → k ≡ h → h < home_count g x.entry → At g (x ∷ xs) k 0 h
  there : {x : Replayed} {xs : List Replayed} {k i h : ℕ} (j : ℕ) → k ≡ home_count g x.entry + j → At g xs j i h → At g (x ∷ xs) k (suc i) h

module _ (g : Layout) where
  pub at_low : {xs : List Replayed} {k i h : ℕ} → At g xs k i h → i < length xs
  at_low (here e l) = omega arith
  at_low (there j e a) = omega (arith, at_low a)

  pub at-below : {xs : List Replayed} {k i h : ℕ} → At g xs k i h → h < home_count g (get_or xs i no_entry).entry
  at-below (here e l) = l
  at-below (there j e a) = at-below a

  at_store : {xs : List Replayed} {k i h : ℕ} → At g xs k i h → get_or (entry_stores g xs) k no_store ≡ store_of (get_or xs i no_entry) h
  at_store {k = k} (here {x} {xs} {h = h} e l) =
      let n = length-stores g x in
      ap (λ (y : ℕ). get_or (entry_stores g (x ∷ xs)) y no_store) e
      ∙ get_or-append (stores_of_entry g x) (entry_stores g xs) no_store h (omega arith)
      ∙ get-stores g x h l
  at_store {k = k} (there {x} {xs} j e a) =
      let n = length-stores g x in
      let q : k ≡ length (stores_of_entry g x) + j = omega arith in
      ap (λ (y : ℕ). get_or (entry_stores g (x ∷ xs)) y no_store) q
      ∙ get_or-append-add (stores_of_entry g x) (entry_stores g xs) j no_store
      ∙ at_store a

  pub at-get : {xs : List Replayed} {k i h : ℕ} → At g xs k i h → get_or (recovery_steps g xs) k (storing no_store) ≡ storing (store_of (get_or xs i no_entry) h)
  at-get {xs} {k} a = get_or-map storing (entry_stores g xs) k no_store ∙ ap storing (at_store a)

  -- the next store: of the same entry, or of the next
  pub at_on : {xs : List Replayed} {k i h : ℕ} → At g xs k i h → h + 1 < home_count g (get_or xs i no_entry).entry → At g xs (k + 1) i (h + 1)
  at_on {k = k} (here {x} {xs} {h = h} e l) m = let q : k + 1 ≡ h + 1 = omega arith in here q m
  at_on {k = k} (there {x} j e a) m = let q : k + 1 ≡ home_count g x.entry + (j + 1) = omega arith in there (j + 1) q (at_on a m)

  pub at_next : {xs : List Replayed} {k i h : ℕ} → ((x : Replayed) → 0 < home_count g x.entry) → At g xs k i h
      → h + 1 ≡ home_count g (get_or xs i no_entry).entry → i + 1 < length xs → At g xs (k + 1) (suc i) 0
  at_next pos (here {x} {xs = []} e l) m b = absurd (omega arith)
  at_next {k = k} pos (here {x} {xs = y ∷ ys} e l) m b =
      let q : k + 1 ≡ home_count g x.entry + 0 = omega arith in there 0 q (here refl (pos y))
  at_next {k = k} pos (there {x} j e a) m b =
      let q : k + 1 ≡ home_count g x.entry + (j + 1) = omega arith in there (j + 1) q (at_next pos a m (omega arith))

  stores-last : {xs : List Replayed} {k i h : ℕ} → At g xs k i h
      → h + 1 ≡ home_count g (get_or xs i no_entry).entry → i + 1 ≡ length xs → k + 1 ≡ stores_of g xs
  stores-last (here {x} {xs = []} e l) m b =
      let n = length-stores g x in
      omega (arith, length-append (stores_of_entry g x) [])
  stores-last (here {x} {xs = y ∷ ys} e l) m b = absurd (omega arith)
  stores-last (there {x} {xs} j e a) m b =
      let n = length-stores g x in
      omega (arith, length-append (stores_of_entry g x) (entry_stores g xs), stores-last a m (omega arith))

  stores-in : {xs : List Replayed} {k i h : ℕ} → At g xs k i h → k < stores_of g xs
  stores-in (here {x} {xs} e l) =
      let n = length-stores g x in
      omega (arith, length-append (stores_of_entry g x) (entry_stores g xs))
  stores-in (there {x} {xs} j e a) =
      let n = length-stores g x in
      omega (arith, length-append (stores_of_entry g x) (entry_stores g xs), stores-in a)

-- a recovery has no steps but these stores
pub steps-stores : (g : Layout) (xs : List Replayed) → steps_of g xs ≡ stores_of g xs
steps-stores g xs = length-map (entry_stores g xs) storing

module _ (g : Layout) where
  pub at_last : {xs : List Replayed} {k i h : ℕ} → At g xs k i h
      → h + 1 ≡ home_count g (get_or xs i no_entry).entry → i + 1 ≡ length xs → k + 1 ≡ steps_of g xs
  at_last {xs} a m b = omega (arith, steps-stores g xs, stores-last g a m b)

  pub at_in : {xs : List Replayed} {k i h : ℕ} → At g xs k i h → k < steps_of g xs
  at_in {xs} a = omega (arith, steps-stores g xs, stores-in g a)

-- ---- how many stores bring an entry home

module _ (g : Layout) (e : Entry) where
  pub home-in-one : crosses g e.sector ≡ false → home_count g e ≡ 2
  unfolding home_count
  home-in-one q = rw q

  pub home-in-two : crosses g e.sector ≡ true → home_count g e ≡ 3
  unfolding home_count
  home-in-two q = rw q

  -- which of the two
  pub data Homing : Type 0 where
    in_one : crosses g e.sector ≡ false → home_count g e ≡ 2 → Homing
    in_two : crosses g e.sector ≡ true → home_count g e ≡ 3 → Homing

  pub homing : Homing
  homing = go (crosses g e.sector) refl
    where
      go : (b : Bool) → crosses g e.sector ≡ b → Homing
      go true q = in_two q (home-in-two q)
      go false q = in_one q (home-in-one q)

  pub home-most : home_count g e ≤ most_home_stores
  home-most = go homing
    where
      go : Homing → home_count g e ≤ most_home_stores
      go (in_one q n) = omega arith
      go (in_two q n) = omega arith

  pub home_some : 1 < home_count g e
  home_some = go homing
    where
      go : Homing → 1 < home_count g e
      go (in_one q n) = omega arith
      go (in_two q n) = omega arith

  pub home-crosses : 2 < home_count g e → crosses g e.sector ≡ true
  home-crosses l = go homing
    where
      go : Homing → crosses g e.sector ≡ true
      go (in_one q n) = absurd (omega arith)
      go (in_two q n) = q
