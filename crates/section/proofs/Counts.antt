-- The stores of a section's used entries, entry by entry: counted, and found by number.
use Prim.Native.Nat.{ℕ, zero, suc, ◌+◌, ◌-◌, ◌*◌, ◌≤◌, ◌<◌}
use mathlib.Core.List.{List, [], ◌∷◌, ◌++◌, append_assoc, append-nil}
use mathlib.Core.Logic.{◌≢◌}
use mathlib.Core.Path.{◌≡◌, refl, sym, ap, ◌∙◌}
use native.Mathlib.Decide.{ℕ_discrete, dec_le, dec_lt}
use native.Mathlib.Numerals.{add-one}
use native.Mathlib.Omega.{arith}
use lib.ListN.{length, get_or, length-append, get_or-append}
use lib.Seq.{get_or-append-add}
use borrow.Author.Tests.{eq-eqb, ne_eqb}
use Rattle.on_disk.specs.Layout.{entry_count}
use Rattle.on_disk.specs.Section.{Entry, unused, entry_of}
use Rattle.octets.specs.Lists.{collect}
use Rattle.model.specs.Journal.{Replayed, used_entry}
use Rattle.model.specs.Store.{most_home_stores, home_count, EntryStore, store_of, stores_of_entry, entry_stores, no_store}
use Rattle.on_disk.specs.declared.Layout.{Layout}
use Rattle.model.proofs.Plans.{length-stores, get-stores, home-most}
use Rattle.section.specs.Locations.{Locates, stores_below, stores_in, store_number}
use Rattle.section.specs.declared.Location.{Location}

pub stores-append : (g : Layout) (a b : List Replayed) → entry_stores g (a ++ b) ≡ entry_stores g a ++ entry_stores g b
stores-append g [] b = refl
stores-append g (x ∷ a) b = rw (stores-append g a b) (sym (append_assoc (stores_of_entry g x) (entry_stores g a) (entry_stores g b)))

module _ (g : Layout) (k : ℕ) (sec : List ℕ) where
  abbrev entry : ℕ → Entry
  entry i = entry_of g.width sec i

  abbrev used : ℕ → List Replayed
  used i = used_entry k i (entry i)

  abbrev below : ℕ → List EntryStore
  below = stores_below g k sec

  abbrev here : ℕ → Replayed
  here i = record { section = k; index = i; entry = entry i }

  -- the stores of one entry
  abbrev home : ℕ → List EntryStore
  home i = stores_of_entry g (here i)

  home-count : (i : ℕ) → length (home i) ≡ home_count g (entry i)
  home-count i = length-stores g (here i)

  below-used : (i : ℕ) → (entry i).sector ≢ unused → below (i + 1) ≡ below i ++ home i
  below-used i n =
      let one : used i ≡ here i ∷ [] = rw (ne_eqb (entry i).sector unused n) in
      ap below (add-one i) ∙ stores-append g (collect i used) (used i)
      ∙ ap (λ (x : List Replayed). below i ++ entry_stores g x) one
      ∙ ap (λ (x : List EntryStore). below i ++ x) (append-nil (home i))

  below-unused : (i : ℕ) → (entry i).sector ≡ unused → below (i + 1) ≡ below i
  below-unused i e =
      let none : used i ≡ [] = rw (eq-eqb (entry i).sector unused e) in
      ap below (add-one i) ∙ stores-append g (collect i used) (used i)
      ∙ ap (λ (x : List Replayed). below i ++ entry_stores g x) none ∙ append-nil (below i)

  pub count-used : (i : ℕ) → (entry i).sector ≢ unused → length (below (i + 1)) ≡ length (below i) + home_count g (entry i)
  count-used i n = ap length (below-used i n) ∙ length-append (below i) (home i) ∙ ap (λ (c : ℕ). length (below i) + c) (home-count i)

  pub count-unused : (i : ℕ) → (entry i).sector ≡ unused → length (below (i + 1)) ≡ length (below i)
  count-unused i e = ap length (below-unused i e)

  pub below-high : (n : ℕ) → length (below n) ≤ most_home_stores * n
  below-high zero = omega arith
  below-high (suc n) = go (below-high n) (ℕ_discrete (entry n).sector unused)
    where
      one_more : length (below (suc n)) ≡ length (below (n + 1))
      one_more = ap (λ (i : ℕ). length (below i)) (sym (add-one n))

      go : length (below n) ≤ most_home_stores * n → Dec ((entry n).sector ≡ unused) → length (below (suc n)) ≤ most_home_stores * suc n
      go ih (yes e) = omega (arith, one_more, count-unused n e)
      go ih (no e) = omega (arith, one_more, count-used n e, home-most g (entry n))

  -- the stores of fewer entries come first
  data Begins (a b : List EntryStore) : Type 0 where
    begins : (rest : List EntryStore) → b ≡ a ++ rest → Begins a b

  below-begins : (i n : ℕ) → i ≤ n → Begins (below i) (below n)
  below-begins i zero l = begins [] (ap below {x = 0} {y = i} (omega arith) ∙ sym (append-nil (below i)))
  below-begins i (suc n) l = go (λ q. below-begins i n q) (dec_le i n)
    where
      longer : Begins (below i) (below n) → Begins (below i) (below (suc n))
      longer (begins rest e) =
          begins (rest ++ entry_stores g (used n))
          (stores-append g (collect n used) (used n) ∙ ap (λ (x : List EntryStore). x ++ entry_stores g (used n)) e ∙ append_assoc (below i) rest (entry_stores g (used n)))

      go : (i ≤ n → Begins (below i) (below n)) → Dec (i ≤ n) → Begins (below i) (below (suc n))
      go ih (yes q) = longer (ih q)
      go ih (no q) = begins [] (ap below {x = suc n} {y = i} (omega arith) ∙ sym (append-nil (below i)))

  store_at : (i n h m : ℕ) → i < n → h < home_count g (entry i) → (entry i).sector ≢ unused → h + length (below i) ≡ m
      → store_of (here i) h ≡ get_or (below n) m no_store
  store_at i n h m l s u e = go (below-begins (i + 1) n (omega arith))
    where
      one_of : (rest : List EntryStore) → get_or (home i ++ rest) h no_store ≡ store_of (here i) h
      one_of rest =
          get_or-append (home i) rest no_store h (omega (arith, home-count i)) ∙ get-stores g (here i) h s

      go : Begins (below (i + 1)) (below n) → store_of (here i) h ≡ get_or (below n) m no_store
      go (begins rest q) =
          let all : below n ≡ below i ++ (home i ++ rest) =
          q ∙ ap (λ (x : List EntryStore). x ++ rest) (below-used i u) ∙ append_assoc (below i) (home i) rest in
          let at : length (below i) + h ≡ m = omega arith in
          sym (ap (λ (x : List EntryStore). get_or x m no_store) all
          ∙ ap (λ (x : ℕ). get_or (below i ++ (home i ++ rest)) x no_store) (sym at)
          ∙ get_or-append-add (below i) (home i ++ rest) h no_store ∙ one_of rest)

  below_length : (i n : ℕ) → i ≤ n → length (below i) ≤ length (below n)
  below_length i n l = go (below-begins i n l)
    where
      go : Begins (below i) (below n) → length (below i) ≤ length (below n)
      go (begins rest e) = omega (arith, ap length e ∙ length-append (below i) rest)

-- ---- by the entry and its store

module _ (g : Layout) (sec : List ℕ) (x : Location) (l : x.entry < entry_count g.width) (u : (entry_of g.width sec x.entry).sector ≢ unused)
    (s : x.store < home_count g (entry_of g.width sec x.entry)) where
  pub locates : Locates g sec x (get_or (stores_in g x.section sec) (store_number g sec x) no_store)
  locates = record {
    names = store_at g x.section sec x.entry (entry_count g.width) x.store (store_number g sec x) l s u (omega arith);
    entry = l;
    used = u;
    store = s;
  }

  pub number-low : store_number g sec x < length (stores_in g x.section sec)
  number-low = omega (arith, count-used g x.section sec x.entry u, below_length g x.section sec (x.entry + 1) (entry_count g.width) (omega arith))

-- ---- by its number

module _ (g : Layout) (k : ℕ) (sec : List ℕ) where
  -- the store of number m is one of an entry below n
  pub data Numbered (n m : ℕ) : Type 0 where
    numbered : (i h : ℕ) → i < n → h < home_count g (entry_of g.width sec i) → (entry_of g.width sec i).sector ≢ unused → length (stores_below g k sec i) + h ≡ m → Numbered n m

  number_more : (n m : ℕ) → (m < length (stores_below g k sec n) → Numbered n m) → m < length (stores_below g k sec (n + 1)) → Numbered (suc n) m
  number_more n m ih l = go (dec_lt m (length (stores_below g k sec n))) (ℕ_discrete (entry_of g.width sec n).sector unused)
    where
      before : Numbered n m → Numbered (suc n) m
      before (numbered i h a s u e) = numbered i h (omega arith) s u e

      go : Dec (m < length (stores_below g k sec n)) → Dec ((entry_of g.width sec n).sector ≡ unused) → Numbered (suc n) m
      go (yes q) d = before (ih q)
      go (no q) (yes e) = absurd (omega (arith, count-unused g k sec n e))
      go (no q) (no e) = numbered n (m - length (stores_below g k sec n)) (omega arith) (omega (arith, count-used g k sec n e)) e (omega arith)

  pub number_of : (n m : ℕ) → m < length (stores_below g k sec n) → Numbered n m
  number_of zero m l = absurd (omega arith)
  number_of (suc n) m l =
      number_more n m (number_of n m) (omega (arith, ap (λ (i : ℕ). length (stores_below g k sec i)) (add-one n)))
