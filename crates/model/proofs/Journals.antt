-- What a volume's journal says, when one sector of it or none is stored.
use Prim.Native.Nat.{ℕ, zero, suc, ◌+◌, ◌-◌, ◌*◌, ◌^◌, ◌≤◌, ◌<◌, max}
use mathlib.Core.Bool.{Bool, true, false}
use mathlib.Core.Path.{◌≡◌, refl, sym, ap, ◌∙◌, subst}
use mathlib.Core.Logic.{◌≢◌}
use mathlib.Core.List.{List, [], ◌∷◌, ◌++◌, append_assoc, append-nil}
use native.Mathlib.Omega.{arith}
use native.Mathlib.Decide.{dec_le, dec_lt, ℕ_discrete}
use lib.ListN.{length, get_or}
use lib.Dec.{ltb, eqb}
use borrow.Author.Tests.{eqb-true, eqb-false, eq-eqb, ne_eqb}
use Rattle.octets.specs.Choice.{pick}
use Rattle.octets.specs.Parts.{part}
use Rattle.octets.proofs.Parts.{length_part, part-part}
use Rattle.octets.specs.Sectors.{sector_at}
use Rattle.on_disk.specs.Layout.{per_sector, entry_count, section_size, section_at, base}
use Rattle.on_disk.specs.Section.{Entry, unused, id_of, entry_of}
use Rattle.octets.specs.Lists.{all_below, greatest, collect}
use Rattle.octets.proofs.Lists.{all-below, below_all}
use Rattle.model.specs.Journal.{whole_id, greatest_in, sealed, section_of, greatest_id, due_ids, Found, insert, ordered, whole_ids, Replayed, used_entry, used_of, replay_in, replay}
use Rattle.model.specs.Ledger.{Write}
use Rattle.on_disk.proofs.Sections.{length-with_id, id-with_id, entry-stamped}
use Rattle.on_disk.proofs.Addresses.{section-order}
use Rattle.model.proofs.Replays.{Which, is_true, is_false, which}
use Rattle.model.proofs.Order.{ordered-cong, ordered-comes, ordered-goes}
use Rattle.on_disk.specs.declared.Layout.{Layout}

-- ---- the greatest of some numbers

pub greatest-ge : (n : ℕ) (f : ℕ → ℕ) (j : ℕ) → j < n → f j ≤ greatest n f
greatest-ge zero f j l = absurd (omega arith)
greatest-ge (suc n) f j l = go (greatest-ge n f j) (ℕ_discrete j n)
  where
    go : (j < n → f j ≤ greatest n f) → Dec (j ≡ n) → f j ≤ max (greatest n f) (f n)
    go ih (yes q) = subst (λ (x : ℕ). f x ≤ max (greatest n f) (f n)) (sym q) (omega arith)
    go ih (no q) = omega (arith, ih (omega arith))

pub greatest-le : (n : ℕ) (f : ℕ → ℕ) (m : ℕ) → ((j : ℕ) → j < n → f j ≤ m) → greatest n f ≤ m
greatest-le zero f m h = omega arith
greatest-le (suc n) f m h = omega (arith, greatest-le n f m (λ j l. h j (omega arith)), h n (omega arith))

pub greatest-cong : (n : ℕ) (f h : ℕ → ℕ) → ((j : ℕ) → j < n → f j ≡ h j) → greatest n f ≡ greatest n h
greatest-cong zero f h e = refl
greatest-cong (suc n) f h e = rw (e n (omega arith), greatest-cong n f h (λ j l. e j (omega arith)))

-- ---- whole sections

module _ (t : ℕ) (sec : List ℕ) where
  pub whole-all : (n : ℕ) → ((j : ℕ) → j < section_size t → id_of (sector_at sec j) ≡ n) → whole_id t sec ≡ n
  unfolding whole_id
  whole-all n h =
      let z : id_of (sector_at sec 0) ≡ n = h 0 (omega arith) in
      rw (all-below (section_size t) (λ j. eqb (id_of (sector_at sec j)) (id_of (sector_at sec 0)))
      (λ j l. eq-eqb (id_of (sector_at sec j)) (id_of (sector_at sec 0)) (h j l ∙ sym z))) z

  pub whole-not : (i : ℕ) → i < section_size t → id_of (sector_at sec i) ≢ id_of (sector_at sec 0) → whole_id t sec ≡ 0
  unfolding whole_id
  whole-not i l n = go (which (all_below (section_size t) (λ j. eqb (id_of (sector_at sec j)) (id_of (sector_at sec 0)))))
    where
      go : Which (all_below (section_size t) (λ j. eqb (id_of (sector_at sec j)) (id_of (sector_at sec 0)))) → whole_id t sec ≡ 0
      go (is_true e) = absurd (n (eqb-true (id_of (sector_at sec i)) (id_of (sector_at sec 0)) (below_all (section_size t) (λ j. eqb (id_of (sector_at sec j)) (id_of (sector_at sec 0))) e i l)))
      go (is_false e) = rw e

  pub whole_le : whole_id t sec ≤ greatest_in t sec
  unfolding whole_id greatest_in
  whole_le = go (all_below (section_size t) (λ j. eqb (id_of (sector_at sec j)) (id_of (sector_at sec 0))))
    where
      go : (b : Bool) → pick b (id_of (sector_at sec 0)) 0 ≤ greatest (section_size t) (λ j. id_of (sector_at sec j))
      go true = greatest-ge (section_size t) (λ j. id_of (sector_at sec j)) 0 (omega arith)
      go false = omega arith

  pub top-ge : (j : ℕ) → j < section_size t → id_of (sector_at sec j) ≤ greatest_in t sec
  unfolding greatest_in
  top-ge j l = greatest-ge (section_size t) (λ i. id_of (sector_at sec i)) j l

  pub top-le : (m : ℕ) → ((j : ℕ) → j < section_size t → id_of (sector_at sec j) ≤ m) → greatest_in t sec ≤ m
  unfolding greatest_in
  top-le m h = greatest-le (section_size t) (λ i. id_of (sector_at sec i)) m h

-- ---- the order's places

abbrev Placed : ℕ → List Found → Type 0
Placed n [] = Unit {0}
Placed n (x ∷ xs) = (x.section < n) × Placed n xs

placed-insert : (n : ℕ) (x : Found) (L : List Found) → x.section < n → Placed n L → Placed n (insert x L)
placed-insert n x [] l p = (l, tt)
placed-insert n x (y ∷ ys) l p = go (ltb x.id y.id) (placed-insert n x ys l p.1)
  where
    go : (b : Bool) → Placed n (insert x ys) → Placed n (pick b (x ∷ (y ∷ ys)) (y ∷ insert x ys))
    go true r = (l, p)
    go false r = (p.0, r)

placed-more : (n m : ℕ) (L : List Found) → n ≤ m → Placed n L → Placed m L
placed-more n m [] l p = tt
placed-more n m (x ∷ L) l p = (omega (arith, p.0), placed-more n m L l p.1)

pub placed : (n : ℕ) (ids : ℕ → ℕ) → Placed n (ordered n ids)
placed zero ids = tt
placed (suc n) ids = go (placed-more n (suc n) (ordered n ids) (omega arith) (placed n ids)) (eqb (ids n) 0)
  where
    go : Placed (suc n) (ordered n ids) → (b : Bool)
        → Placed (suc n) (pick b (ordered n ids) (insert (record { id = ids n; section = n }) (ordered n ids)))
    go p true = p
    go p false = placed-insert (suc n) (record { id = ids n; section = n }) (ordered n ids) (omega arith) p

pub replay_in-append : (g : Layout) (v : List ℕ) (a b : List Found) → replay_in g v (a ++ b) ≡ replay_in g v a ++ replay_in g v b
replay_in-append g v [] b = refl
replay_in-append g v (x ∷ a) b =
    rw (replay_in-append g v a b) (sym (append_assoc (used_of g.width x.section (section_of g v x.section)) (replay_in g v a) (replay_in g v b)))

-- sections that agree give the same entries
pub replay_in-cong : (g : Layout) (v w : List ℕ) (n : ℕ) (L : List Found) → Placed n L → ((k : ℕ) → k < n → section_of g v k ≡ section_of g w k)
    → replay_in g v L ≡ replay_in g w L
replay_in-cong g v w n [] p e = refl
replay_in-cong g v w n (x ∷ L) p e = rw (e x.section p.0, replay_in-cong g v w n L p.1 e)

-- ---- the greatest id, and what is due: their laws; nothing else looks inside

pub top-section : (g : Layout) (v : List ℕ) (k : ℕ) → k < g.sections → greatest_in g.width (section_of g v k) ≤ greatest_id g v
unfolding greatest_id
top-section g v k l = greatest-ge g.sections (λ y. greatest_in g.width (section_of g v y)) k l

pub top_least : (g : Layout) (v : List ℕ) (m : ℕ) → ((k : ℕ) → k < g.sections → greatest_in g.width (section_of g v k) ≤ m) → greatest_id g v ≤ m
unfolding greatest_id
top_least g v m h = greatest-le g.sections (λ y. greatest_in g.width (section_of g v y)) m h

pub due-of : (g : Layout) (v : List ℕ) (k : ℕ) → due_ids g v k ≢ 0 → due_ids g v k ≡ whole_ids g v k
unfolding due_ids
due-of g v k n = refl

pub due-le : (g : Layout) (v : List ℕ) (k : ℕ) → due_ids g v k ≤ whole_ids g v k
unfolding due_ids
due-le g v k = omega arith

-- a section newer than all ids of another volume is due
pub due-new : (g : Layout) (u w : List ℕ) (k : ℕ) → greatest_id g u < whole_ids g w k → due_ids g w k ≡ whole_ids g w k
unfolding due_ids
due-new g u w k l = refl

pub due-same : (g : Layout) (v w : List ℕ) (k : ℕ) → section_of g v k ≡ section_of g w k → due_ids g v k ≡ due_ids g w k
unfolding due_ids
due-same g v w k e = ap (whole_id g.width) e

-- superblock and journal: what lies between the reserved sectors and the runs
abbrev pub front : Layout → List ℕ → List ℕ
front g v = part v (g.reserved * 512) ((base g - g.reserved) * 512)

front-section : (g : Layout) (v : List ℕ) (k : ℕ) → k < g.sections
    → part (front g v) ((section_at g k - g.reserved) * 512) (section_size g.width * 512) ≡ section_of g v k
front-section g v k l =
    let at : g.reserved * 512 + (section_at g k - g.reserved) * 512 ≡ section_at g k * 512 = omega arith in
    part-part v (g.reserved * 512) ((base g - g.reserved) * 512) ((section_at g k - g.reserved) * 512) (section_size g.width * 512)
    (omega (arith, section-order g k g.sections l))
    ∙ ap (λ (a : ℕ). part v a (section_size g.width * 512)) at

-- a volume with the same front has the same journal
module _ (g : Layout) (v w : List ℕ) (same : front g v ≡ front g w) where
  pub sections-kept : (k : ℕ) → k < g.sections → section_of g v k ≡ section_of g w k
  sections-kept k l =
      sym (front-section g v k l)
      ∙ ap (λ (x : List ℕ). part x ((section_at g k - g.reserved) * 512) (section_size g.width * 512)) same
      ∙ front-section g w k l

  pub top_kept : greatest_id g v ≡ greatest_id g w
  unfolding greatest_id
  top_kept = greatest-cong g.sections _ _ (λ k l. ap (greatest_in g.width) (sections-kept k l))

  pub ids-kept : (k : ℕ) → k < g.sections → whole_ids g v k ≡ whole_ids g w k
  ids-kept k l = ap (whole_id g.width) (sections-kept k l)

  pub replay-kept : replay g v ≡ replay g w
  unfolding replay
  replay-kept =
      replay_in-cong g v w g.sections (ordered g.sections (due_ids g v)) (placed g.sections (due_ids g v)) sections-kept
      ∙ ap (replay_in g w) (ordered-cong g.sections (due_ids g v) (due_ids g w) (λ k l. due-same g v w k (sections-kept k l)))

-- ---- the writes of entries

abbrev pub write_of_entry : Entry → Write
write_of_entry e = record { sector = e.sector; bytes = e.bytes }

abbrev pub writes : List Replayed → List Write
writes [] = []
writes (x ∷ xs) = write_of_entry x.entry ∷ writes xs

pub writes-append : (a b : List Replayed) → writes (a ++ b) ≡ writes a ++ writes b
writes-append [] b = refl
writes-append (x ∷ a) b = ap (λ (r : List Write). write_of_entry x.entry ∷ r) (writes-append a b)

pub length-writes : (a : List Replayed) → length (writes a) ≡ length a
length-writes [] = refl
length-writes (x ∷ a) = ap suc (length-writes a)

-- the first n entries of a section
abbrev pub batch_of : ℕ → List ℕ → ℕ → List Write
batch_of t st zero = []
batch_of t st (suc n) = batch_of t st n ++ (write_of_entry (entry_of t st n) ∷ [])

abbrev pub used_at : ℕ → ℕ → List ℕ → ℕ → List Replayed
used_at t k sec i = used_entry k i (entry_of t sec i)

abbrev pub Every : (Replayed → Type 0) → List Replayed → Type 0
Every Q [] = Unit {0}
Every Q (x ∷ xs) = Q x × Every Q xs

pub every_append : (Q : Replayed → Type 0) (a b : List Replayed) → Every Q a → Every Q b → Every Q (a ++ b)
every_append Q [] b p q = q
every_append Q (x ∷ a) b p q = (p.0, every_append Q a b p.1 q)

pub every-behind : (Q : Replayed → Type 0) (a b : List Replayed) → Every Q (a ++ b) → Every Q b
every-behind Q [] b p = p
every-behind Q (x ∷ a) b p = every-behind Q a b p.1

pub every_get : (Q : Replayed → Type 0) (a : List Replayed) (i : ℕ) (z : Replayed) → i < length a → Every Q a → Q (get_or a i z)
every_get Q [] i z l p = absurd (omega arith)
every_get Q (x ∷ a) zero z l p = p.0
every_get Q (x ∷ a) (suc i) z l p = every_get Q a i z (omega arith) p.1

-- a section of which the first n entries are used, and the others are not
module _ (t k : ℕ) (sec st : List ℕ) (n : ℕ) (le : n ≤ entry_count t)
    (e : (i : ℕ) → i < entry_count t → entry_of t sec i ≡ entry_of t st i)
    (used : (i : ℕ) → i < n → (entry_of t st i).sector ≢ unused)
    (free : (i : ℕ) → n ≤ i → i < entry_count t → (entry_of t st i).sector ≡ unused) where
  used-at : (i : ℕ) → i < n → used_at t k sec i ≡ record { section = k; index = i; entry = entry_of t st i } ∷ []
  used-at i l =
      ap (used_entry k i) (e i (omega arith)) ∙ rw (ne_eqb (entry_of t st i).sector unused (used i l))

  free-at : (i : ℕ) → n ≤ i → i < entry_count t → used_at t k sec i ≡ []
  free-at i l m = ap (used_entry k i) (e i m) ∙ rw (eq-eqb (entry_of t st i).sector unused (free i l m))

  low : (m : ℕ) → m ≤ n → writes (collect m (used_at t k sec)) ≡ batch_of t st m
  low zero l = refl
  low (suc m) l =
      writes-append (collect m (used_at t k sec)) (used_at t k sec m)
      ∙ rw (low m (omega arith), used-at m (omega arith))

  high : (m : ℕ) → n ≤ m → m ≤ entry_count t → writes (collect m (used_at t k sec)) ≡ batch_of t st n
  high zero l h = low 0 (omega arith) ∙ ap (batch_of t st) {x = 0} {y = n} (omega arith)
  high (suc m) l h = go (λ q. high m q (omega arith)) (dec_le n m)
    where
      go : (n ≤ m → writes (collect m (used_at t k sec)) ≡ batch_of t st n) → Dec (n ≤ m)
          → writes (collect (suc m) (used_at t k sec)) ≡ batch_of t st n
      go ih (yes q) =
          writes-append (collect m (used_at t k sec)) (used_at t k sec m)
          ∙ rw (free-at m q (omega arith)) (append-nil (writes (collect m (used_at t k sec))) ∙ ih q)
      go ih (no q) =
          let s : suc m ≡ n = omega arith in
          low (suc m) (omega arith) ∙ ap (batch_of t st) s

  pub used-batch : writes (used_of t k sec) ≡ batch_of t st n
  used-batch = high (entry_count t) le (omega arith)

  pub used-every : (Q : Entry → Type 0) → ((i : ℕ) → i < n → Q (entry_of t st i)) → Every (λ x. Q x.entry) (used_of t k sec)
  used-every Q q = go (entry_count t) (omega arith)
    where
      one : (m : ℕ) → m < entry_count t → Dec (m < n) → Every (λ x. Q x.entry) (used_at t k sec m)
      one m h (yes l) = rw (used-at m l) (q m l, tt)
      one m h (no l) = rw (free-at m (omega arith) h) tt

      go : (m : ℕ) → m ≤ entry_count t → Every (λ x. Q x.entry) (collect m (used_at t k sec))
      go zero h = tt
      go (suc m) h = every_append (λ x. Q x.entry) (collect m (used_at t k sec)) (used_at t k sec m) (go m (omega arith)) (one m (omega arith) (dec_lt m n))

-- ---- one section changes

abbrev Stands : (ℕ → Type 0) → List Found → Type 0
Stands Q [] = Unit {0}
Stands Q (x ∷ xs) = Q x.section × Stands Q xs

stands-insert : (Q : ℕ → Type 0) (x : Found) (L : List Found) → Q x.section → Stands Q L → Stands Q (insert x L)
stands-insert Q x [] l p = (l, tt)
stands-insert Q x (y ∷ ys) l p = go (ltb x.id y.id) (stands-insert Q x ys l p.1)
  where
    go : (b : Bool) → Stands Q (insert x ys) → Stands Q (pick b (x ∷ (y ∷ ys)) (y ∷ insert x ys))
    go true r = (l, p)
    go false r = (p.0, r)

stands : (Q : ℕ → Type 0) (n : ℕ) (ids : ℕ → ℕ) → ((k : ℕ) → k < n → ids k ≢ 0 → Q k) → Stands Q (ordered n ids)
stands Q zero ids h = tt
stands Q (suc n) ids h = go (stands Q n ids (λ k l. h k (omega arith))) (which (eqb (ids n) 0))
  where
    go : Stands Q (ordered n ids) → Which (eqb (ids n) 0) → Stands Q (ordered (suc n) ids)
    go p (is_true t) = rw t p
    go p (is_false f) = rw f (stands-insert Q (record { id = ids n; section = n }) (ordered n ids) (h n (omega arith) (eqb-false (ids n) 0 f)) p)

replay_in-stands : (g : Layout) (v w : List ℕ) (Q : ℕ → Type 0) (L : List Found) → Stands Q L → ((k : ℕ) → Q k → section_of g v k ≡ section_of g w k)
    → replay_in g v L ≡ replay_in g w L
replay_in-stands g v w Q [] p e = refl
replay_in-stands g v w Q (x ∷ L) p e = rw (e x.section p.0, replay_in-stands g v w Q L p.1 e)

module _ (g : Layout) (v w : List ℕ) (k : ℕ) (kl : k < g.sections)
    (same : (j : ℕ) → j ≢ k → section_of g w j ≡ section_of g v j) where
  ids-same : (j : ℕ) → j < g.sections → j ≢ k → due_ids g w j ≡ due_ids g v j
  ids-same j l n = due-same g w v j (same j n)

  -- a list of sections in which k does not stand
  without : (ids : ℕ → ℕ) → ids k ≡ 0 → replay_in g w (ordered g.sections ids) ≡ replay_in g v (ordered g.sections ids)
  without ids z =
      replay_in-stands g w v (λ j. j ≢ k) (ordered g.sections ids)
      (stands (λ j. j ≢ k) g.sections ids (λ j l n q. n (ap ids q ∙ z))) (λ j n. same j n)

  -- the sections but k, and what they replay
  abbrev rest : ℕ → ℕ
  rest i = pick (eqb i k) 0 (due_ids g v i)

  rest-k : rest k ≡ 0
  rest-k = rw (eq-eqb k k refl)

  rest-other : (i : ℕ) → i ≢ k → rest i ≡ due_ids g v i
  rest-other i n = rw (ne_eqb i k n)

  abbrev pub others : List Replayed
  others = replay_in g v (ordered g.sections rest)

  -- k was not whole; k was the oldest
  pub was-torn : due_ids g v k ≡ 0 → replay g v ≡ others
  unfolding replay
  was-torn z = ap (replay_in g v) (ordered-cong g.sections (due_ids g v) rest (λ i l. go i (ℕ_discrete i k)))
    where
      go : (i : ℕ) → Dec (i ≡ k) → due_ids g v i ≡ rest i
      go i (yes q) = ap (due_ids g v) q ∙ z ∙ sym (ap rest q ∙ rest-k)
      go i (no n) = sym (rest-other i n)

  pub was-oldest : due_ids g v k ≢ 0
      → ((j : ℕ) → j < g.sections → j ≢ k → due_ids g v j ≢ 0 → due_ids g v k < due_ids g v j)
      → replay g v ≡ used_of g.width k (section_of g v k) ++ others
  unfolding replay
  was-oldest nz old = ap (replay_in g v) (ordered-goes (due_ids g v) rest k g.sections kl nz rest-k (λ i l n. rest-other i n) old)

  -- k is not whole; k is the newest
  pub is-torn : due_ids g w k ≡ 0 → replay g w ≡ others
  unfolding replay
  is-torn z = ap (replay_in g w) (ordered-cong g.sections (due_ids g w) rest (λ i l. go i l (ℕ_discrete i k))) ∙ without rest rest-k
    where
      go : (i : ℕ) → i < g.sections → Dec (i ≡ k) → due_ids g w i ≡ rest i
      go i l (yes q) = ap (due_ids g w) q ∙ z ∙ sym (ap rest q ∙ rest-k)
      go i l (no n) = ids-same i l n ∙ sym (rest-other i n)

  pub is-newest : due_ids g w k ≢ 0 → ((j : ℕ) → j < g.sections → j ≢ k → due_ids g v j < due_ids g w k)
      → replay g w ≡ others ++ used_of g.width k (section_of g w k)
  unfolding replay
  is-newest nz old =
      ap (replay_in g w) (ordered-comes rest (due_ids g w) k g.sections kl rest-k nz (λ i l n. ids-same i l n ∙ sym (rest-other i n)) (λ i l. go i l (ℕ_discrete i k)))
      ∙ replay_in-append g w (ordered g.sections rest) (record { id = due_ids g w k; section = k } ∷ [])
      ∙ rw (without rest rest-k) (ap (λ (r : List Replayed). others ++ r) (append-nil (used_of g.width k (section_of g w k))))
    where
      go : (i : ℕ) → i < g.sections → Dec (i ≡ k) → rest i < due_ids g w k
      go i l (yes q) = omega (arith, ap rest q ∙ rest-k)
      go i l (no n) = omega (arith, rest-other i n, old i l n)

-- what holds of every whole section's entries holds of all that is replayed
pub every-replay : (g : Layout) (v : List ℕ) (Q : Replayed → Type 0)
    → ((k : ℕ) → k < g.sections → whole_ids g v k ≢ 0 → Every Q (used_of g.width k (section_of g v k))) → Every Q (replay g v)
unfolding replay
every-replay g v Q h = go (ordered g.sections (due_ids g v))
    (stands P g.sections (due_ids g v) (λ k l n. h k l (λ z. n (due-of g v k n ∙ z))))
  where
    P : ℕ → Type 0
    P k = Every Q (used_of g.width k (section_of g v k))

    go : (L : List Found) → Stands P L → Every Q (replay_in g v L)
    go [] s = tt
    go (x ∷ L) s = every_append Q (used_of g.width x.section (section_of g v x.section)) (replay_in g v L) s.0 (go L s.1)

-- ---- a sealed sector: its length, its id; a section of such holds the staged entries

pub length-sealed : (g : Layout) (st : List ℕ) (n j : ℕ) → length st ≡ section_size g.width * 512 → j < section_size g.width → length (sealed g st n j) ≡ 512
unfolding sealed
length-sealed g st n j z l = length-with_id (sector_at st j) n (length_part st (j * 512) 512 (omega arith))

pub id-sealed : (g : Layout) (st : List ℕ) (n j : ℕ) → length st ≡ section_size g.width * 512 → j < section_size g.width → n < 2 ^ 64 → id_of (sealed g st n j) ≡ n
unfolding sealed
id-sealed g st n j z l m = id-with_id (sector_at st j) n (length_part st (j * 512) 512 (omega arith)) m

pub entry-sealed : (g : Layout) (pos : 0 < per_sector g.width) (sec st : List ℕ) (n : ℕ) → length st ≡ section_size g.width * 512
    → ((i : ℕ) → i < section_size g.width → sector_at sec i ≡ sealed g st n i)
    → (i : ℕ) → i < entry_count g.width → entry_of g.width sec i ≡ entry_of g.width st i
unfolding sealed
entry-sealed g pos sec st n z h = entry-stamped g.width pos sec st n z h
