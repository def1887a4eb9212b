-- Tests of states, over plain values.
use Prim.Native.Nat.{ℕ, ◌*◌, ◌≤◌, ◌<◌}
use mathlib.Core.Bool.{Bool, true, false, not, ◌&&◌}
use mathlib.Core.Path.{◌≡◌, refl, sym, ap, ◌∙◌}
use mathlib.Core.List.{List}
use lib.ListN.{length}
use lib.Dec.{leb, ltb, eqb}
use native.Mathlib.Omega.{arith}
use borrow.Author.Tests.{eqb-true, eqb-false, leb-true, ltb-true, lt-ltb, le-ltb, not-true}
use Rattle.on_disk.proofs.Addresses.{and_both}
use Rattle.model.proofs.Steps.{never}
use Rattle.on_disk.specs.declared.Layout.{Layout}
use Rattle.model.specs.declared.Phase.{Phase}
use Rattle.model.specs.declared.Phase.TheVariants.{Committing, WritingBack, Recovering}
use Rattle.model.specs.declared.State.{State}
use Rattle.on_disk.specs.Layout.{entry_count, section_size, needed, layout_ok}
use Rattle.model.specs.Journal.{replay}
use Rattle.model.specs.Store.{most_home_stores, home_count, steps_of}
use Rattle.on_disk.specs.Section.{entry_of}
use Rattle.model.specs.State.{last_id, place_ok, state_ok, staging_ok, store_ok, staged_ok, volume_loan_ok, volume_ok, replay_ok}

pub place-committing : (g : Layout) (count id size : ℕ) (p : Phase) (j : ℕ) → size ≡ section_size g.width → p ≡ Committing j
    → ltb j size && (ltb 0 count && ltb id last_id) ≡ place_ok g count id p
place-committing g count id size p j e q = rw (q, e)

pub state-no : (s : State) → layout_ok s.layout ≡ false → false ≡ state_ok s
unfolding state_ok
state-no s e = rw e

pub state-yes : (s : State) (most : ℕ) (place : Bool) → layout_ok s.layout ≡ true → most ≡ entry_count s.layout.width
    → place ≡ place_ok s.layout s.count s.id s.phase → leb s.count most && (not (eqb s.id 0) && place) ≡ state_ok s
unfolding state_ok
state-yes s most place l m p = rw (l, m, p)

-- a sound state's layout is in range
pub state-layout : (s : State) → state_ok s ≡ true → layout_ok s.layout ≡ true
unfolding state_ok
state-layout s e = front (layout_ok s.layout) _ e
  where
    front : (a b : Bool) → a && b ≡ true → a ≡ true
    front true b q = refl
    front false b q = q

pub staging-length : (g : Layout) (st : List ℕ) → staging_ok g st ≡ true → length st ≡ section_size g.width * 512
unfolding staging_ok
staging-length g st e = eqb-true (length st) (section_size g.width * 512) e

pub staged-lent : (s : State) (st : List ℕ) → staged_ok s st ≡ true → staging_ok s.layout st ≡ true
unfolding staged_ok
staged-lent s st e = (and_both (staging_ok s.layout st) _ e).0

pub staged-length : (s : State) (st : List ℕ) → staged_ok s st ≡ true → length st ≡ section_size s.layout.width * 512
staged-length s st e = staging-length s.layout st (staged-lent s st e)

-- the entry at hand has the store
pub staged-store : (s : State) (st : List ℕ) → staged_ok s st ≡ true → (i h : ℕ) → s.phase ≡ WritingBack i h
    → h < home_count s.layout (entry_of s.layout.width st i)
unfolding staged_ok
staged-store s st e i h q =
    ltb-true h (home_count s.layout (entry_of s.layout.width st i))
    (ap (store_ok s.layout st) (sym q) ∙ (and_both (staging_ok s.layout st) _ e).1)

pub staged-unfit : (s : State) (st : List ℕ) → staging_ok s.layout st ≡ false → false ≡ staged_ok s st
unfolding staged_ok
staged-unfit s st e = rw e

pub staged-fit : (s : State) (st : List ℕ) (r : Bool) → staging_ok s.layout st ≡ true → r ≡ store_ok s.layout st s.phase → r ≡ staged_ok s st
unfolding staged_ok
staged-fit s st r e q = rw (e, q)

-- the same by the phase
pub staged-in : (s : State) (st : List ℕ) (p : Phase) → s.phase ≡ p → staging_ok s.layout st ≡ true → store_ok s.layout st p ≡ true → staged_ok s st ≡ true
staged-in s st p q a b = sym (staged-fit s st true a (sym (ap (store_ok s.layout st) q ∙ b)))

pub state-count : (s : State) → state_ok s ≡ true → s.count ≤ entry_count s.layout.width
unfolding state_ok
state-count s e =
    let a = and_both (layout_ok s.layout) _ e in
    leb-true s.count (entry_count s.layout.width) (and_both (leb s.count (entry_count s.layout.width)) _ a.1).0

-- what a sound state says of its id and its place

place_of : (s : State) → state_ok s ≡ true → (not (eqb s.id 0) ≡ true) × (place_ok s.layout s.count s.id s.phase ≡ true)
unfolding state_ok
place_of s e =
    let a = and_both (layout_ok s.layout) _ e in
    let b = and_both (leb s.count (entry_count s.layout.width)) _ a.1 in
    and_both (not (eqb s.id 0)) _ b.1

pub state-id : (s : State) → state_ok s ≡ true → 0 < s.id
state-id s e =
    let n : s.id ≡ 0 → ⊥ = eqb-false s.id 0 (not-true (eqb s.id 0) (place_of s e).0) in
    omega arith

pub state-committing : (s : State) → state_ok s ≡ true → (j : ℕ) → s.phase ≡ Committing j → (j < section_size s.layout.width) × (s.id < last_id)
state-committing s e j q =
    let p : place_ok s.layout s.count s.id (Committing j) ≡ true = ap (place_ok s.layout s.count s.id) (sym q) ∙ (place_of s e).1 in
    let a = and_both (ltb j (section_size s.layout.width)) _ p in
    let b = and_both (ltb 0 s.count) _ a.1 in
    (ltb-true j (section_size s.layout.width) a.0, ltb-true s.id last_id b.1)

-- the place of a commit moves on
pub state-commits : (s : State) → state_ok s ≡ true → (i : ℕ) → s.phase ≡ Committing i → (j : ℕ) → j < section_size s.layout.width
    → state_ok (record { layout = s.layout; phase = Committing j; count = s.count; id = s.id }) ≡ true
unfolding state_ok
state-commits s e i q j l =
    let a = and_both (layout_ok s.layout) _ e in
    let b = and_both (leb s.count (entry_count s.layout.width)) _ a.1 in
    let c = place_of s e in
    let p : place_ok s.layout s.count s.id (Committing i) ≡ true = ap (place_ok s.layout s.count s.id) (sym q) ∙ c.1 in
    let d = and_both (ltb i (section_size s.layout.width)) _ p in
    rw (a.0, b.0, c.0, lt-ltb j (section_size s.layout.width) l, d.1)

pub state-writing-back : (s : State) → state_ok s ≡ true → (i h : ℕ) → s.phase ≡ WritingBack i h → (i < s.count) × (i < entry_count s.layout.width) × (h < most_home_stores)
state-writing-back s e i h q =
    let p : place_ok s.layout s.count s.id (WritingBack i h) ≡ true = ap (place_ok s.layout s.count s.id) (sym q) ∙ (place_of s e).1 in
    let a = and_both (ltb i s.count) _ p in
    let l = ltb-true i s.count a.0 in
    (l, omega (arith, state-count s e), ltb-true h most_home_stores a.1)

-- ---- volumes

pub volume-unfit : (s : State) (v : List ℕ) → volume_loan_ok v && leb (needed s.layout * 512) (length v) ≡ false → false ≡ volume_ok s v
unfolding volume_ok
volume-unfit s v e = go (volume_loan_ok v) (leb (needed s.layout * 512) (length v)) e
  where
    go : (a b : Bool) → a && b ≡ false → false ≡ a && (b && replay_ok s.layout v s.phase)
    go false b q = refl
    go true false q = refl
    go true true q = absurd (never (sym q))

pub volume-fit : (s : State) (v : List ℕ) (r : Bool) → volume_loan_ok v && leb (needed s.layout * 512) (length v) ≡ true → r ≡ replay_ok s.layout v s.phase → r ≡ volume_ok s v
unfolding volume_ok
volume-fit s v r e q =
    let a = and_both (volume_loan_ok v) (leb (needed s.layout * 512) (length v)) e in
    rw (a.0, a.1, q)

pub fit-room : (s : State) (v : List ℕ) → volume_loan_ok v && leb (needed s.layout * 512) (length v) ≡ true → needed s.layout * 512 ≤ length v
fit-room s v e = leb-true (needed s.layout * 512) (length v) (and_both (volume_loan_ok v) (leb (needed s.layout * 512) (length v)) e).1

-- the same by the phase
module _ (s : State) (v : List ℕ) (fit : volume_loan_ok v && leb (needed s.layout * 512) (length v) ≡ true) where
  pub volume-in : (p : Phase) → s.phase ≡ p → replay_ok s.layout v p ≡ true → volume_ok s v ≡ true
  volume-in p q e = sym (volume-fit s v true fit (sym (ap (replay_ok s.layout v) q ∙ e)))

  pub volume-below : (k : ℕ) → s.phase ≡ Recovering k → k < steps_of s.layout (replay s.layout v) → volume_ok s v ≡ true
  volume-below k q l = volume-in (Recovering k) q (lt-ltb k (steps_of s.layout (replay s.layout v)) l)

  pub volume-past : (k : ℕ) → s.phase ≡ Recovering k → steps_of s.layout (replay s.layout v) ≤ k → volume_ok s v ≡ false
  volume-past k q l =
      sym (volume-fit s v false fit (sym (ap (replay_ok s.layout v) q ∙ le-ltb k (steps_of s.layout (replay s.layout v)) l)))

-- what a volume that passed is good for
pub volume-room : (s : State) (v : List ℕ) → volume_ok s v ≡ true → needed s.layout * 512 ≤ length v
unfolding volume_ok
volume-room s v e =
    let a = and_both (volume_loan_ok v) _ e in
    leb-true (needed s.layout * 512) (length v) (and_both (leb (needed s.layout * 512) (length v)) _ a.1).0

pub volume-replay : (s : State) (v : List ℕ) → volume_ok s v ≡ true → (k : ℕ) → s.phase ≡ Recovering k → k < steps_of s.layout (replay s.layout v)
unfolding volume_ok
volume-replay s v e k q =
    let a = and_both (volume_loan_ok v) _ e in
    let b = and_both (leb (needed s.layout * 512) (length v)) _ a.1 in
    ltb-true k (steps_of s.layout (replay s.layout v)) (ap (replay_ok s.layout v) (sym q) ∙ b.1)
