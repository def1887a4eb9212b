-- A commit of which any of the stores have landed, in any order: from the volume u as the flush found it, the ids, the replay and the homes afterwards.
-- None or some: the volume is as durable as u was. All: the batch is entered. (The base is the case in which the first j have landed.)
use Prim.Native.Nat.{ℕ, zero, suc, ◌+◌, ◌-◌, ◌*◌, ◌/◌, ◌%◌, ◌^◌, ◌≤◌, ◌<◌}
use mathlib.Core.Bool.{Bool, true, false}
use mathlib.Core.Path.{◌≡◌, sym, ap, ◌∙◌, subst}
use mathlib.Core.Logic.{◌≢◌}
use mathlib.Core.List.{List, ◌++◌}
use native.Mathlib.Omega.{arith}
use native.Mathlib.Decide.{dec_lt, ℕ_discrete}
use native.Mathlib.Nat.{mul-le-mul_right, suc-mul, mod-lt, div-add-mod', add-mod_right}
use lib.ListN.{length, get_or}
use Rattle.octets.specs.Choice.{pick}
use Rattle.model.specs.Guarantees.{Outside}
use Rattle.octets.specs.Sectors.{sector_at}
use Rattle.on_disk.specs.Layout.{entry_count, section_size}
use Rattle.on_disk.specs.Section.{unused, id_of, entry_of}
use Rattle.octets.specs.Lists.{all_below}
use Rattle.model.specs.Journal.{whole_id, greatest_in, sealed, due_ids, section_of, greatest_id, whole_ids, Replayed, used_of, replay}
use Rattle.model.specs.Tag.{Tag}
use Rattle.model.specs.Ledger.{Write, Contents, entered}
use Rattle.model.proofs.Replays.{mentions, mentions-append, or_right, Clean, Durable, Pass, tear, commit, pass-starts, durable-map, Which, is_true, is_false, which}
use Rattle.model.proofs.Journals.{id-sealed, entry-sealed, top-section, top_least, due-of, due-le, due-new, Every, writes, writes-append, batch_of, whole-all, whole-not, whole_le, top-ge, top-le, used-batch, used-every, others, was-torn, was-oldest, is-torn, is-newest}
use Rattle.model.proofs.Homes.{Home}
use Rattle.model.proofs.Invariant.{Premises, Good, GoodSection, Disk, Staged}
use Rattle.on_disk.specs.declared.Layout.{Layout}

-- two numbers that leave one rest are a divisor apart
pub apart-mod : (a b s : ℕ) → a < b → a % s ≡ b % s → a + s ≤ b
apart-mod a b s l e = go (dec_lt (a / s) (b / s))
  where
    go : Dec (a / s < b / s) → a + s ≤ b
    go (yes q) =
        let h : suc (a / s) * s ≤ b / s * s = mul-le-mul_right s q in
        let k : suc (a / s) * s ≡ a / s * s + s = suc-mul (a / s) s in
        omega (arith, div-add-mod' a s, div-add-mod' b s)
    go (no q) =
        let h : b / s * s ≤ a / s * s = mul-le-mul_right s (omega arith) in
        absurd (omega (arith, div-add-mod' a s, div-add-mod' b s))

-- a test that does not pass everywhere below n fails at a place
pub data Fails (n : ℕ) (f : ℕ → Bool) : Type 0 where
  at : (i : ℕ) → i < n → f i ≡ false → Fails n f

pub fails : (n : ℕ) (f : ℕ → Bool) → all_below n f ≡ false → Fails n f
fails zero f e = absurd (let z : ◌≡◌ {A = ℕ} 0 1 = cc in omega arith)
fails (suc n) f e = go (fails n f) (which (all_below n f)) (which (f n))
  where
    up : Fails n f → Fails (suc n) f
    up (at i l q) = at i (omega arith) q

    go : (all_below n f ≡ false → Fails n f) → Which (all_below n f) → Which (f n) → Fails (suc n) f
    go ih (is_false q) d = up (ih q)
    go ih (is_true q) (is_false r) = at n (omega arith) r
    go ih (is_true q) (is_true r) = absurd (let t : all_below (suc n) f ≡ true = rw (q, r) in let z : ◌≡◌ {A = ℕ} 0 1 = cc in omega arith)

module _ (tag : Tag) (g : Layout) (v₀ : List ℕ) (X : Premises tag g v₀)
    (u : List ℕ) (c : Contents) (D : Disk tag g v₀ u c) (C : Clean g.provided (Home g tag u) c)
    (n m : ℕ) (st : List ℕ) (S : Staged tag g v₀ st n) (given : m < 2 ^ 64 - 1) (nxt : m ≡ greatest_id g u + 1)
    (w : List ℕ) (landed : ℕ → Bool)
    (long : length w ≡ length u)
    (outside : (b : ℕ) → Outside g b → get_or w b 0 ≡ get_or u b 0)
    (same : (i : ℕ) → i ≢ (m - 1) % g.sections → section_of g w i ≡ section_of g u i)
    (homes : (s : ℕ) (d : List ℕ) → Home g tag u s d → Home g tag w s d)
    (here : (i : ℕ) → i < section_size g.width
    → sector_at (section_of g w ((m - 1) % g.sections)) i ≡ pick (landed i) (sealed g st m i) (sector_at (section_of g u ((m - 1) % g.sections)) i)) where
  abbrev k : ℕ
  k = (m - 1) % g.sections

  kl : k < g.sections
  kl = mod-lt (m - 1) X.ranged.s-low

  stamp : (i : ℕ) → i < section_size g.width → id_of (sealed g st m i) ≡ m
  stamp i h = id-sealed g st m i S.size h (omega (arith, given))

  new-id : (i : ℕ) → i < section_size g.width → landed i ≡ true → id_of (sector_at (section_of g w k) i) ≡ m
  new-id i h t = ap id_of (here i h ∙ ap (λ (b : Bool). pick b (sealed g st m i) (sector_at (section_of g u k) i)) t) ∙ stamp i h

  highest : (i : ℕ) → i < g.sections → greatest_in g.width (section_of g u i) ≤ greatest_id g u
  highest = top-section g u

  old_id : (i : ℕ) → i < section_size g.width → landed i ≡ false → id_of (sector_at (section_of g w k) i) < m
  old_id i h f =
      let e : sector_at (section_of g w k) i ≡ sector_at (section_of g u k) i =
      here i h ∙ ap (λ (b : Bool). pick b (sealed g st m i) (sector_at (section_of g u k) i)) f in
      omega (arith, ap id_of e, top-ge g.width (section_of g u k) i h, highest k kl, nxt)

  id-le : (i : ℕ) → i < section_size g.width → id_of (sector_at (section_of g w k) i) ≤ m
  id-le i h = go (which (landed i))
    where
      go : Which (landed i) → id_of (sector_at (section_of g w k) i) ≤ m
      go (is_true t) = omega (arith, new-id i h t)
      go (is_false f) = omega (arith, old_id i h f)

  top-le-m : greatest_id g w ≤ m
  top-le-m = top_least g w m (λ i h. go i h (ℕ_discrete i k))
    where
      go : (i : ℕ) → i < g.sections → Dec (i ≡ k) → greatest_in g.width (section_of g w i) ≤ m
      go i h (yes q) = subst (λ (x : ℕ). greatest_in g.width (section_of g w x) ≤ m) (sym q) (top-le g.width (section_of g w k) m id-le)
      go i h (no q) = rw (same i q) (omega (arith, highest i h, nxt))

  in_window : (i : ℕ) → i < g.sections → i ≢ k → whole_ids g u i ≢ 0 → m < whole_ids g u i + g.sections
  in_window i h q z = miss (ℕ_discrete m (whole_ids g u i + g.sections))
    where
      miss : Dec (m ≡ whole_ids g u i + g.sections) → m < whole_ids g u i + g.sections
      miss (yes f) =
          let x : m - 1 ≡ whole_ids g u i - 1 + g.sections = omega arith in
          absurd (q (sym (D.places i h z) ∙ sym (add-mod_right (whole_ids g u i - 1) g.sections) ∙ ap (λ (y : ℕ). y % g.sections) (sym x)))
      miss (no f) = omega (arith, nxt, D.window i h z, f)

  oldest : whole_ids g u k ≢ 0 → (i : ℕ) → i < g.sections → i ≢ k → whole_ids g u i ≢ 0 → whole_ids g u k < whole_ids g u i
  oldest nz i h q z =
      let a : whole_ids g u k ≤ greatest_in g.width (section_of g u k) = whole_le g.width (section_of g u k) in
      let b : greatest_in g.width (section_of g u k) ≤ greatest_id g u = highest k kl in
      let d : whole_ids g u k - 1 + g.sections ≤ m - 1 = apart-mod (whole_ids g u k - 1) (m - 1) g.sections (omega arith) (D.places k kl nz) in
      let y : greatest_id g u < whole_ids g u i + g.sections = D.window i h z in
      let ne : whole_ids g u k ≢ whole_ids g u i = λ r. q (sym (D.places i h z) ∙ ap (λ (y : ℕ). (y - 1) % g.sections) (sym r) ∙ D.places k kl nz) in
      omega arith

  older : due_ids g u k ≢ 0 → (i : ℕ) → i < g.sections → i ≢ k → due_ids g u i ≢ 0 → due_ids g u k < due_ids g u i
  older nz i h q z =
      let a : due_ids g u k ≡ whole_ids g u k = due-of g u k nz in
      let b : due_ids g u i ≡ whole_ids g u i = due-of g u i z in
      rw (a, b) (oldest (λ e. nz (a ∙ e)) i h q (λ e. z (b ∙ e)))

  ids-same : (i : ℕ) → i ≢ k → whole_ids g w i ≡ whole_ids g u i
  ids-same i q = ap (whole_id g.width) (same i q)

  -- the other sections keep all that is to be kept
  abbrev O : List Replayed
  O = others g u w k kl same

  kept : Durable g.provided (Home g tag u) (writes O) c
  kept = go (ℕ_discrete (due_ids g u k) 0)
    where
      go : Dec (due_ids g u k ≡ 0) → Durable g.provided (Home g tag u) (writes O) c
      go (yes z) = rw (was-torn g u w k kl same z) at D.durable
      go (no nz) =
          let e : replay g u ≡ used_of g.width k (section_of g u k) ++ O = was-oldest g u w k kl same nz (older nz) in
          tear g.provided (writes (used_of g.width k (section_of g u k))) (writes O) C
          (subst (λ (x : List Write). Durable g.provided (Home g tag u) x c)
          (ap writes e ∙ writes-append (used_of g.width k (section_of g u k)) O) D.durable)

  good-other : (i : ℕ) → i < g.sections → whole_ids g w i ≢ 0 → i ≢ k → GoodSection tag g i (whole_ids g w i) (section_of g w i)
  good-other i h z q = rw (same i q) (D.goods i h (rw (ids-same i q) at z))

  -- some landed and some not: the section is torn
  module _ (i₁ : ℕ) (l₁ : i₁ < section_size g.width) (t₁ : landed i₁ ≡ true) (i₀ : ℕ) (l₀ : i₀ < section_size g.width) (f₀ : landed i₀ ≡ false) where
    torn : whole_ids g w k ≡ 0
    torn = go (which (landed 0))
      where
        go : Which (landed 0) → whole_ids g w k ≡ 0
        go (is_true t) = whole-not g.width (section_of g w k) i₀ l₀ (λ q. absurd (omega (arith, q, old_id i₀ l₀ f₀, new-id 0 (omega arith) t)))
        go (is_false f) = whole-not g.width (section_of g w k) i₁ l₁ (λ q. absurd (omega (arith, q, new-id i₁ l₁ t₁, old_id 0 (omega arith) f)))

    torn-due : due_ids g w k ≡ 0
    torn-due = omega (arith, due-le g w k, torn)

    pub disk-some : Disk tag g v₀ w c
    disk-some =
        record {
          sized = long ∙ D.sized;
          kept = λ b o. outside b o ∙ D.kept b o;
          places = λ i h z. pl i h z (ℕ_discrete i k);
          window = λ i h z. wi i h z (ℕ_discrete i k);
          top = omega (arith, top-le-m, given);
          goods = λ i h z. gd i h z (ℕ_discrete i k);
          durable = rw (is-torn g u w k kl same torn-due) (durable-map g.provided homes kept);
        }
      where
        gd : (i : ℕ) → i < g.sections → whole_ids g w i ≢ 0 → Dec (i ≡ k) → GoodSection tag g i (whole_ids g w i) (section_of g w i)
        gd i h z (yes q) = absurd (z (ap (whole_ids g w) q ∙ torn))
        gd i h z (no q) = good-other i h z q

        pl : (i : ℕ) → i < g.sections → whole_ids g w i ≢ 0 → Dec (i ≡ k) → (whole_ids g w i - 1) % g.sections ≡ i
        pl i h z (yes q) = absurd (z (ap (whole_ids g w) q ∙ torn))
        pl i h z (no q) = rw (ids-same i q) (D.places i h (rw (ids-same i q) at z))

        wi : (i : ℕ) → i < g.sections → whole_ids g w i ≢ 0 → Dec (i ≡ k) → greatest_id g w < whole_ids g w i + g.sections
        wi i h z (yes q) = absurd (z (ap (whole_ids g w) q ∙ torn))
        wi i h z (no q) = rw (ids-same i q) (omega (arith, top-le-m, in_window i h q (rw (ids-same i q) at z)))

  -- all landed: the batch is in the journal
  module _ (all : (i : ℕ) → i < section_size g.width → landed i ≡ true) where
    stamped : (i : ℕ) → i < section_size g.width → sector_at (section_of g w k) i ≡ sealed g st m i
    stamped i h = here i h ∙ ap (λ (b : Bool). pick b (sealed g st m i) (sector_at (section_of g u k) i)) (all i h)

    whole-now : whole_ids g w k ≡ m
    whole-now = whole-all g.width (section_of g w k) m (λ i h. new-id i h (all i h))

    due-now : due_ids g w k ≡ m
    due-now = due-new g u w k (omega (arith, whole-now, nxt)) ∙ whole-now

    pub top-now : greatest_id g w ≡ m
    top-now =
        let b : greatest_in g.width (section_of g w k) ≤ greatest_id g w = top-section g w k kl in
        let d : id_of (sector_at (section_of g w k) 0) ≤ greatest_in g.width (section_of g w k) = top-ge g.width (section_of g w k) 0 (omega arith) in
        omega (arith, top-le-m, new-id 0 (omega arith) (all 0 (omega arith)))

    entries : (i : ℕ) → i < entry_count g.width → entry_of g.width (section_of g w k) i ≡ entry_of g.width st i
    entries = entry-sealed g X.some (section_of g w k) st m S.size stamped

    used : (i : ℕ) → i < n → (entry_of g.width st i).sector ≢ unused
    used i h q = absurd (omega (arith, (S.goods i h).low, X.ranged.p-high, q))

    batch-in : writes (used_of g.width k (section_of g w k)) ≡ batch_of g.width st n
    batch-in = used-batch g.width k (section_of g w k) st n S.count entries used S.free

    batch-good : Every (λ x. Good tag g x.entry) (used_of g.width k (section_of g w k))
    batch-good = used-every g.width k (section_of g w k) st n S.count entries used S.free (Good tag g) S.goods

    grown : replay g w ≡ O ++ used_of g.width k (section_of g w k)
    grown =
        is-newest g u w k kl same (λ q. absurd (omega (arith, q, due-now, nxt)))
        (λ i h q. omega (arith, due-now, due-le g u i, whole_le g.width (section_of g u i), highest i h, nxt))

    as-batch : writes (replay g w) ≡ writes O ++ batch_of g.width st n
    as-batch =
        ap writes grown ∙ writes-append O (used_of g.width k (section_of g w k)) ∙ ap (λ (x : List Write). writes O ++ x) batch-in

    pub disk-all : Disk tag g v₀ w (entered c (batch_of g.width st n))
    disk-all =
        record {
          sized = long ∙ D.sized;
          kept = λ b o. outside b o ∙ D.kept b o;
          places = λ i h z. pl i h z (ℕ_discrete i k);
          window = λ i h z. wi i h z (ℕ_discrete i k);
          top = omega (arith, top-le-m, given);
          goods = λ i h z. gd i h z (ℕ_discrete i k);
          durable = rw as-batch
              (durable-map g.provided homes (commit g.provided (writes O) (batch_of g.width st n) C kept));
        }
      where
        gd : (i : ℕ) → i < g.sections → whole_ids g w i ≢ 0 → Dec (i ≡ k) → GoodSection tag g i (whole_ids g w i) (section_of g w i)
        gd i h z (yes q) = subst (λ (x : ℕ). GoodSection tag g x (whole_ids g w x) (section_of g w x)) (sym q) (record { entries = batch-good })
        gd i h z (no q) = good-other i h z q

        pl : (i : ℕ) → i < g.sections → whole_ids g w i ≢ 0 → Dec (i ≡ k) → (whole_ids g w i - 1) % g.sections ≡ i
        pl i h z (yes q) = ap (λ (x : ℕ). (x - 1) % g.sections) (ap (whole_ids g w) q ∙ whole-now) ∙ sym q
        pl i h z (no q) = rw (ids-same i q) (D.places i h (rw (ids-same i q) at z))

        wi : (i : ℕ) → i < g.sections → whole_ids g w i ≢ 0 → Dec (i ≡ k) → greatest_id g w < whole_ids g w i + g.sections
        wi i h z (yes q) = omega (arith, top-le-m, ap (whole_ids g w) q ∙ whole-now, X.ranged.s-low)
        wi i h z (no q) = rw (ids-same i q) (omega (arith, top-le-m, in_window i h q (rw (ids-same i q) at z)))

    -- the batch is mentioned by what is to be replayed, and a pass over it begins
    pub batch-named : (s : ℕ) → mentions (batch_of g.width st n) s ≡ true → mentions (writes (replay g w)) s ≡ true
    batch-named s q =
        ap (λ (x : List Write). mentions x s) as-batch ∙ mentions-append (writes O) (batch_of g.width st n) s
        ∙ or_right (mentions (writes O) s) (mentions (batch_of g.width st n) s) q

    pub batch-starts : Pass g.provided (Home g tag w) (entered c (batch_of g.width st n)) (batch_of g.width st n) 0
    batch-starts = pass-starts g.provided (Home g tag w) c (batch_of g.width st n) (λ s h. homes s (c s) (C s h))
