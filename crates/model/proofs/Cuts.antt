-- Every cut leaves a volume on which the ledger's contents are durable.
use Prim.Native.Nat.{ℕ, ◌+◌, ◌-◌, ◌*◌, ◌/◌, ◌%◌, ◌^◌, ◌≤◌, ◌<◌}
use mathlib.Core.Bool.{Bool, true, false, not, ◌&&◌}
use mathlib.Core.Path.{◌≡◌, refl, sym, ap, ◌∙◌, subst}
use mathlib.Core.Logic.{◌≢◌, ◌⊎◌, inr, ⊎_elim}
use mathlib.Core.List.{List}
use native.Mathlib.Omega.{arith}
use native.Mathlib.Decide.{dec_le, dec_lt}
use native.Mathlib.Nat.{mod-lt}
use lib.ListN.{get_or}
use Rattle.octets.specs.Choice.{pick}
use Rattle.octets.specs.Parts.{part, same}
use Rattle.octets.specs.Sectors.{sector_at}
use Rattle.octets.proofs.Parts.{same_true, eq-same}
use Rattle.octets.proofs.Sectors.{sector-part}
use Rattle.on_disk.specs.Geometry.{Apart, before, behind}
use Rattle.on_disk.specs.Layout.{section_size, section_at, base, data_at, tag_byte}
use Rattle.on_disk.specs.Section.{id_of}
use Rattle.octets.specs.Lists.{all_below}
use Rattle.model.specs.Journal.{sealed, section_of, greatest_id, replay}
use Rattle.model.specs.Tag.{Tag}
use Rattle.model.specs.Ledger.{Contents, Ledger, entered}
use Rattle.model.specs.Medium.{Medium, volume_in}
use Rattle.model.specs.World.{Live}
use Rattle.model.specs.declared.Phase.TheVariants.{Committing}
use Rattle.model.proofs.Replays.{mentions, Clean, Pass, Which, is_true, is_false, which}
use Rattle.octets.proofs.Lists.{below_all}
use Rattle.model.proofs.Journals.{top-section, id-sealed, top-ge, writes, batch_of}
use Rattle.on_disk.proofs.Addresses.{tag-sector, data-high, tag-high, section-apart, section-low}
use Rattle.model.proofs.Volumes.{part_bytes, sectors-ext, volume-ext, get_or-sector}
use Rattle.model.specs.Guarantees.{Outside}
use Rattle.model.proofs.Homes.{Home}
use Rattle.model.proofs.Invariant.{Premises, Disk, Staged, slot, Landed, new, old, Torn, AtCommit, Lives, stopped, working, in_filling, in_committing, in_writing_back, in_recovering}
use Rattle.model.proofs.Commits.{Fails, at, fails, disk-some, disk-all, top-now, batch-named, batch-starts}
use Rattle.on_disk.specs.declared.Layout.{Layout}

pub and-false : (a : Bool) → ◌&&◌ a false ≡ false
and-false true = refl
and-false false = refl

not-false : (t : Bool) → not t ≡ false → t ≡ true
not-false true e = refl
not-false false e = sym e

not-true : (t : Bool) → not t ≡ true → t ≡ false
not-true true e = sym e
not-true false e = refl

module _ (tag : Tag) (g : Layout) (v₀ : List ℕ) (X : Premises tag g v₀) where
  -- ---- sectors of one section

  module _ (u : List ℕ) (c : Contents) (D : Disk tag g v₀ u c) (C : Clean g.provided (Home g tag u) c)
      (n m : ℕ) (st : List ℕ) (S : Staged tag g v₀ st n) (given : m < 2 ^ 64 - 1) (nxt : m ≡ greatest_id g u + 1)
      (j : ℕ) (w : List ℕ) (T : Torn tag g v₀ u st m j w) where
    abbrev k : ℕ
    k = (m - 1) % g.sections

    kb : section_at g k + section_size g.width ≤ base g
    kb = section-low g X.ranged k (mod-lt (m - 1) X.ranged.s-low)

    abbrev landed : ℕ → Bool
    landed i = same (sector_at w (slot tag g v₀ m + i)) (sealed g st m i)

    -- a byte outside the journal is as it was
    t-byte : (b : ℕ) → (b < section_at g 0 * 512) ⊎ (base g * 512 ≤ b) → get_or w b 0 ≡ get_or u b 0
    t-byte b o =
        sym (get_or-sector w b)
        ∙ ap (λ (x : List ℕ). get_or x (b % 512) 0) (T.other (b / 512) (λ i h. ⊎_elim (λ q. omega arith) (λ q. omega (arith, kb)) o))
        ∙ get_or-sector u b

    t-outside : (b : ℕ) → Outside g b → get_or w b 0 ≡ get_or u b 0
    t-outside b o = t-byte b o.journal

    -- and so is everything behind it
    t-behind : (b n : ℕ) → base g * 512 ≤ b → part w b n ≡ part u b n
    t-behind b n l = part_bytes w u b n T.long (λ i h. t-byte (b + i) (inr (omega arith)))

    t_same : (i : ℕ) → i ≢ k → section_of g w i ≡ section_of g u i
    t_same i q = sectors-ext w u (section_at g i) (section_size g.width) (λ a l. T.other (section_at g i + a) (λ b h. go a b l h (section-apart g X.ranged i k q)))
      where
        go : (a b : ℕ) → a < section_size g.width → b < section_size g.width
            → Apart (section_at g i * 512) (section_size g.width * 512) (section_at g k * 512) (section_size g.width * 512)
            → section_at g i + a ≢ section_at g k + b
        go a b l h (before x) = omega arith
        go a b l h (behind x) = omega arith

    t-homes : (s : ℕ) (d : List ℕ) → Home g tag u s d → Home g tag w s d
    t-homes s d p = (
      t-behind (data_at g s * 512) 512 (omega (arith, data-high g X.ranged s)) ∙ p.0,
      t-behind (tag_byte g s) g.width (omega (arith, tag-high g X.ranged s, tag-sector g X.ranged s)) ∙ p.1,
    )

    fresh : (i : ℕ) → landed i ≡ true → sector_at w (slot tag g v₀ m + i) ≡ sealed g st m i
    fresh i e = same_true (sector_at w (slot tag g v₀ m + i)) (sealed g st m i) e

    stale : (i : ℕ) → i < section_size g.width → landed i ≡ false → sector_at w (slot tag g v₀ m + i) ≡ sector_at u (slot tag g v₀ m + i)
    stale i l e = go (T.each i l)
      where
        go : Landed tag g v₀ u st m j i (sector_at w (slot tag g v₀ m + i)) → sector_at w (slot tag g v₀ m + i) ≡ sector_at u (slot tag g v₀ m + i)
        go (old q) = q
        go (new b q) =
            let t : landed i ≡ true = rw q (eq-same (sealed g st m i) (sealed g st m i) refl) in
            absurd (let z : ◌≡◌ {A = ℕ} 0 1 = cc in omega arith)

    t-here : (i : ℕ) → i < section_size g.width
        → sector_at (section_of g w k) i ≡ pick (landed i) (sealed g st m i) (sector_at (section_of g u k) i)
    t-here i l = sector-part w (section_at g k) (section_size g.width) i l ∙ go (which (landed i))
      where
        go : Which (landed i) → sector_at w (slot tag g v₀ m + i) ≡ pick (landed i) (sealed g st m i) (sector_at (section_of g u k) i)
        go (is_true t) = fresh i t ∙ rw t
        go (is_false f) = stale i l f ∙ sym (sector-part u (section_at g k) (section_size g.width) i l) ∙ rw f

    -- not all landed
    torn-disk : (i₀ : ℕ) → i₀ < section_size g.width → landed i₀ ≡ false → Disk tag g v₀ w c
    torn-disk i₀ l₀ f₀ = go (which (all_below (section_size g.width) (λ i. not (landed i))))
      where
        some : Fails (section_size g.width) (λ i. not (landed i)) → Disk tag g v₀ w c
        some (at i₁ l₁ e) =
            disk-some tag g v₀ X u c D C n m st S given nxt w landed T.long t-outside t_same t-homes t-here
            i₁ l₁ (not-false (landed i₁) e) i₀ l₀ f₀

        none : ((i : ℕ) → i < section_size g.width → landed i ≡ false) → w ≡ u
        none z = volume-ext X.sectors w u (T.long ∙ D.sized ∙ X.whole) (D.sized ∙ X.whole) (λ a l. one a (dec_le (slot tag g v₀ m) a) (dec_lt a (slot tag g v₀ m + section_size g.width)))
          where
            one : (a : ℕ) → Dec (slot tag g v₀ m ≤ a) → Dec (a < slot tag g v₀ m + section_size g.width) → sector_at w a ≡ sector_at u a
            one a (no p) d = T.other a (λ i h. omega arith)
            one a (yes p) (no q) = T.other a (λ i h. omega arith)
            one a (yes p) (yes q) =
                let x : slot tag g v₀ m + (a - slot tag g v₀ m) ≡ a = omega arith in
                subst (λ (y : ℕ). sector_at w y ≡ sector_at u y) x (stale (a - slot tag g v₀ m) (omega arith) (z (a - slot tag g v₀ m) (omega arith)))

        go : Which (all_below (section_size g.width) (λ i. not (landed i))) → Disk tag g v₀ w c
        go (is_true t) =
            subst (λ (x : List ℕ). Disk tag g v₀ x c)
            (sym (none (λ i l. not-true (landed i) (below_all (section_size g.width) (λ i. not (landed i)) t i l)))) D
        go (is_false f) = some (fails (section_size g.width) (λ i. not (landed i)) f)

    -- all landed
    module _ (all : (i : ℕ) → i < section_size g.width → landed i ≡ true) where
      pub whole-disk : Disk tag g v₀ w (entered c (batch_of g.width st n))
      whole-disk = disk-all tag g v₀ X u c D C n m st S given nxt w landed T.long t-outside t_same t-homes t-here all

      pub whole_top : greatest_id g w ≡ m
      whole_top = top-now tag g v₀ X u c D C n m st S given nxt w landed T.long t-outside t_same t-homes t-here all

      pub whole-named : (s : ℕ) → mentions (batch_of g.width st n) s ≡ true → mentions (writes (replay g w)) s ≡ true
      whole-named = batch-named tag g v₀ X u c D C n m st S given nxt w landed T.long t-outside t_same t-homes t-here all

      pub whole-starts : Pass g.provided (Home g tag w) (entered c (batch_of g.width st n)) (batch_of g.width st n) 0
      whole-starts = batch-starts tag g v₀ X u c D C n m st S given nxt w landed T.long t-outside t_same t-homes t-here all

  -- a cut while committing
  module _ (v : List ℕ) (l : Ledger) (n m j : ℕ) (st : List ℕ) (p : j < section_size g.width) (A : AtCommit tag g v₀ v l n m j st) where
    -- ids: what stood there before is older
    old_id : (i : ℕ) → i < section_size g.width → id_of (sector_at A.u (slot tag g v₀ m + i)) < m
    old_id i h =
        let a : sector_at (section_of g A.u ((m - 1) % g.sections)) i ≡ sector_at A.u (slot tag g v₀ m + i) =
        sector-part A.u (slot tag g v₀ m) (section_size g.width) i h in
        omega (
          arith,
          ap id_of a,
          A.next,
          top-ge g.width (section_of g A.u ((m - 1) % g.sections)) i h,
          top-section g A.u ((m - 1) % g.sections) (mod-lt (m - 1) X.ranged.s-low),
        )

    new-id : (i : ℕ) → i < section_size g.width → id_of (sealed g st m i) ≡ m
    new-id i h = id-sealed g st m i A.staged.size h (omega (arith, A.given))

    not-j : same (sector_at v (slot tag g v₀ m + j)) (sealed g st m j) ≡ false
    not-j = go (which (same (sector_at v (slot tag g v₀ m + j)) (sealed g st m j))) (A.torn.each j p)
      where
        go : Which (same (sector_at v (slot tag g v₀ m + j)) (sealed g st m j)) → Landed tag g v₀ A.u st m j j (sector_at v (slot tag g v₀ m + j))
            → same (sector_at v (slot tag g v₀ m + j)) (sealed g st m j) ≡ false
        go (is_false f) d = f
        go (is_true t) (new b q) = absurd (omega arith)
        go (is_true t) (old q) =
            absurd (omega (arith, old_id j p, new-id j p, ap id_of (sym q ∙ same_true (sector_at v (slot tag g v₀ m + j)) (sealed g st m j) t)))

    pub commit-cut : Disk tag g v₀ v l.contents
    commit-cut = torn-disk A.u l.contents A.disk A.clean n m st A.staged A.given A.next j v A.torn j p not-j

  -- ---- a cut at any time: the volume is durable

  pub cuts : (d : Medium) (l : Ledger) (x : Live) → Lives tag g v₀ d l x → Disk tag g v₀ (volume_in d) l.contents
  cuts d l x (stopped D b e) = D
  cuts d l x (working n m _ st (in_filling D A)) = D
  cuts d l x (working n m (Committing j) st (in_committing p A)) = commit-cut (volume_in d) l n m j st p A
  cuts d l x (working n m _ st (in_writing_back D A)) = D
  cuts d l x (working n m _ st (in_recovering D A)) = D
