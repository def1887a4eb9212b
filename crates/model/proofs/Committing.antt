-- A store of committing: the invariant afterwards.
use Prim.Native.Nat.{ℕ, ◌+◌, ◌-◌, ◌*◌, ◌%◌, ◌≤◌, ◌<◌}
use mathlib.Core.Bool.{true}
use mathlib.Core.Path.{◌≡◌, refl, sym, ap, ◌∙◌, subst}
use mathlib.Core.Logic.{◌≢◌}
use mathlib.Core.List.{List, [], ◌∷◌}
use native.Mathlib.Omega.{arith}
use native.Mathlib.Decide.{ℕ_discrete}
use native.Mathlib.Nat.{mod-lt}
use lib.ListN.{length}
use Rattle.octets.specs.Parts.{same}
use Rattle.octets.specs.Sectors.{sector_at, put_sector}
use Rattle.octets.proofs.Parts.{eq-same}
use Rattle.octets.proofs.Sectors.{sector-put-same, sector-put-other, length-put}
use Rattle.on_disk.specs.Layout.{section_size, section_at}
use Rattle.on_disk.specs.Section.{entry_of}
use Rattle.model.proofs.Plans.{home_some}
use Rattle.model.specs.Journal.{sealed}
use Rattle.model.specs.Tag.{Tag}
use Rattle.model.specs.Ledger.{Write, Ledger, entered}
use Rattle.model.proofs.Replays.{Pass}
use Rattle.model.proofs.Journals.{length-sealed, batch_of}
use Rattle.on_disk.proofs.Addresses.{section-low, base-room}
use Rattle.model.proofs.Homes.{Home}
use Rattle.model.proofs.Invariant.{Premises, Disk, slot, Landed, new, old, Torn, AtCommit, AtHome}
use Rattle.model.proofs.Cuts.{whole-disk, whole_top, whole-named, whole-starts}
use Rattle.on_disk.specs.declared.Layout.{Layout}

module _ (tag : Tag) (g : Layout) (v₀ : List ℕ) (X : Premises tag g v₀)
    (v : List ℕ) (l : Ledger) (n m j : ℕ) (st : List ℕ) (A : AtCommit tag g v₀ v l n m j st) where
  module _ (p : j < section_size g.width) where
    abbrev c : List ℕ
    c = sealed g st m j

    abbrev spot : ℕ
    spot = section_at g ((m - 1) % g.sections) + j

    abbrev w : List ℕ
    w = put_sector v spot c

    c-length : length c ≡ 512
    c-length = length-sealed g st m j A.staged.size p

    inside : (spot + 1) * 512 ≤ length v
    inside =
        omega (arith, section-low g X.ranged ((m - 1) % g.sections) (mod-lt (m - 1) X.ranged.s-low), base-room g X.ranged, X.room, A.torn.long, A.disk.sized)

    elsewhere : (a : ℕ) → a ≢ spot → sector_at w a ≡ sector_at v a
    elsewhere a q = sector-put-other v spot c c-length inside a q

    more : (i : ℕ) (x : List ℕ) → Landed tag g v₀ A.u st m j i x → Landed tag g v₀ A.u st m (j + 1) i x
    more i x (new b q) = new (omega arith) q
    more i x (old q) = old q

    torn-on : Torn tag g v₀ A.u st m (j + 1) w
    torn-on =
        record {
          long = length-put v spot c c-length inside ∙ A.torn.long;
          other = λ a f. elsewhere a (f j p) ∙ A.torn.other a f;
          each = λ i h. go i h (ℕ_discrete i j);
        }
      where
        go : (i : ℕ) → i < section_size g.width → Dec (i ≡ j) → Landed tag g v₀ A.u st m (j + 1) i (sector_at w (slot tag g v₀ m + i))
        go i h (yes q) =
            new (omega arith)
            (subst (λ (x : ℕ). sector_at w (slot tag g v₀ m + x) ≡ sealed g st m x) (sym q) (sector-put-same v spot c c-length inside))
        go i h (no q) =
            subst (Landed tag g v₀ A.u st m (j + 1) i) (sym (elsewhere (slot tag g v₀ m + i) (omega arith)))
            (more i (sector_at v (slot tag g v₀ m + i)) (A.torn.each i h))

    pub commit-goes : (l' : Ledger) → l.contents ≡ l'.contents → l.batch ≡ l'.batch → l'.to_come ≡ (section_size g.width - (j + 1)) ∷ []
        → AtCommit tag g v₀ w l' n m (j + 1) st
    commit-goes l' ec eb ed =
        record {
          staged = A.staged;
          batch = A.batch ∙ eb;
          some = A.some;
          given = A.given;
          place = omega arith;
          to_come = ed;
          u = A.u;
          disk = rw ec at A.disk;
          clean = rw ec at A.clean;
          next = A.next;
          torn = torn-on;
          here = λ i h. go i h (ℕ_discrete i j);
        }
      where
        go : (i : ℕ) → i < j + 1 → Dec (i ≡ j) → sector_at w (slot tag g v₀ m + i) ≡ sealed g st m i
        go i h (yes q) = subst (λ (x : ℕ). sector_at w (slot tag g v₀ m + x) ≡ sealed g st m x) (sym q) (sector-put-same v spot c c-length inside)
        go i h (no q) = elsewhere (slot tag g v₀ m + i) (omega arith) ∙ A.here i (omega arith)

  -- the last store has been after_effect
  module _ (p : j ≡ section_size g.width) where
    all : (i : ℕ) → i < section_size g.width → same (sector_at v (slot tag g v₀ m + i)) (sealed g st m i) ≡ true
    all i h = rw (A.here i (omega arith)) (eq-same (sealed g st m i) (sealed g st m i) refl)

    pub seal-disk : Disk tag g v₀ v (entered l.contents l.batch)
    seal-disk =
        subst (λ (b : List Write). Disk tag g v₀ v (entered l.contents b)) A.batch
        (whole-disk tag g v₀ X A.u l.contents A.disk A.clean n m st A.staged A.given A.next j v A.torn all)

    pub seal-ends : (l' : Ledger) → l'.contents ≡ entered l.contents l.batch → l'.batch ≡ [] → l'.to_come ≡ []
        → AtHome tag g v₀ v l' n (m + 1) 0 0 st
    seal-ends l' ec eb ed =
        record {
          staged = A.staged;
          empty = eb;
          to_come = ed;
          next = ap (λ (x : ℕ). x + 1)
              (sym (whole_top tag g v₀ X A.u l.contents A.disk A.clean n m st A.staged A.given A.next j v A.torn all));
          place = A.some;
          store = omega (arith, home_some g (entry_of g.width st 0));
          within = whole-named tag g v₀ X A.u l.contents A.disk A.clean n m st A.staged A.given A.next j v A.torn all;
          progress = rw ec
              (subst (λ (b : List Write). Pass g.provided (Home g tag v) (entered l.contents b) (batch_of g.width st n) 0) A.batch
              (whole-starts tag g v₀ X A.u l.contents A.disk A.clean n m st A.staged A.given A.next j v A.torn all));
        }
