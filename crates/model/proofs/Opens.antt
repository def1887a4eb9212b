-- An open keeps the invariant: of a volume that only our steps stored to, only a wrong staging loan is refused.
use Prim.Native.Nat.{ℕ, ◌+◌, ◌-◌, ◌*◌, ◌%◌, ◌^◌, ◌≤◌, ◌<◌}
use mathlib.Core.Bool.{true, false, not, ◌&&◌}
use mathlib.Core.Path.{◌≡◌, refl, sym, ap, ◌∙◌, subst}
use mathlib.Core.Logic.{◌≢◌}
use mathlib.Core.List.{List, [], ◌∷◌}
use native.Mathlib.Omega.{arith}
use native.Mathlib.Decide.{ℕ_discrete}
use lib.ListN.{length}
use lib.Dec.{ltb, eqb}
use borrow.Author.Tests.{eq-eqb, ne_eqb, le-ltb, lt-leb}
use Rattle.octets.specs.Answer.{taken, refuse}
use Rattle.octets.proofs.Choice.{passes}
use Rattle.octets.specs.Parts.{same}
use Rattle.octets.proofs.Numbers.{value-le}
use Rattle.octets.proofs.Parts.{eq-same}
use Rattle.on_disk.specs.Layout.{section_size, needed, layout_ok}
use Rattle.on_disk.specs.Section.{empty_section}
use Rattle.octets.specs.Lists.{all_below}
use Rattle.model.specs.Journal.{greatest_id, whole_ids, Replayed, replay}
use Rattle.on_disk.specs.Superblock.{superblock_of, layout_in, superblock_at, superblock_ok, is_zero}
use Rattle.model.specs.Store.{home_count, steps_of}
use Rattle.model.specs.Tag.{Tag, Tags}
use Rattle.model.specs.State.{passed, volume_loan_ok, staging_ok}
use Rattle.model.specs.Open.{misplaced, open_rows, entries_verdict, OpenResult, open_by, open_with, open_of}
use Rattle.model.specs.Query.{query_with, query_of}
use Rattle.model.specs.Ledger.{Ledger}
use Rattle.model.specs.Medium.{Medium, volume_in}
use Rattle.model.specs.World.{by_open}
use Rattle.model.proofs.Replays.{Which, is_true, is_false, which, pass-replays}
use Rattle.octets.proofs.Lists.{all-below}
use Rattle.model.proofs.Journals.{Every, writes}
use Rattle.on_disk.proofs.Addresses.{Ranged, base-room}
use Rattle.model.proofs.Plans.{At, here, at_in, home_some}
use Rattle.model.proofs.Invariant.{Premises, low-kept, replay-goods, Good, Disk, stopped, working, in_filling, in_recovering}
use Rattle.model.proofs.Steps.{Leads, never, staged-empty}
use Rattle.on_disk.specs.declared.Layout.{Layout}
use Rattle.model.specs.declared.Phase.TheVariants.{Filling, Recovering}

-- ---- the superblock_at is read back

module _ (g : Layout) (R : Ranged g) where
  small : g.width < 256 ^ 2
  small = omega (arith, R.t.bound)

  pub super-decoded : layout_in g.reserved (superblock_of g) ≡ g
  unfolding superblock_of
  super-decoded =
      λ i. record {
        reserved = g.reserved;
        shift = g.shift;
        width = value-le 2 g.width small i;
        sections = value-le 4 g.sections (omega (arith, R.s-high)) i;
        provided = value-le 8 g.provided (omega (arith, R.p-high)) i;
      }

  pub super-not-zero : is_zero (superblock_of g) ≡ false
  unfolding superblock_of
  super-not-zero = refl

  pub super-valid : layout_ok g ≡ true → superblock_ok g.reserved (superblock_of g) ≡ true
  super-valid ok =
      subst (λ (x : Layout). ◌&&◌ (same (superblock_of g) (superblock_of x)) (layout_ok x) ≡ true) (sym super-decoded) (rw (eq-same (superblock_of g) (superblock_of g) refl, ok))

entries-pass : (tag : Tag) (g : Layout) (xs : List Replayed) → Every (λ x. Good tag g x.entry) xs → entries_verdict tag g xs ≡ passed
entries-pass tag g [] q = refl
entries-pass tag g (x ∷ xs) q =
    let t : same x.entry.tag (tag x.entry.sector x.entry.bytes) ≡ true = eq-same x.entry.tag (tag x.entry.sector x.entry.bytes) q.0.fit in
    rw (lt-leb g.provided x.entry.sector q.0.low, t) (entries-pass tag g xs q.1)

module _ (tags : Tags) (g : Layout) (v₀ : List ℕ) (X : Premises (tags g.width) g v₀)
    (d : Medium) (l : Ledger) (D : Disk (tags g.width) g v₀ (volume_in d) l.contents) where
  abbrev v : List ℕ
  v = volume_in d

  abbrev tag : Tag
  tag = tags g.width

  abbrev r : ℕ
  r = g.reserved

  super-at : superblock_at g.reserved v ≡ superblock_of g
  super-at = low-kept tag g v₀ X.ranged v l.contents D (g.reserved * 512) 4096 (omega arith) ∙ X.super

  pub decoded : layout_in g.reserved (superblock_at g.reserved v) ≡ g
  decoded = ap (layout_in g.reserved) super-at ∙ super-decoded g X.ranged

  long : needed g * 512 ≤ length v
  long = rw D.sized X.room

  wholes : volume_loan_ok v ≡ true
  wholes = rw D.sized X.loan

  in_place : all_below g.sections (λ k. not (misplaced g v k)) ≡ true
  in_place = all-below g.sections (λ k. not (misplaced g v k)) (λ k h. go k h (ℕ_discrete (whole_ids g v k) 0))
    where
      go : (k : ℕ) → k < g.sections → Dec (whole_ids g v k ≡ 0) → not (misplaced g v k) ≡ true
      go k h (yes z) = rw (eq-eqb (whole_ids g v k) 0 z)
      go k h (no z) = rw (ne_eqb (whole_ids g v k) 0 z, eq-eqb ((whole_ids g v k - 1) % g.sections) k (D.places k h z))

  zero-at : is_zero (superblock_at g.reserved v) ≡ false
  zero-at = ap is_zero super-at ∙ super-not-zero g X.ranged

  valid-at : superblock_ok g.reserved (superblock_at g.reserved v) ≡ true
  valid-at = ap (superblock_ok g.reserved) super-at ∙ super-valid g X.ranged X.layout

  low₁ : ltb 64 g.reserved ≡ false
  low₁ = le-ltb 64 g.reserved X.ranged.r

  low₂ : ltb (length v) ((g.reserved + 8) * 512) ≡ false
  low₂ = le-ltb (length v) ((g.reserved + 8) * 512) (omega (arith, long, base-room g X.ranged))

  low₃ : ltb (length v) (needed g * 512) ≡ false
  low₃ = le-ltb (length v) (needed g * 512) long

  ids : eqb (greatest_id g v) (2 ^ 64 - 1) ≡ false
  ids = ne_eqb (greatest_id g v) (2 ^ 64 - 1) (omega (arith, D.top))

  wrong : (st : List ℕ) → staging_ok g st ≡ false → open_with tags g g.reserved v st ≡ record { answer = refuse 1 []; staging = st }
  unfolding open_with
  wrong st e = rw (wholes, low₁, low₂, zero-at, valid-at, low₃, e)

  right : (st : List ℕ) → staging_ok g st ≡ true → open_with tags g g.reserved v st ≡ open_by g v st passed
  unfolding open_with
  right st e =
      ap (open_by g v st)
      (passes (open_rows g g.reserved v st) (entries_verdict tag g (replay g v))
      (ap not wholes, (low₁, (low₂, (zero-at, (ap not valid-at, (low₃, (ap not e, (ids, (ap not in_place, tt)))))))))
      ∙ entries-pass tag g (replay g v) (replay-goods tag g v₀ v l.contents D))

  pub open-runs : (st : List ℕ) → staging_ok g st ≡ true → open_of tags g.reserved v st ≡ open_by g v st passed
  open-runs st e = subst (λ (x : Layout). open_with tags x g.reserved v st ≡ open_by g v st passed) (sym decoded) (right st e)

  pub open-refused : (st : List ℕ) → staging_ok g st ≡ false → open_of tags g.reserved v st ≡ record { answer = refuse 1 []; staging = st }
  open-refused st e = subst (λ (x : Layout). open_with tags x g.reserved v st ≡ record { answer = refuse 1 []; staging = st }) (sym decoded) (wrong st e)

  asked : query_with g g.reserved v ≡ taken (g, section_size g.width * 512)
  unfolding query_with
  asked = rw (wholes, low₁, low₂, zero-at, valid-at, low₃)

  pub query-holds : query_of g.reserved v ≡ taken (g, section_size g.width * 512)
  query-holds = subst (λ (x : Layout). query_with x g.reserved v ≡ taken (g, section_size g.width * 512)) (sym decoded) asked

  -- what an open leads to
  abbrev OpenLeads : OpenResult → Type 0
  OpenLeads o = Leads tag g v₀ X l (by_open d o.staging o.answer)

  start-at : (x : Replayed) (xs : List Replayed) → At g (x ∷ xs) 0 0 0
  start-at x xs =
      let l : 0 < home_count g x.entry = omega (arith, home_some g x.entry) in here refl l

  starts-at : (xs : List Replayed) → steps_of g xs ≢ 0 → At g xs 0 0 0
  starts-at [] e = absurd (e refl)
  starts-at (x ∷ xs) e = start-at x xs

  empty-writes : (xs : List Replayed) → steps_of g xs ≡ 0 → writes xs ≡ []
  empty-writes [] e = refl
  empty-writes (x ∷ xs) e = absurd (omega (arith, at_in g (start-at x xs)))

  opened : l.batch ≡ [] → l.to_come ≡ [] → (st : List ℕ) → OpenLeads (open_by g v st passed)
  opened b c st = go (ℕ_discrete (steps_of g (replay g v)) 0)
    where
      go : Dec (steps_of g (replay g v) ≡ 0) → OpenLeads (open_by g v st passed)
      go (yes z) =
          rw (eq-eqb (steps_of g (replay g v)) 0 z)
          (record {
            lives = working 0 (greatest_id g v + 1) Filling (empty_section g.width) (in_filling D
                (record {
                  staged = staged-empty tag g v₀ X;
                  batch = sym b;
                  to_come = c;
                  next = refl;
                  clean = λ s h. D.durable.unnamed s h (rw (empty-writes (replay g v) z));
                }));
            fills = λ q. refl;
          })
      go (no z) =
          rw (ne_eqb (steps_of g (replay g v)) 0 z)
          (record {
            lives = working 0 (greatest_id g v + 1) (Recovering 0) (empty_section g.width) (in_recovering D
                (record {
                  staged = staged-empty tag g v₀ X;
                  empty = b;
                  to_come = c;
                  next = refl;
                  i = 0;
                  h = 0;
                  spot = starts-at (replay g v) z;
                  progress = pass-replays g.provided D.durable;
                }));
            fills = λ q. never q;
          })

  pub open-keeps : (st : List ℕ) → l.batch ≡ [] → l.to_come ≡ [] → OpenLeads (open_of tags g.reserved v st)
  open-keeps st b c = go (which (staging_ok g st))
    where
      go : Which (staging_ok g st) → OpenLeads (open_of tags g.reserved v st)
      go (is_true t) = rw (open-runs st t) (opened b c st)
      go (is_false f) = rw (open-refused st f) (record { lives = stopped D b c; fills = λ q. never q })
