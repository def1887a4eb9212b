-- Writes and flushes keep the invariant.
use Prim.Native.Nat.{ℕ, zero, suc, ◌+◌, ◌-◌, ◌^◌, ◌<◌}
use mathlib.Core.Bool.{Bool, true, false, not, ◌&&◌}
use mathlib.Core.Path.{◌≡◌, refl, sym, ap, ◌∙◌, subst}
use mathlib.Core.Logic.{◌≢◌}
use mathlib.Core.List.{List, [], ◌∷◌}
use native.Mathlib.Omega.{arith}
use native.Mathlib.Numerals.{add-one}
use native.Mathlib.Decide.{ℕ_discrete}
use lib.ListN.{length}
use lib.Dec.{eqb}
use borrow.Author.Tests.{eqb-true, eq-eqb, ne_eqb, lt-ltb, leb-false}
use Rattle.octets.specs.Answer.{Refusal, taken, refused}
use Rattle.octets.specs.Choice.{pick, first_met}
use Rattle.octets.proofs.Answers.{refused-not-taken}
use Rattle.octets.proofs.Choice.{Unmet, unmet}
use Rattle.on_disk.specs.Layout.{entry_count, section_size}
use Rattle.on_disk.specs.Section.{Entry, entry_of, put_entry}
use Rattle.model.specs.Tag.{Tag, Tags}
use Rattle.model.specs.State.{Verdict, passed, last_id, sector_ok, state_ok, staging_ok, is_filling}
use Rattle.model.specs.Write.{new_entry, write_rows, WriteResult, write_of}
use Rattle.model.specs.Flush.{FlushResult, flush_rows, flush_of}
use Rattle.model.specs.Ledger.{Ledger, after_write}
use Rattle.model.specs.Medium.{Medium, volume_in}
use Rattle.model.specs.World.{by_write, by_flush, Live, on}
use Rattle.on_disk.proofs.Sections.{length-put_entry, entry_of-put-same, entry_of-put-other}
use Rattle.model.proofs.Journals.{batch_of}
use Rattle.on_disk.proofs.Addresses.{and_both}
use Rattle.model.proofs.Invariant.{Premises, state_at, Good, Disk, AtFilling, old, Lives, working, in_filling, in_committing, in_writing_back, in_recovering}
use Rattle.model.proofs.Steps.{Leads, never, length-batch}
use Rattle.on_disk.specs.declared.Layout.{Layout}
use Rattle.model.specs.declared.Phase.TheVariants.{Filling, Committing}
use Rattle.model.specs.declared.State.{State}

pub not-not : (t : Bool) → not t ≡ false → t ≡ true
not-not true e = refl
not-not false e = sym e

-- ---- verdicts

pub data Seen (x : Verdict) : Type 0 where
  is_passed : x ≡ passed → Seen x
  is_refused : (r : Refusal ℕ) → x ≡ refused r → Seen x

pub seen : (x : Verdict) → Seen x
seen (taken x) = is_passed refl
seen (refused r) = is_refused r refl

pub batch-cong : (t : ℕ) (st st' : List ℕ) (n : ℕ) → ((i : ℕ) → i < n → entry_of t st i ≡ entry_of t st' i) → batch_of t st n ≡ batch_of t st' n
batch-cong t st st' zero h = refl
batch-cong t st st' (suc n) h = rw (batch-cong t st st' n (λ i l. h i (omega arith)), h n (omega arith))

module _ (tags : Tags) (g : Layout) (v₀ : List ℕ) (X : Premises (tags g.width) g v₀) where
  abbrev tag : Tag
  tag = tags g.width

  abbrev L : Medium → Ledger → Live → Type 0
  L = Lives tag g v₀

  -- only one phase takes a write or a flush
  pub data Filled (d : Medium) (l : Ledger) : State → List ℕ → Type 0 where
    it : (n m : ℕ) (st : List ℕ) → Disk tag g v₀ (volume_in d) l.contents → AtFilling tag g v₀ (volume_in d) l n m st → Filled d l (state_at g n m Filling) st

  pub filled : (d : Medium) (l : Ledger) (s : State) (st : List ℕ) → L d l (on s st) → is_filling s.phase ≡ true → Filled d l s st
  filled d l s st (working n m _ _ (in_filling D A)) q = it n m st D A
  filled d l s st (working n m _ _ (in_committing p A)) q = never q
  filled d l s st (working n m _ _ (in_writing_back D A)) q = never q
  filled d l s st (working n m _ _ (in_recovering D A)) q = never q

  -- ---- write

  abbrev WriteLeads : Medium → Ledger → ℕ → List ℕ → WriteResult → Type 0
  WriteLeads d l n b o = Leads tag g v₀ X l (by_write d n b o)

  abbrev write_verdict : State → List ℕ → ℕ → List ℕ → Verdict
  write_verdict s st n b = first_met (write_rows s st n b) passed

  -- a refused write changes nothing
  write-refused : (d : Medium) (l : Ledger) (s : State) (st : List ℕ) (n : ℕ) (b : List ℕ) → L d l (on s st)
      → (r : Refusal ℕ) → write_verdict s st n b ≡ refused r → WriteLeads d l n b (write_of tags s st n b)
  unfolding write_of
  write-refused d l s st n b A r e = rw e (record { lives = A; fills = λ q. never q })

  write-unmet : (s : State) (st : List ℕ) (n : ℕ) (b : List ℕ) → write_verdict s st n b ≡ passed → Unmet (write_rows s st n b)
  write-unmet s st n b e = unmet (write_rows s st n b) passed (refused-not-taken _ tt, (refused-not-taken _ tt, (refused-not-taken _ tt, (refused-not-taken _ tt, tt)))) e

  record Taken (cnt : ℕ) (n : ℕ) (b : List ℕ) : Type 0 where
    whole : length b ≡ 512
    low : n < g.provided
    free : cnt < entry_count g.width

  write-rules : (cnt m : ℕ) (st : List ℕ) (n : ℕ) (b : List ℕ) → write_verdict (state_at g cnt m Filling) st n b ≡ passed → Taken cnt n b
  write-rules cnt m st n b e =
      let u : Unmet (write_rows (state_at g cnt m Filling) st n b) = write-unmet (state_at g cnt m Filling) st n b e in
      let a = and_both (state_ok (state_at g cnt m Filling)) (staging_ok g st && sector_ok b)
      (not-not (state_ok (state_at g cnt m Filling) && (staging_ok g st && sector_ok b)) u.0) in
      let z = and_both (staging_ok g st) (sector_ok b) a.1 in
      record {
        whole = eqb-true (length b) 512 z.1;
        low = leb-false g.provided n u.1.1.0;
        free = leb-false (entry_count g.width) cnt u.1.1.1.0;
      }

  module _ (d : Medium) (l : Ledger) (cnt m : ℕ) (st : List ℕ) (n : ℕ) (b : List ℕ) (A : AtFilling tag g v₀ (volume_in d) l cnt m st) (T : Taken cnt n b) where
    abbrev e : Entry
    e = new_entry tags (state_at g cnt m Filling) st n b

    abbrev st' : List ℕ
    st' = put_entry g.width st cnt e

    s64 : n < 2 ^ 64
    s64 = omega (arith, T.low, X.ranged.p-high)

    there : entry_of g.width st' cnt ≡ e
    there = entry_of-put-same g.width X.some st cnt e A.staged.size T.free s64 T.whole (X.tags n b)

    elsewhere : (i : ℕ) → i < entry_count g.width → i ≢ cnt → entry_of g.width st' i ≡ entry_of g.width st i
    elsewhere = entry_of-put-other g.width X.some st cnt e A.staged.size T.free s64 T.whole (X.tags n b)

    put-filling : AtFilling tag g v₀ (volume_in d) (after_write n b l) (cnt + 1) m st'
    put-filling =
        record {
          staged = record {
            size = length-put_entry g.width X.some st cnt e A.staged.size T.free s64 T.whole (X.tags n b) ∙ A.staged.size;
            count = omega (arith, T.free);
            goods = λ i k. go i k (ℕ_discrete i cnt);
            free = λ i k h. rw (elsewhere i h (omega arith)) (A.staged.free i (omega arith) h);
          };
          batch =
              ap (batch_of g.width st') (add-one cnt)
              ∙ rw (there, batch-cong g.width st' st cnt (λ i k. elsewhere i (omega (arith, T.free)) (omega arith)), A.batch);
          to_come = A.to_come;
          next = A.next;
          clean = A.clean;
        }
      where
        go : (i : ℕ) → i < cnt + 1 → Dec (i ≡ cnt) → Good tag g (entry_of g.width st' i)
        go i k (yes q) =
            subst (λ (x : ℕ). Good tag g (entry_of g.width st' x)) (sym q) (rw there (record { low = T.low; whole = T.whole; fit = refl }))
        go i k (no q) = rw (elsewhere i (omega (arith, T.free)) q) (A.staged.goods i (omega arith))

  write-taken : (d : Medium) (l : Ledger) (cnt m : ℕ) (st : List ℕ) (n : ℕ) (b : List ℕ) → Disk tag g v₀ (volume_in d) l.contents
      → AtFilling tag g v₀ (volume_in d) l cnt m st → write_verdict (state_at g cnt m Filling) st n b ≡ passed
      → WriteLeads d l n b (write_of tags (state_at g cnt m Filling) st n b)
  unfolding write_of
  write-taken d l cnt m st n b D A z =
      rw z
      (record {
        lives = working (cnt + 1) m Filling (put_entry g.width st cnt (new_entry tags (state_at g cnt m Filling) st n b))
            (in_filling D (put-filling d l cnt m st n b A (write-rules cnt m st n b z)));
        fills = λ q. never q;
      })

  pub write_keeps : (d : Medium) (l : Ledger) (s : State) (st : List ℕ) (n : ℕ) (b : List ℕ) → L d l (on s st)
      → WriteLeads d l n b (write_of tags s st n b)
  write_keeps d l s st n b A = go (seen (write_verdict s st n b))
    where
      passes : (s : State) (st : List ℕ) → Filled d l s st → write_verdict s st n b ≡ passed → WriteLeads d l n b (write_of tags s st n b)
      passes s st (it cnt m _ D A) t = write-taken d l cnt m st n b D A t

      go : Seen (write_verdict s st n b) → WriteLeads d l n b (write_of tags s st n b)
      go (is_passed t) = passes s st (filled d l s st A (not-not (is_filling s.phase) (write-unmet s st n b t).1.0)) t
      go (is_refused r e) = write-refused d l s st n b A r e

  -- ---- flush

  abbrev FlushLeads : Medium → Ledger → List ℕ → FlushResult → Type 0
  FlushLeads d l st o = Leads tag g v₀ X l (by_flush d st o)

  abbrev flush_verdict : State → Verdict
  flush_verdict s = first_met (flush_rows s) passed

  flush-refused : (d : Medium) (l : Ledger) (s : State) (st : List ℕ) → L d l (on s st)
      → (r : Refusal ℕ) → flush_verdict s ≡ refused r → FlushLeads d l st (flush_of s)
  unfolding flush_of
  flush-refused d l s st A r e = rw e (record { lives = A; fills = λ q. never q })

  flush-unmet : (s : State) → flush_verdict s ≡ passed → Unmet (flush_rows s)
  flush-unmet s e = unmet (flush_rows s) passed (refused-not-taken _ tt, (refused-not-taken _ tt, (refused-not-taken _ tt, tt))) e

  -- the id may be given
  flush-id : (cnt m : ℕ) → 0 < cnt → flush_verdict (state_at g cnt m Filling) ≡ passed → m ≢ last_id
  flush-id cnt m p e q =
      let u : Unmet (flush_rows (state_at g cnt m Filling)) = flush-unmet (state_at g cnt m Filling) e in
      never (sym u.1.1.0 ∙ rw (lt-ltb 0 cnt p, eq-eqb m last_id q))

  flush-none : (d : Medium) (l : Ledger) (cnt m : ℕ) (st : List ℕ) → Disk tag g v₀ (volume_in d) l.contents → AtFilling tag g v₀ (volume_in d) l cnt m st
      → flush_verdict (state_at g cnt m Filling) ≡ passed → cnt ≡ 0 → FlushLeads d l st (flush_of (state_at g cnt m Filling))
  unfolding flush_of
  flush-none d l cnt m st D A z q =
      let n : length l.batch ≡ 0 = ap length (sym A.batch) ∙ length-batch g.width st cnt ∙ q in
      rw (z, eq-eqb cnt 0 q)
      (record {
        lives = working cnt m Filling st (in_filling D
            (record { staged = A.staged; batch = A.batch; to_come = rw (eq-eqb (length l.batch) 0 n) A.to_come; next = A.next; clean = A.clean }));
        fills = λ q. never q;
      })

  flush-begins : (d : Medium) (l : Ledger) (cnt m : ℕ) (st : List ℕ) → Disk tag g v₀ (volume_in d) l.contents → AtFilling tag g v₀ (volume_in d) l cnt m st
      → flush_verdict (state_at g cnt m Filling) ≡ passed → cnt ≢ 0 → FlushLeads d l st (flush_of (state_at g cnt m Filling))
  unfolding flush_of
  flush-begins d l cnt m st D A z q =
      let n : length l.batch ≢ 0 = λ x. q (sym (length-batch g.width st cnt) ∙ ap length A.batch ∙ x) in
      let m₀ : ℕ = section_size g.width in
      let e : pick (eqb (length l.batch) 0) l.to_come (m₀ ∷ l.to_come) ≡ (m₀ - 0) ∷ [] =
      rw (ne_eqb (length l.batch) 0 n) (ap (λ (ns : List ℕ). m₀ ∷ ns) A.to_come ∙ ap (λ (x : ℕ). x ∷ []) {x = m₀} {y = m₀ - 0} (omega arith)) in
      let id : m ≢ last_id = flush-id cnt m (omega arith) z in
      rw (z, ne_eqb cnt 0 q)
      (record {
        lives = working cnt m (Committing 0) st (in_committing {j = 0} (omega arith)
            (record {
              staged = A.staged;
              batch = A.batch;
              some = omega arith;
              given = omega (arith, A.next, D.top);
              place = omega arith;
              to_come = e;
              u = volume_in d;
              disk = D;
              clean = A.clean;
              next = A.next;
              torn = record { long = refl; other = λ a f. refl; each = λ i h. old refl };
              here = λ i h. absurd (omega arith);
            }));
        fills = λ q. never q;
      })

  pub flush-keeps : (d : Medium) (l : Ledger) (s : State) (st : List ℕ) → L d l (on s st) → FlushLeads d l st (flush_of s)
  flush-keeps d l s st A = go (seen (flush_verdict s))
    where
      passes : (s : State) (st : List ℕ) → Filled d l s st → flush_verdict s ≡ passed → Dec (s.count ≡ 0) → FlushLeads d l st (flush_of s)
      passes s st (it cnt m _ D A) t (yes q) = flush-none d l cnt m st D A t q
      passes s st (it cnt m _ D A) t (no q) = flush-begins d l cnt m st D A t q

      go : Seen (flush_verdict s) → FlushLeads d l st (flush_of s)
      go (is_passed t) = passes s st (filled d l s st A (not-not (is_filling s.phase) (flush-unmet s t).1.0)) t (ℕ_discrete s.count 0)
      go (is_refused r e) = flush-refused d l s st A r e
