-- What an open and a write lead to: one law to a return.
use Prim.Native.Nat.{ℕ, min, ◌≤◌, ◌<◌}
use lib.Dec.{leb}
use borrow.Author.Tests.{leb-true, leb-false}
use Rattle.std.proofs.lemmas.List.{take-replicate}
use Rattle.model.proofs.Replays.{Which, which, is_true, is_false}
use mathlib.Core.Bool.{Bool, true, false}
use mathlib.Core.List.{List, ◌++◌}
use mathlib.Core.Path.{◌≡◌, refl, sym, ap, ◌∙◌, subst}
use native.Mathlib.Nat.{zero-add}
use native.Mathlib.Omega.{arith}
use lib.ListN.{length, take, drop, replicate, length-replicate, length-take}
use lib.Seq.{length-take-le, take_all}
use Rattle.std.specs.Prelude.{Option, Some, None, Result}
use Rattle.octets.specs.Parts.{patch}
use Rattle.octets.specs.Sectors.{sector_size}
use Rattle.octets.proofs.Parts.{patch-all}
use Rattle.model.specs.Refusal.{open_answer}
use Rattle.model.specs.State.{volume_loan_ok}
use Rattle.model.specs.Keyed.{open_keyed_of, write_keyed_of, key_refusal}
use Rattle.model.proofs.Keyed.{keyed-calls}
use Rattle.model.specs.Open.{OpenResult, open_of}
use Rattle.model.specs.Write.{WriteResult, write_of}
use Rattle.model.specs.World as lists
use Rattle.model.specs.Medium.{medium_of}
use Rattle.model.specs.World.{Event, off, on, World, by_open, by_write}
use Rattle.model.specs.declared.Opened.{Opened}
use Rattle.model.specs.declared.Refusal.{Refusal}
use Rattle.model.specs.declared.State.{State}
use Rattle.drill.specs.declared.Kind.{Kind}
use Rattle.drill.specs.declared.Kind.TheVariants.{Open, Write, ShortOpen, ShortWrite, LongKeyOpen, LongKeyWrite}
use Rattle.drill.specs.declared.Moment.{Moment}
use Rattle.drill.specs.Script.{short_size, long_key, long-key-refused, event_by}
use Rattle.drill.specs.Played.{tags_for, key_fits, open_under, write_under, at_rest, live_of, world_of, staging_in, Turn}
use Rattle.drill.proofs.Keys.{opening, writing}
use Rattle.drill.proofs.Opens.{open-leaves, few-refused, few-left}

-- the staging loan, by the world with it
loan-of : (m : Moment) (v st : List ℕ) {w : World} → world_of m v st ≡ w → st ≡ staging_in w.live st
loan-of m v st e = go m.live ∙ ap (λ (y : World). staging_in y.live st) e
  where
    go : (x : Option State) → st ≡ staging_in (live_of x st) st
    go None = refl
    go (Some s) = refl

-- the world that an open leaves
abbrev opened-world : List ℕ → OpenResult → World
opened-world v o = (by_open (medium_of v) o.staging o.answer).world

module _ (key : Option (List ℕ)) (r : ℕ) (k : Kind) (s b : ℕ) (v st : List ℕ) where
  -- the event of a kind, on the loan st
  abbrev event : Kind → Event
  event kind = event_by (length st) kind s b

  -- a kind by its name
  as-kind : (c : Kind) (x : lists.Live) (m : Moment) (v' st' : List ℕ) → k ≡ c → Turn key r v x st (event c) m v' st' → Turn key r v x st (event k) m v' st'
  as-kind c x m v' st' e t = subst (λ (y : Kind). Turn key r v x st (event y) m v' st') (sym e) t

  -- the whole loan, filled
  abbrev full : List ℕ
  full = replicate (length st) b

  -- ---- nothing is live

  few : length (take short_size full) < sector_size
  few = omega (arith, length-take short_size full)

  pub opens-short : (m : Moment) (left : List ℕ) → m ≡ at_rest None → left ≡ patch st 0 (take short_size full) → k ≡ ShortOpen
      → Turn key r v off st (event k) m v left
  opens-short m left q l e =
      let no = few-refused (tags_for key) r v (take short_size full) few in
      as-kind ShortOpen off m v left e
      (record {
        world = ap (λ (x : Moment). world_of x v left) q ∙ sym no;
        staging = l ∙ sym (ap (λ (w : World). staging_in w.live (patch st 0 (take short_size full))) no);
      })

  pub opens-long : (m : Moment) (o : OpenResult) → m ≡ at_rest None → o ≡ open_keyed_of (long_key b) r v full → k ≡ LongKeyOpen
      → Turn key r v off st (event k) m v o.staging
  opens-long m o q is e =
      let refused = (keyed-calls.refused (long_key b) (long-key-refused b)).opening r v full in
      let no : opened-world v (open_keyed_of (long_key b) r v full) ≡ lists.resting (medium_of v) off = ap (opened-world v) refused ∙ never (volume_loan_ok v) in
      as-kind LongKeyOpen off m v o.staging e
      (record {
        world = ap (λ (x : Moment). world_of x v o.staging) q ∙ sym no;
        staging = ap (λ (y : OpenResult). y.staging) (is ∙ refused)
            ∙ sym (patch-all st full (length-replicate (length st) b))
            ∙ sym (ap (λ (w : World). staging_in w.live (patch st 0 full)) no);
      })
    where
      never : (ok : Bool) → opened-world v (record { answer = key_refusal ok; staging = full }) ≡ lists.resting (medium_of v) off
      never true = refl
      never false = refl

  pub opens : (m : Moment) (a : Result Opened Refusal) (left : List ℕ) → key_fits key ≡ true
      → record { answer = open_answer a; staging = left } ≡ open_under key r v full
      → ((u y : List ℕ) → world_of m u y ≡ (by_open (medium_of u) y (open_answer a)).world) → k ≡ Open
      → Turn key r v off st (event k) m v left
  opens m a left fits gives w e =
      let is = gives ∙ opening key fits r v full in
      let all : patch st 0 full ≡ full = patch-all st full (length-replicate (length st) b) in
      as-kind Open off m v left e
      (record {
        world = w v left ∙ ap (opened-world v) is;
        staging = ap (λ (o : OpenResult). o.staging) is
            ∙ open-leaves (tags_for key) r v full
            ∙ ap (staging_in (opened-world v (open_of (tags_for key) r v full)).live) (sym all);
      })

  -- ---- a state is live

  module _ (x : State) (m : Moment) (left : List ℕ) where
    -- what a write of the bytes w, by o, left
    abbrev Wrote : List ℕ → WriteResult → Type 0
    Wrote w o = (u : List ℕ) → world_of m u left ≡ (by_write (medium_of u) s w o).world

    -- by a key that the calls take
    by-tags : (w : List ℕ) → key_fits key ≡ true → Wrote w (write_under key x st s w) → Wrote w (write_of (tags_for key) x st s w)
    by-tags w fits h = λ u. h u ∙ ap (λ (o : WriteResult). (by_write (medium_of u) s w o).world) (writing key fits x st s w)

    pub writes : key_fits key ≡ true → Wrote (replicate sector_size b) (write_under key x st s (replicate sector_size b)) → k ≡ Write
        → Turn key r v (on x st) st (event k) m v left
    writes fits h e =
        let w = by-tags (replicate sector_size b) fits h v in
        as-kind Write (on x st) m v left e (record { world = w; staging = loan-of m v left w })

    pub writes_short : key_fits key ≡ true → Wrote (replicate short_size b) (write_under key x st s (replicate short_size b)) → k ≡ ShortWrite
        → Turn key r v (on x st) st (event k) m v left
    writes_short fits h e =
        let w = by-tags (replicate short_size b) fits h v in
        as-kind ShortWrite (on x st) m v left e (record { world = w; staging = loan-of m v left w })

    pub writes-long : Wrote (replicate sector_size b) (write_keyed_of (long_key b) x st s (replicate sector_size b)) → k ≡ LongKeyWrite
        → Turn key r v (on x st) st (event k) m v left
    writes-long h e = as-kind LongKeyWrite (on x st) m v left e (record { world = h v; staging = loan-of m v left (h v) })

-- ---- an open that is lent fewer bytes than a sector has

-- the first m bytes of L that are filled
pub filled : (m n L b : ℕ) → n ≡ min L m → take m (replicate L b) ≡ replicate n b
filled m n L b e = side (which (leb m L))
  where
    side : Which (leb m L) → take m (replicate L b) ≡ replicate n b
    side (is_true h) = let less = leb-true m L h in take-replicate m L b less ∙ ap (λ (k : ℕ). replicate k b) (omega arith)
    side (is_false h) =
        let less = leb-false m L h in
        take_all m (replicate L b) (omega (arith, length-replicate L b)) ∙ ap (λ (k : ℕ). replicate k b) (omega arith)

pub short-left : (key : Option (List ℕ)) (r b : ℕ) (v st : List ℕ) (n : ℕ) (a : Result Opened Refusal) (left : List ℕ) → key_fits key ≡ true
    → n ≤ length st → n < sector_size → take short_size (replicate (length st) b) ≡ replicate n b
    → record { answer = open_answer a; staging = left } ≡ open_under key r v (replicate (length (take n st)) b)
    → left ++ drop n st ≡ patch st 0 (take short_size (replicate (length st) b))
short-left key r b v st n a left fits h f full o =
    let few : length (replicate n b) < sector_size = omega (arith, length-replicate n b, f) in
    let is : left ≡ replicate n b =
    ap (λ (y : OpenResult). y.staging) (o ∙ opening key fits r v _ ∙ ap (λ (m : ℕ). open_of (tags_for key) r v (replicate m b)) (length-take-le n st h))
    ∙ few-left (tags_for key) r v (replicate n b) few in
    rw (is, full, length-replicate n b, zero-add n) refl
