-- The M steps of a commit leave the section in the journal, where its id goes.
use Prim.Native.Nat.{ℕ, zero, suc, ◌+◌, ◌-◌, ◌*◌, ◌%◌, ◌≤◌, ◌<◌}
use mathlib.Core.Bool.{true, ◌&&◌}
use mathlib.Core.List.{List, ◌++◌}
use mathlib.Core.Path.{◌≡◌, refl, sym, ap, ◌∙◌, subst}
use native.Mathlib.Nat.{mod-lt}
use native.Mathlib.Numerals.{add-one}
use native.Mathlib.Omega.{arith}
use native.Mathlib.Decide.{ℕ_discrete, dec_lt}
use lib.Dec.{eqb, leb}
use lib.ListN.{length, take, drop}
use lib.Seq.{take-add, drop-drop}
use borrow.Author.Tests.{lt-ltb, le-ltb}
use Rattle.octets.specs.Parts.{part}
use Rattle.octets.specs.Sectors.{sector_at, put_sector}
use Rattle.octets.proofs.Sectors.{length-put, sector-put-same, sector-put-other}
use Rattle.on_disk.specs.declared.Layout.{Layout}
use Rattle.model.specs.declared.Phase.{Phase}
use Rattle.model.specs.declared.Phase.TheVariants.{Committing}
use Rattle.model.specs.declared.State.{State}
use Rattle.on_disk.specs.Layout.{most_sectors, section_size, section_at, needed}
use Rattle.octets.specs.Lists.{collect}
use Rattle.model.specs.Journal.{section_of, section_for, sealed}
use Rattle.model.specs.State.{volume_loan_ok, replay_ok, state_ok, volume_ok, staging_ok, staged_ok, in_phase}
use Rattle.model.specs.Store.{one, after_effect}
use Rattle.model.specs.Step.{step_of}
use Rattle.model.specs.JournalStep.{commit_step}
use Rattle.model.specs.StepResult.{StepResult}
use Rattle.model.specs.Advance.{AdvanceResult, one_more, advance_from, advance_of}
use Rattle.model.specs.ReadBack.{sealed_section, CommitStores}
use Rattle.on_disk.proofs.Addresses.{ranged, section-low, base-room}
use Rattle.model.proofs.Journals.{length-sealed}
use Rattle.model.proofs.States.{state-layout, state-commits, staging-length, volume-room}

-- the sectors of a part, one behind the other
collect-same : (n : ℕ) (f h : ℕ → List ℕ) → ((i : ℕ) → i < n → f i ≡ h i) → collect n f ≡ collect n h
collect-same zero f h e = refl
collect-same (suc n) f h e = λ i. collect-same n f h (λ k l. e k (omega arith)) i ++ e n (omega arith) i

sectors-of : (v : List ℕ) (a n : ℕ) → part v (a * 512) (n * 512) ≡ collect n (λ i. sector_at v (a + i))
sectors-of v a zero = refl
sectors-of v a (suc n) =
    let more : suc n * 512 ≡ n * 512 + 512 = omega arith in
    let from : a * 512 + n * 512 ≡ (a + n) * 512 = omega arith in
    ap (λ (k : ℕ). take k (drop (a * 512) v)) more ∙ take-add (n * 512) 512 (drop (a * 512) v)
    ∙ (λ i. sectors-of v a n i ++ (ap (take 512) (drop-drop (n * 512) (a * 512) v) ∙ ap (λ (k : ℕ). take 512 (drop k v)) from) i)

module _ (s : State) (v st : List ℕ) (sound : state_ok s ≡ true) (fits : volume_ok s v ≡ true) (staging : staging_ok s.layout st ≡ true) (begins : s.phase ≡ Committing 0) where
  abbrev g : Layout
  g = s.layout

  abbrev M : ℕ
  M = section_size g.width

  abbrev first : ℕ
  first = section_at g (section_for g s.id)

  inside : (j : ℕ) → j < M → (first + j + 1) * 512 ≤ length v
  inside j l =
      let R = ranged g (state-layout s sound) in
      omega (arith, section-low g R (section_for g s.id) (mod-lt (s.id - 1) R.s-low), base-room g R, volume-room s v fits)

  sized : (j : ℕ) → j < M → length (sealed g st s.id j) ≡ 512
  sized j l = length-sealed g st s.id j (staging-length g st staging) l

  volume-at : (j : ℕ) (u : List ℕ) → length u ≡ length v → volume_ok (in_phase s (Committing j)) u ≡ true
  unfolding volume_ok
  volume-at j u e =
      subst (λ (n : ℕ). (eqb (n % 512) 0 && leb n (most_sectors * 512)) && (leb (needed g * 512) n && true) ≡ true) (sym e)
      (ap (λ (p : Phase). volume_loan_ok v && (leb (needed g * 512) (length v) && replay_ok g v p)) (sym begins) ∙ fits)

  -- a step of the commit, on a volume as long
  module _ (j : ℕ) (l : j < M) (u : List ℕ) (long : length u ≡ length v) where
    abbrev here : State
    here = in_phase s (Committing j)

    runs : step_of here u st ≡ commit_step here u st j
    unfolding step_of staged_ok
    runs = rw (state-commits s sound 0 begins j l, volume-at j u long, staging)

    effect_is : (step_of here u st).effect ≡ one (record { at = first + j; content = sealed g st s.id j })
    unfolding commit_step
    effect_is = ap (λ (x : StepResult). x.effect) runs ∙ go (dec_lt (j + 1) M)
      where
        go : Dec (j + 1 < M) → (commit_step here u st j).effect ≡ one (record { at = first + j; content = sealed g st s.id j })
        go (yes q) = rw (lt-ltb (j + 1) M q)
        go (no q) = rw (le-ltb (j + 1) M (omega arith))

    staging-is : (step_of here u st).staging ≡ st
    unfolding commit_step
    staging-is = ap (λ (x : StepResult). x.staging) runs ∙ go (dec_lt (j + 1) M)
      where
        go : Dec (j + 1 < M) → (commit_step here u st j).staging ≡ st
        go (yes q) = rw (lt-ltb (j + 1) M q)
        go (no q) = rw (le-ltb (j + 1) M (omega arith))

    state-is : j + 1 < M → (step_of here u st).state ≡ in_phase s (Committing (j + 1))
    unfolding commit_step
    state-is q = ap (λ (x : StepResult). x.state) runs ∙ rw (lt-ltb (j + 1) M q)

  -- what j steps leave
  record Made (j : ℕ) (o : AdvanceResult) : Type 0 where
    long : length o.volume ≡ length v
    staged : o.staging ≡ st
    next : j < M → o.state ≡ in_phase s (Committing j)
    stored : (i : ℕ) → i < j → sector_at o.volume (first + i) ≡ sealed g st s.id i

  one_more_lem : (j : ℕ) → j < M → (o : AdvanceResult) → Made j o → Made (suc j) (one_more o)
  one_more_lem j l o m =
      record {
        long = ap length volume ∙ length-put o.volume (first + j) (sealed g st s.id j) (sized j l) room ∙ m.long;
        staged = ap (λ (x : StepResult). x.staging) step ∙ staging-is j l o.volume m.long;
        next = λ q. ap (λ (x : StepResult). x.state) step ∙ state-is j l o.volume m.long (omega arith) ∙ ap (λ (k : ℕ). in_phase s (Committing k)) (add-one j);
        stored = λ i q. ap (λ (x : List ℕ). sector_at x (first + i)) volume ∙ go i q (ℕ_discrete i j);
      }
    where
      step : step_of o.state o.volume o.staging ≡ step_of (in_phase s (Committing j)) o.volume st
      step = λ i. step_of (m.next l i) o.volume (m.staged i)

      volume : (one_more o).volume ≡ put_sector o.volume (first + j) (sealed g st s.id j)
      volume = ap (after_effect o.volume) (ap (λ (x : StepResult). x.effect) step ∙ effect_is j l o.volume m.long)

      room : (first + j + 1) * 512 ≤ length o.volume
      room = omega (arith, inside j l, m.long)

      go : (i : ℕ) → i < suc j → Dec (i ≡ j) → sector_at (put_sector o.volume (first + j) (sealed g st s.id j)) (first + i) ≡ sealed g st s.id i
      go i q (yes e) =
          subst (λ (x : ℕ). sector_at (put_sector o.volume (first + j) (sealed g st s.id j)) (first + x) ≡ sealed g st s.id x) (sym e)
          (sector-put-same o.volume (first + j) (sealed g st s.id j) (sized j l) room)
      go i q (no e) =
          sector-put-other o.volume (first + j) (sealed g st s.id j) (sized j l) room (first + i) (λ z. e (omega arith))
          ∙ m.stored i (omega arith)

  made : (j : ℕ) → j ≤ M → Made j (advance_of j s v st)
  unfolding advance_from
  made zero l =
      record {
        long = refl;
        staged = refl;
        next = λ q i. record { layout = s.layout; phase = begins i; count = s.count; id = s.id };
        stored = λ i q. absurd (omega arith);
      }
  made (suc j) l = one_more_lem j (omega arith) (advance_of j s v st) (made j (omega arith))

  left : section_of g (advance_of M s v st).volume (section_for g s.id) ≡ sealed_section g st s.id
  left =
      sectors-of (advance_of M s v st).volume first M
      ∙ collect-same M (λ i. sector_at (advance_of M s v st).volume (first + i)) (sealed g st s.id) (made M (omega arith)).stored

pub commit-stores : CommitStores
commit-stores = left
