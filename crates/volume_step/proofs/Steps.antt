-- Step: one law to a return, over plain lists.
use Prim.Native.Nat.{ℕ, ◌+◌, ◌≤◌, ◌<◌}
use mathlib.Core.Bool.{Bool, true, false, ◌&&◌}
use mathlib.Core.List.{List}
use mathlib.Core.Path.{◌≡◌, refl, sym, ap, ◌∙◌, subst}
use native.Mathlib.Omega.{arith}
use lib.Dec.{eqb, ltb}
use lib.ListN.{length}
use mathlib.Core.Logic.{◌≢◌}
use Rattle.std.proofs.Common.{Some, None, Result, Ok, Err}
use borrow.Author.Tests.{ltb-true, ltb-false, eq-eqb, ne_eqb, lt-ltb, le-ltb, le-leb, lt-leb}
use Rattle.octets.specs.Answer.{taken, refused}
use Rattle.octets.specs.Choice.{first_met}
use Rattle.model.specs.declared.Phase.{Phase}
use Rattle.model.specs.declared.Phase.TheVariants as phases
use Rattle.model.specs.declared.Refusal.{Refusal}
use Rattle.model.specs.declared.Refusal.TheVariants.{Malformed, StagedRange, JournalRange}
use Rattle.model.specs.declared.Says.{Says}
use Rattle.model.specs.declared.Says.TheVariants.{Nothing, Acknowledged, Filling}
use Rattle.model.specs.declared.State.{State}
use Rattle.model.specs.declared.Step.{Step}
use Rattle.model.specs.Refusal.{refusal_of}
use Rattle.on_disk.specs.Layout.{section_size}
use Rattle.on_disk.specs.Section.{Entry, entry_of, empty_section}
use Rattle.model.specs.Journal.{section_of, replay}
use Rattle.model.specs.Store.{Store, one, home_count, home_store, RecoveryStep, storing, steps_of, recovery_step_at}
use Rattle.model.specs.State.{passed, state_ok, volume_ok, staged_ok, in_phase}
use Rattle.model.specs.Step.{range_rows, phase_step, step_by, step_of}
use Rattle.model.specs.JournalStep.{commit_store, commit_step, home_step, write_back_step, recover_at}
use Rattle.model.specs.StepResult.{StepResult}
use Rattle.model.specs.NextStore.{next_store_of}
use Rattle.section.specs.declared.Location.{Location}
use Rattle.section.specs.Locations.{entry_store_of, Locates}
use Rattle.journal.specs.Replay.{entry_store_at}
use Rattle.journal.proofs.Recovery.{step-store}
use Rattle.volume_step.specs.Results.{stored_in_recovery, Fills}
use Rattle.model.proofs.States.{volume-replay}
use Rattle.model.proofs.NextStore.{step-stores}

-- ---- a step that makes a store

abbrev making : Store → Says → State → List ℕ → StepResult
making x w s st = record { answer = taken (Some x.at, w); state = s; effect = one x; staging = st }

-- its sector and its content are those of the store x
module _ (out : List ℕ) (at : ℕ) (out' : List ℕ) (x : Store) (is : record { at = at; content = out' } ≡ x) where
  fills : (w : Says) (s : State) (st : List ℕ) → Fills out (making x w s st) (Ok (record { stored = Some at; says = w })) s out' st
  fills w s st =
      record {
        answer = ap (λ (y : Store). taken (Some y.at, w)) is;
        state = refl;
        content = ap (λ (y : Store). y.content) is;
        staging = refl;
      }

-- ---- a sector of the section

module _ (s : State) (v st out : List ℕ) (j at : ℕ) (out' : List ℕ) (is : record { at = at; content = out' } ≡ commit_store s v st j) where
  pub goes_on : j + 1 < section_size s.layout.width
      → Fills out (commit_step s v st j) (Ok (record { stored = Some at; says = Nothing })) (in_phase s (phases.Committing (j + 1))) out' st
  unfolding commit_step
  goes_on l = rw (lt-ltb (j + 1) (section_size s.layout.width) l) (fills out at out' (commit_store s v st j) is Nothing (in_phase s (phases.Committing (j + 1))) st)

  pub ends : section_size s.layout.width ≤ j + 1
      → Fills out (commit_step s v st j) (Ok (record { stored = Some at; says = Acknowledged })) (record { layout = s.layout; phase = phases.WritingBack 0 0; count = s.count; id = s.id + 1 }) out' st
  unfolding commit_step
  ends l =
      rw (le-ltb (j + 1) (section_size s.layout.width) l)
      (fills out at out' (commit_store s v st j) is Acknowledged (record { layout = s.layout; phase = phases.WritingBack 0 0; count = s.count; id = s.id + 1 }) st)

-- ---- a call that is refused, and one that is not

module _ (s : State) (v st : List ℕ) (sound : state_ok s ≡ true) (fits : volume_ok s v ≡ true) (staging : staged_ok s st ≡ true) where
  tested : step_of s v st ≡ step_by s v st (first_met (range_rows s v st s.phase) passed)
  unfolding step_of
  tested = rw (sound, fits, staging)

  pub in-phase : (p : Phase) → s.phase ≡ p → step_of s v st ≡ step_by s v st (first_met (range_rows s v st p) passed)
  in-phase p q = tested ∙ ap (λ (x : Phase). step_by s v st (first_met (range_rows s v st x) passed)) q

-- behind the test of the loan for the content, a call that leaves the store to be made is the step
pub told : (s : State) (v st out : List ℕ) → length out ≡ 512 → next_store_of s v st out ≡ step_of s v st
told s v st out n = (step-stores s v st).told out (eq-eqb (length out) 512 n)

module _ (s : State) (v st out : List ℕ) where
  abbrev Refuses : StepResult → Refusal → Type 0
  Refuses o r = Fills out o (Err r) s out st

  kept : (r : Refusal) → Refuses (step_by s v st (refused (refusal_of r))) r
  kept r = record { answer = refl; state = refl; content = refl; staging = refl }

  -- the loan for the content
  pub wrong-loan : length out ≢ 512 → Refuses (next_store_of s v st out) Malformed
  unfolding next_store_of
  wrong-loan n = rw (ne_eqb (length out) 512 n) (kept Malformed)

  pub unsound : state_ok s ≡ false → Refuses (step_of s v st) Malformed
  unfolding step_of
  unsound e = rw e (kept Malformed)

  pub wrong-volume : state_ok s ≡ true → volume_ok s v ≡ false → Refuses (step_of s v st) Malformed
  unfolding step_of
  wrong-volume sound e = rw (sound, e) (kept Malformed)

  pub wrong-staging : state_ok s ≡ true → staged_ok s st ≡ false → Refuses (step_of s v st) Malformed
  unfolding step_of
  wrong-staging sound e = rw (sound, e, neither (volume_ok s v)) (kept Malformed)
    where
      neither : (b : Bool) → b && false ≡ false
      neither true = refl
      neither false = refl

  module _ (sound : state_ok s ≡ true) (fits : volume_ok s v ≡ true) (staging : staged_ok s st ≡ true) where
    out_of_range : (p : Phase) → s.phase ≡ p → (r : Refusal) → first_met (range_rows s v st p) passed ≡ refused (refusal_of r) → Refuses (step_of s v st) r
    out_of_range p q r u = rw (in-phase s v st sound fits staging p q ∙ ap (step_by s v st) u) (kept r)

    -- what a step of the phase leaves, the step leaves
    pub runs : (p : Phase) → s.phase ≡ p → first_met (range_rows s v st p) passed ≡ passed → (r : Result Step Refusal) (s' : State) (out' st' : List ℕ)
        → Fills out (phase_step s v st p) r s' out' st' → Fills out (step_of s v st) r s' out' st'
    runs p q u r s' out' st' e = rw (in-phase s v st sound fits staging p q ∙ ap (step_by s v st) u ∙ ap (phase_step s v st) q) e

    pub idles : s.phase ≡ phases.Filling → Fills out (step_of s v st) (Ok (record { stored = None; says = Filling })) s out st
    idles q = runs phases.Filling q refl _ s out st (record { answer = refl; state = refl; content = refl; staging = refl })

    -- ---- a store that brings an entry home

    module _ (e : Entry) (h at : ℕ) (out' : List ℕ) (is : record { at = at; content = out' } ≡ home_store s.layout v e h) where
      home-next : (last : Bool) (p : Phase) (left : List ℕ) → last ≡ false
          → Fills out (home_step s v st e h last p left) (Ok (record { stored = Some at; says = Nothing })) (in_phase s p) out' st
      unfolding home_step
      home-next last p left q = rw q (fills out at out' (home_store s.layout v e h) is Nothing (in_phase s p) st)

      home-last : (last : Bool) (p : Phase) (left : List ℕ) → last ≡ true
          → Fills out (home_step s v st e h last p left) (Ok (record { stored = Some at; says = Filling })) (record { layout = s.layout; phase = phases.Filling; count = 0; id = s.id }) out' left
      unfolding home_step
      home-last last p left q =
          rw q (fills out at out' (home_store s.layout v e h) is Filling (record { layout = s.layout; phase = phases.Filling; count = 0; id = s.id }) left)

    -- ---- writing back

    module _ (i h : ℕ) (phase : s.phase ≡ phases.WritingBack i h) (n : ℕ) (en : n ≡ (entry_of s.layout.width st i).sector) where
      pub staged-range : s.layout.provided ≤ n → Refuses (step_of s v st) (StagedRange i)
      staged-range l =
          out_of_range (phases.WritingBack i h) phase (StagedRange i)
          (rw (le-leb s.layout.provided (entry_of s.layout.width st i).sector (omega (arith, en))))

      module _ (low : n < s.layout.provided) (at : ℕ) (out' : List ℕ)
          (is : record { at = at; content = out' } ≡ home_store s.layout v (entry_of s.layout.width st i) h) where
        writes : (r : Result Step Refusal) (s' : State) (st' : List ℕ) → Fills out (write_back_step s v st i h) r s' out' st' → Fills out (step_of s v st) r s' out' st'
        writes r s' st' e =
            runs (phases.WritingBack i h) phase (rw (lt-leb s.layout.provided (entry_of s.layout.width st i).sector (omega (arith, en)))) r s' out' st' e

        pub same-entry : h + 1 < home_count s.layout (entry_of s.layout.width st i)
            → Fills out (step_of s v st) (Ok (record { stored = Some at; says = Nothing })) (in_phase s (phases.WritingBack i (h + 1))) out' st
        same-entry l =
            writes _ _ st
            (rw (ne_eqb (h + 1) (home_count s.layout (entry_of s.layout.width st i)) (λ z. omega arith))
            (home-next (entry_of s.layout.width st i) h at out' is false (phases.WritingBack i (h + 1)) (empty_section s.layout.width) refl))

        pub next-entry : h + 1 ≡ home_count s.layout (entry_of s.layout.width st i) → i + 1 < s.count
            → Fills out (step_of s v st) (Ok (record { stored = Some at; says = Nothing })) (in_phase s (phases.WritingBack (i + 1) 0)) out' st
        next-entry z l =
            writes _ _ st
            (rw (eq-eqb (h + 1) (home_count s.layout (entry_of s.layout.width st i)) z, ne_eqb (i + 1) s.count (λ y. omega arith))
            (home-next (entry_of s.layout.width st i) h at out' is false (phases.WritingBack (i + 1) 0) (empty_section s.layout.width) refl))

        pub last_entry : h + 1 ≡ home_count s.layout (entry_of s.layout.width st i) → i + 1 ≡ s.count
            → Fills out (step_of s v st) (Ok (record { stored = Some at; says = Filling })) (record { layout = s.layout; phase = phases.Filling; count = 0; id = s.id }) out' (empty_section s.layout.width)
        last_entry z y =
            writes _ _ (empty_section s.layout.width)
            (rw (eq-eqb (h + 1) (home_count s.layout (entry_of s.layout.width st i)) z, eq-eqb (i + 1) s.count y)
            (home-last (entry_of s.layout.width st i) h at out' is true (phases.WritingBack (i + 1) 0) (empty_section s.layout.width) refl))

    -- ---- recovering

    module _ (k : ℕ) (phase : s.phase ≡ phases.Recovering k) (x : Location) (found : Locates s.layout (section_of s.layout v x.section) x (entry_store_at s.layout v k))
        (n : ℕ) (en : n ≡ (entry_of s.layout.width (section_of s.layout v x.section) x.entry).sector) where
      abbrev entry : Entry
      entry = entry_of s.layout.width (section_of s.layout v x.section) x.entry

      step-found : recovery_step_at s.layout v k ≡ storing (entry_store_of s.layout.width (section_of s.layout v x.section) x)
      step-found = step-store s.layout v k ∙ ap storing (sym found.names)

      pub journal-range : s.layout.provided ≤ n → Refuses (step_of s v st) (JournalRange x.section x.entry)
      journal-range l =
          out_of_range (phases.Recovering k) phase (JournalRange x.section x.entry)
          (rw (step-found, le-leb s.layout.provided entry.sector (omega (arith, en))))

      module _ (low : n < s.layout.provided) (at : ℕ) (out' : List ℕ) (is : record { at = at; content = out' } ≡ home_store s.layout v entry x.store) where
        recovers : (r : Result Step Refusal) (s' : State)
            → Fills out (home_step s v st entry x.store (eqb (k + 1) (steps_of s.layout (replay s.layout v))) (phases.Recovering (k + 1)) st) r s' out' st
            → Fills out (step_of s v st) r s' out' st
        recovers r s' e =
            runs (phases.Recovering k) phase (rw (step-found, lt-leb s.layout.provided entry.sector (omega (arith, en)))) r s' out' st
            (subst (λ (p : RecoveryStep). Fills out (recover_at s v st k p) r s' out' st) (sym step-found) e)

        -- what a step of a recovery answers, and the state after it
        pub place-told : (o : Step × State) (more : Bool) → more ≡ ltb (k + 1) (steps_of s.layout (replay s.layout v)) → o ≡ stored_in_recovery s at (k + 1) more
            → Fills out (step_of s v st) (Ok o.0) o.1 out' st
        place-told o true q e =
            rw e
            (recovers _ _
            (home-next entry x.store at out' is (eqb (k + 1) (steps_of s.layout (replay s.layout v))) (phases.Recovering (k + 1)) st
            (ne_eqb (k + 1) (steps_of s.layout (replay s.layout v)) (λ z. omega (arith, ltb-true (k + 1) (steps_of s.layout (replay s.layout v)) (sym q))))))
        place-told o false q e =
            rw e
            (recovers _ _
            (home-last entry x.store at out' is (eqb (k + 1) (steps_of s.layout (replay s.layout v))) (phases.Recovering (k + 1)) st
            (eq-eqb (k + 1) (steps_of s.layout (replay s.layout v))
            (omega (arith, volume-replay s v fits k phase, ltb-false (k + 1) (steps_of s.layout (replay s.layout v)) (sym q))))))
