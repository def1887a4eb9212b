-- Advance: a step that does nothing changes nothing, so every further one is the same.
use Prim.Native.Nat.{ℕ, zero, suc, ◌+◌}
use mathlib.Core.Bool.{Bool, true, false}
use mathlib.Core.List.{List}
use mathlib.Core.Path.{◌≡◌, refl, ap, ◌∙◌}
use native.Mathlib.Omega.{arith}
use lib.Dec.{ltb}
use Rattle.octets.specs.Answer.{taken, refused}
use Rattle.octets.specs.Choice.{pick, first_met}
use Rattle.on_disk.specs.Layout.{section_size}
use Rattle.on_disk.specs.Section.{Entry}
use Rattle.model.specs.Store.{store_of, RecoveryStep, storing, after_effect, recovery_step_at}
use Rattle.model.specs.State.{Verdict, passed}
use Rattle.model.specs.Step.{step_rows, phase_step, step_by, step_of}
use Rattle.model.specs.JournalStep.{commit_step, home_step, recover_at}
use Rattle.model.specs.StepResult.{step_acknowledges, StepResult}
use Rattle.model.specs.Advance.{AdvanceResult, done_in, step_made, one_more, advance_from}
use Rattle.model.specs.declared.Phase.{Phase}
use Rattle.model.specs.declared.Phase.TheVariants.{Filling, Committing, WritingBack, Recovering}
use Rattle.model.specs.declared.State.{State}

-- a step's result that leaves everything as it was
pub record Still (s : State) (v st : List ℕ) (x : StepResult) : Type 0 where
  pub state : x.state ≡ s
  pub volume : after_effect v x.effect ≡ v
  pub staging : x.staging ≡ st

module _ (s : State) (v st : List ℕ) where
  abbrev Quiet : StepResult → Type 0
  Quiet x = done_in x.answer ≡ 0 → Still s v st x

  home-quiet : (e : Entry) (h : ℕ) (last : Bool) (p : Phase) (left : List ℕ) → Quiet (home_step s v st e h last p left)
  unfolding home_step
  home-quiet e h true p left q = absurd (omega (arith, q))
  home-quiet e h false p left q = absurd (omega (arith, q))

  pick-quiet : (b : Bool) (x y : StepResult) → Quiet x → Quiet y → Quiet (pick b x y)
  pick-quiet true x y p q = p
  pick-quiet false x y p q = q

  commit-quiet : (j : ℕ) → Quiet (commit_step s v st j)
  unfolding commit_step
  commit-quiet j = pick-quiet (ltb (j + 1) (section_size s.layout.width)) _ _ (λ q. absurd (omega (arith, q))) (λ q. absurd (omega (arith, q)))

  place-quiet : (k : ℕ) (x : RecoveryStep) → Quiet (recover_at s v st k x)
  place-quiet k (storing (store_of x h)) = home-quiet x.entry h _ _ _

  phase-quiet : (p : Phase) → Quiet (phase_step s v st p)
  phase-quiet Filling = λ q. record { state = refl; volume = refl; staging = refl }
  phase-quiet (Committing j) = commit-quiet j
  phase-quiet (WritingBack i h) = home-quiet _ h _ _ _
  phase-quiet (Recovering k) = place-quiet k (recovery_step_at s.layout v k)

  by-quiet : (r : Verdict) → Quiet (step_by s v st r)
  by-quiet (taken x) = phase-quiet s.phase
  by-quiet (refused r) = λ q. record { state = refl; volume = refl; staging = refl }

  pub step-quiet : Quiet (step_of s v st)
  unfolding step_of
  step-quiet = by-quiet (first_met (step_rows s v st) passed)

-- ---- further steps

module _ (o : AdvanceResult) where
  twice : (x : StepResult) → done_in x.answer ≡ 0 → after_effect o.volume x.effect ≡ o.volume → step_made (step_made o x) x ≡ step_made o x
  twice x q e = λ i. record {
    answer = x.answer;
    done = count i;
    acknowledged = said (step_acknowledges x.answer) o.acknowledged i;
    state = x.state;
    volume = after_effect (e i) x.effect;
    staging = x.staging;
  }
    where
      count : o.done + done_in x.answer + done_in x.answer ≡ o.done + done_in x.answer
      count = omega (arith, q)

      said : (b c : Bool) → pick b true (pick b true c) ≡ pick b true c
      said true c = refl
      said false c = refl

  same-again : done_in (one_more o).answer ≡ 0 → one_more (one_more o) ≡ one_more o
  same-again q =
      let x : StepResult = step_of o.state o.volume o.staging in
      let still : Still o.state o.volume o.staging x = step-quiet o.state o.volume o.staging q in
      let again : step_of x.state (after_effect o.volume x.effect) x.staging ≡ x = λ i. step_of (still.state i) (still.volume i) (still.staging i) in
      ap (step_made (step_made o x)) again ∙ twice x q still.volume

  -- once a step does nothing, so many more leave what it left
  pub all_same : (n : ℕ) → done_in (one_more o).answer ≡ 0 → advance_from (suc n) o ≡ one_more o
  unfolding advance_from
  all_same zero q = refl
  all_same (suc n) q = ap one_more (all_same n q) ∙ same-again q

  pub advance-more : (m n : ℕ) → advance_from n (advance_from m o) ≡ advance_from (m + n) o
  unfolding advance_from
  advance-more m zero = let e : m ≡ m + zero = omega arith in ap (λ (k : ℕ). advance_from k o) e
  advance-more m (suc n) = let e : suc (m + n) ≡ m + suc n = omega arith in ap one_more (advance-more m n) ∙ ap (λ (k : ℕ). advance_from k o) e
