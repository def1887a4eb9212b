-- A recovery ends: what holds after each of its steps, on any volume that opens.
use Prim.Native.Nat.{ℕ, zero, suc, ◌+◌, ◌*◌, ◌≤◌, ◌<◌}
use mathlib.Core.Bool.{Bool, true, false, not, ◌&&◌}
use mathlib.Core.List.{List, [], ◌∷◌}
use mathlib.Core.Logic.{◌≢◌}
use mathlib.Core.Path.{◌≡◌, refl, sym, ap, ◌∙◌, subst}
use native.Mathlib.Decide.{ℕ_discrete}
use native.Mathlib.Numerals.{add-one}
use native.Mathlib.Omega.{arith}
use lib.Dec.{leb, ltb, eqb}
use lib.ListN.{length, get_or, replicate, length-append, length-replicate}
use borrow.Author.Tests.{eq-eqb, ne_eqb, lt-ltb, le-leb, lt-leb, leb-false, ltb-false, not-false}
use Rattle.octets.specs.Answer.{Refusal, taken, refused, refuse, is_taken}
use Rattle.octets.proofs.Answers.{taken-same, refused-not-taken}
use Rattle.octets.specs.Choice.{pick, first_met}
use Rattle.octets.specs.Parts.{same}
use Rattle.octets.specs.Sectors.{sector_at}
use Rattle.octets.proofs.Choice.{Unmet, NoneAnswers, passes, unmet, met}
use Rattle.on_disk.specs.declared.Layout.{Layout}
use Rattle.model.specs.declared.Phase.{Phase}
use Rattle.model.specs.declared.Phase.TheVariants.{Filling, Recovering}
use Rattle.model.specs.declared.State.{State}
use Rattle.on_disk.specs.Layout.{entry_count, section_size, data_at, crosses, needed, layout_ok}
use Rattle.on_disk.specs.Section.{empty_section}
use Rattle.model.specs.Journal.{greatest_id, Replayed, replay}
use Rattle.on_disk.specs.Superblock.{superblock_at, layout_in}
use Rattle.model.specs.Store.{made, home_count, home_store, store_of, stores_of_entry, entry_stores, stores_of, RecoveryStep, storing, recovery_steps, steps_of, no_store, recovery_step_at}
use Rattle.model.specs.Tag.{Tag, Tags, tag_of, tag_at}
use Rattle.model.specs.State.{Verdict, passed, place_ok, replay_ok, volume_loan_ok, state_ok, volume_ok, staging_ok, store_ok, staged_ok, is_filling}
use Rattle.model.specs.Open.{open_rows, entries_verdict, phase_for, opened_state, OpenResult, open_by, open_with, open_of}
use Rattle.model.specs.Step.{recovery_row, step_by, step_of}
use Rattle.model.specs.JournalStep.{home_step, recover_at}
use Rattle.model.specs.StepResult.{StepResult}
use Rattle.model.specs.Read.{ReadResult, read_by, read_of}
use Rattle.model.specs.Advance.{AdvanceResult, no_step, step_made, one_more, advance_from, advance_of}
use Rattle.on_disk.proofs.Addresses.{Ranged, ranged}
use Rattle.model.proofs.Homes.{home-length, home-front}
use Rattle.model.proofs.Invariant.{state_at}
use Rattle.model.proofs.Journals.{Every, front, replay-kept}
use Rattle.model.proofs.Plans.{length-stores, steps-stores}
use Rattle.model.proofs.States.{staged-in}
use Rattle.model.proofs.Entries.{Complete, replay-complete, StepFor, step-every}
use Rattle.on_disk.proofs.Sections.{per_pos, length-empty}
use Rattle.layout.proofs.Sizes.{width-high}
use Rattle.volume_open.proofs.Queries.{valid-layout}
use Rattle.volume_step.proofs.Steps.{in-phase}
use Rattle.volume_check.specs.Check.{RecoverResult, recovered, recover_from, recover_of, is_bad}
use Rattle.volume_check.specs.Finishes.{store_sum, EndsAfter, Ends, BadMeansTag, Finished, Finishes}

-- ---- entries to be replayed

-- a complete one for a sector that the volume provides
record Sound (g : Layout) (x : Replayed) : Type 0 where
  low : x.entry.sector < g.provided
  complete : Complete g x

-- where open's check of them passed, the volume provides their sectors
entries-sound : (tag : Tag) (g : Layout) (xs : List Replayed) → Every (Complete g) xs → entries_verdict tag g xs ≡ passed → Every (Sound g) xs
entries-sound tag g [] p e = tt
entries-sound tag g (x ∷ xs) p e =
    go (entries-sound tag g xs p.1) (leb g.provided x.entry.sector) refl (not (same x.entry.tag (tag x.entry.sector x.entry.bytes))) e
  where
    go : (entries_verdict tag g xs ≡ passed → Every (Sound g) xs) → (high : Bool) → leb g.provided x.entry.sector ≡ high → (wrong : Bool)
        → pick high (refuse 6 (x.section ∷ x.index ∷ [])) (pick wrong (refuse 7 (x.section ∷ x.index ∷ [])) (entries_verdict tag g xs)) ≡ passed
        → Every (Sound g) (x ∷ xs)
    go ih true l w e = absurd (refused-not-taken _ tt e)
    go ih false l true e = absurd (refused-not-taken _ tt e)
    go ih false l false e = (record { low = leb-false g.provided x.entry.sector l; complete = p.0 }, ih e)

-- two or three stores to an entry
stores-sum : (g : Layout) (xs : List Replayed) → stores_of g xs ≡ store_sum g xs
unfolding home_count
stores-sum g [] = refl
stores-sum g (x ∷ xs) =
    let one : length (stores_of_entry g x) ≡ pick (crosses g x.entry.sector) 3 2 = length-stores g x in
    omega (arith, length-append (stores_of_entry g x) (entry_stores g xs), one, stores-sum g xs)

steps-sum : (g : Layout) (xs : List Replayed) → steps_of g xs ≡ store_sum g xs
steps-sum g xs = steps-stores g xs ∙ stores-sum g xs

-- ---- the steps of a recovery

module _ (g : Layout) (ok : layout_ok g ≡ true) (v₀ : List ℕ) (loan : volume_loan_ok v₀ ≡ true) (room : needed g * 512 ≤ length v₀)
    (entries : Every (Sound g) (replay g v₀)) where
  abbrev total : ℕ
  total = steps_of g (replay g v₀)

  abbrev empty : List ℕ
  empty = empty_section g.width

  abbrev in_state : Phase → State
  in_state p = state_at g 0 (greatest_id g v₀ + 1) p

  abbrev phase_after : ℕ → Phase
  phase_after i = pick (eqb i total) Filling (Recovering i)

  -- what i steps left
  record Reached (i : ℕ) (o : AdvanceResult) : Type 0 where
    done : o.done ≡ i
    state : o.state ≡ in_state (phase_after i)
    sized : length o.volume ≡ length v₀
    fronts : front g o.volume ≡ front g v₀
    staging : o.staging ≡ empty

  -- ---- no step is refused

  state-ok : (p : Phase) → place_ok g 0 (greatest_id g v₀ + 1) p ≡ true → state_ok (in_state p) ≡ true
  unfolding state_ok
  state-ok p e = rw (ok, le-leb 0 (entry_count g.width) (omega arith), ne_eqb (greatest_id g v₀ + 1) 0 (λ z. omega arith), e)

  volume-ok : (p : Phase) (v : List ℕ) → length v ≡ length v₀ → replay_ok g v p ≡ true → volume_ok (in_state p) v ≡ true
  unfolding volume_ok
  volume-ok p v z e =
      let whole : volume_loan_ok v ≡ true = rw z loan in
      rw (whole, le-leb (needed g * 512) (length v) (omega arith), e)

  staging-ok : staging_ok g empty ≡ true
  unfolding staging_ok
  staging-ok = eq-eqb (length empty) (section_size g.width * 512) (length-empty g.width (per_pos g.width (omega (arith, width-high g ok))))

  staged-ok : (p : Phase) → store_ok g empty p ≡ true → staged_ok (in_state p) empty ≡ true
  staged-ok p e = staged-in (in_state p) empty p refl staging-ok e

  row-passes : (p : RecoveryStep) → StepFor g (Sound g) p → first_met (recovery_row g p ∷ []) passed ≡ passed
  row-passes (storing (store_of x h)) s = rw (lt-leb g.provided x.entry.sector s.0.low)

  module _ (i : ℕ) (o : AdvanceResult) (low : i < total) (R : Reached i o) where
    abbrev v : List ℕ
    v = o.volume

    abbrev here : State
    here = in_state (Recovering i)

    replayed : replay g v ≡ replay g v₀
    replayed = replay-kept g v v₀ R.fronts

    place : StepFor g (Sound g) (recovery_step_at g v i)
    place = subst (λ (xs : List Replayed). StepFor g (Sound g) (get_or (recovery_steps g xs) i (storing no_store))) (sym replayed) (step-every g (Sound g) (replay g v₀) entries i low)

    present : i < steps_of g (replay g v)
    present = omega (arith, ap (steps_of g) replayed)

    steps : step_of here v empty ≡ recover_at here v empty i (recovery_step_at g v i)
    steps =
        in-phase here v empty (state-ok (Recovering i) refl) (volume-ok (Recovering i) v R.sized (lt-ltb i (steps_of g (replay g v)) present)) (staged-ok (Recovering i) refl) (Recovering i) refl
        ∙ ap (step_by here v empty) (row-passes (recovery_step_at g v i) place)

    state-here : o.state ≡ here
    state-here = R.state ∙ ap (λ (b : Bool). in_state (pick b Filling (Recovering i))) (ne_eqb i total (λ z. omega arith))

    -- ---- what it leaves

    room-here : needed g * 512 ≤ length v
    room-here = omega (arith, R.sized)

    phase-next : (last : Bool) → last ≡ eqb (i + 1) (steps_of g (replay g v)) → pick last Filling (Recovering (i + 1)) ≡ phase_after (suc i)
    phase-next last q =
        ap (λ (b : Bool). pick b Filling (Recovering (i + 1))) (q ∙ ap (λ (xs : List Replayed). eqb (i + 1) (steps_of g xs)) replayed)
        ∙ ap phase_after (add-one i)

    module _ (x : Replayed) (h : ℕ) (s : Sound g x) (one_of_lem : h < home_count g x.entry) where
      store-reached : (y : AdvanceResult) → y.done ≡ o.done + 1 → y.state ≡ in_state (phase_after (suc i))
          → y.volume ≡ made v (home_store g v x.entry h) → y.staging ≡ empty → Reached (suc i) y
      store-reached y count state volume staging =
          let R' : Ranged g = ranged g ok in
          let tag : Tag = tag_of g.width in
          record {
            done = omega (arith, R.done);
            state = state;
            sized = ap length volume ∙ home-length g R' tag v room-here x.entry s.low s.complete.whole s.complete.sized h one_of_lem ∙ R.sized;
            fronts = ap (front g) volume
                ∙ home-front g R' tag v room-here x.entry s.low s.complete.whole s.complete.sized h one_of_lem ∙ R.fronts;
            staging = staging;
          }

      home-reached : (last : Bool) → last ≡ eqb (i + 1) (steps_of g (replay g v))
          → Reached (suc i) (step_made o (home_step here v empty x.entry h last (Recovering (i + 1)) empty))
      unfolding home_step
      home-reached true q = store-reached _ refl (ap in_state (phase-next true q)) refl refl
      home-reached false q = store-reached _ refl (ap in_state (phase-next false q)) refl refl

    place-reached : (p : RecoveryStep) → StepFor g (Sound g) p → Reached (suc i) (step_made o (recover_at here v empty i p))
    place-reached (storing (store_of x h)) s = home-reached x h s.0 s.1 (eqb (i + 1) (steps_of g (replay g v))) refl

    one_more_lem : Reached (suc i) (one_more o)
    one_more_lem =
        subst (λ (x : StepResult). Reached (suc i) (step_made o x))
        (sym ((λ j. step_of (state-here j) v (R.staging j)) ∙ steps)) (place-reached (recovery_step_at g v i) place)

  starts : Reached 0 (no_step (opened_state g v₀) v₀ empty)
  starts = record { done = refl; state = ap in_state (first (ℕ_discrete total 0)); sized = refl; fronts = refl; staging = refl }
    where
      first : Dec (total ≡ 0) → phase_for total ≡ phase_after 0
      first (yes z) = rw (eq-eqb total 0 z, eq-eqb 0 total (sym z))
      first (no z) = rw (ne_eqb total 0 z, ne_eqb 0 total (λ q. z (sym q)))

  reached : (i : ℕ) → i ≤ total → Reached i (advance_of i (opened_state g v₀) v₀ empty)
  unfolding advance_from
  reached zero l = starts
  reached (suc i) l = one_more_lem i _ (omega arith) (reached i (omega arith))

  ends-after : EndsAfter total (opened_state g v₀) v₀ empty
  ends-after k l =
      let R = reached k l in
      (R.done, ap (λ (s : State). is_filling s.phase) R.state ∙ filling-when (eqb k total))
    where
      filling-when : (b : Bool) → is_filling (pick b Filling (Recovering k)) ≡ b
      filling-when true = refl
      filling-when false = refl

  -- ---- what the last step leaves

  abbrev left : AdvanceResult
  left = advance_of total (opened_state g v₀) v₀ empty

  left-state : left.state ≡ in_state Filling
  left-state = (reached total (omega arith)).state ∙ ap (λ (b : Bool). in_state (pick b Filling (Recovering total))) (eq-eqb total total refl)

  -- a read of a filling volume with an empty batch is refused by the tag alone
  module _ (v : List ℕ) (sized : length v ≡ length v₀) (i : ℕ) (low : i < g.provided) where
    abbrev fits : Bool
    fits = same (tag_at g v i) (tag_of g.width i (sector_at v (data_at g i)))

    abbrev read_with : List ℕ → Bool → ReadResult
    read_with b f = read_by tag_of (in_state Filling) v empty i b (pick (not f) (refuse 7 (i ∷ [])) passed)

    by-tag : (b : List ℕ) → length b ≡ 512 → read_of tag_of (in_state Filling) v empty i b ≡ read_with b fits
    unfolding read_of
    by-tag b z =
        rw (state-ok Filling refl, volume-ok Filling v sized refl, staged-ok Filling refl, eq-eqb (length b) 512 z, lt-leb g.provided i low)

    bad-by-tag : is_bad (in_state Filling) v empty i ≡ not fits
    unfolding is_bad
    bad-by-tag =
        ap (λ (o : ReadResult). not (is_taken o.answer) && ltb i g.provided) (by-tag (replicate 512 0) (length-replicate {A = ℕ} 512 0))
        ∙ ap (λ (b : Bool). not (is_taken (read_with (replicate 512 0) fits).answer) && b) (lt-ltb i g.provided low)
        ∙ by-test fits
      where
        by-test : (f : Bool) → not (is_taken (read_with (replicate 512 0) f).answer) && true ≡ not f
        by-test true = refl
        by-test false = refl

  bad-left : BadMeansTag left.state left.volume left.staging
  bad-left =
      subst (λ (s : State). BadMeansTag s left.volume left.staging) (sym left-state)
      (subst (λ (st : List ℕ). BadMeansTag (in_state Filling) left.volume st) (sym (reached total (omega arith)).staging)
      (bad-by-tag left.volume (reached total (omega arith)).sized))

-- ---- what an open that is taken says of the volume

-- where rules that only refuse lead to a pass, none is met, and what follows them passes
rules-pass : (rows : List (Bool × Verdict)) (z : Verdict) → NoneAnswers rows passed → first_met rows z ≡ passed → Unmet rows × (z ≡ passed)
rules-pass rows z none e =
    let u : Unmet rows = unmet rows passed none (go (first_met rows passed) refl) in
    (u, sym (passes rows z u) ∙ e)
  where
    go : (w : Verdict) → first_met rows passed ≡ w → first_met rows passed ≡ passed
    go (taken y) q = q
    go (refused x) q = absurd (refused-not-taken x tt (sym (met rows (refused x) passed z (refused-not-taken x tt) q) ∙ e))

open-refuses : (g : Layout) (r : ℕ) (v st : List ℕ) → NoneAnswers (open_rows g r v st) passed
open-refuses g r v st =
    let no : (x : Refusal ℕ) → ◌≢◌ {A = Verdict} (refused x) passed = λ x. refused-not-taken x tt in
    (no _, (no _, (no _, (no _, (no _, (no _, (no _, (no _, (no _, tt)))))))))

module _ (tags : Tags) (r : ℕ) (v st : List ℕ) where
  abbrev g : Layout
  g = layout_in r (superblock_at r v)

  abbrev verdict : Verdict
  verdict = first_met (open_rows g r v st) (entries_verdict (tags g.width) g (replay g v))

  module _ (passes-all : verdict ≡ passed) where
    rows-passed : Unmet (open_rows g r v st) × (entries_verdict (tags g.width) g (replay g v) ≡ passed)
    rows-passed = rules-pass (open_rows g r v st) (entries_verdict (tags g.width) g (replay g v)) (open-refuses g r v st) passes-all

    g-ok : layout_ok g ≡ true
    g-ok = valid-layout r (superblock_at r v) (not-false _ rows-passed.0.1.1.1.1.0)

    v-loan : volume_loan_ok v ≡ true
    v-loan = not-false _ rows-passed.0.0

    v-room : needed g * 512 ≤ length v
    v-room = ltb-false (length v) (needed g * 512) rows-passed.0.1.1.1.1.1.0

    v-entries : Every (Sound g) (replay g v)
    v-entries = entries-sound (tags g.width) g (replay g v) (replay-complete g (ranged g g-ok) v v-room) rows-passed.1

    opens : open_of tags r v st ≡ open_by g v st passed
    unfolding open_with
    opens = ap (open_by g v st) passes-all

    abbrev stores : ℕ
    stores = steps_of g (replay g v)

    abbrev last : AdvanceResult
    last = advance_of stores (opened_state g v) v (empty_section g.width)

    open-ends : EndsAfter stores (opened_state g v) v (empty_section g.width)
    open-ends = ends-after g g-ok v v-loan v-room v-entries

    last-fills : last.state.phase ≡ Filling
    last-fills = ap (λ (s : State). s.phase) (left-state g g-ok v v-loan v-room v-entries)

    last-bad : BadMeansTag last.state last.volume last.staging
    last-bad = bad-left g g-ok v v-loan v-room v-entries

  -- only an open that passed its rules answers so
  opened-passed : (s : State) (n : ℕ) → (open_of tags r v st).answer ≡ taken (s, n) → verdict ≡ passed
  unfolding open_with
  opened-passed s n = go verdict
    where
      go : (w : Verdict) → (open_by g v st w).answer ≡ taken (s, n) → w ≡ passed
      go (taken y) e = refl
      go (refused x) e = absurd (refused-not-taken x (s, n) e)

  recovered-passed : (s : State) (n : ℕ) → (recover_from v (open_of tags r v st)).answer ≡ taken (s, n) → verdict ≡ passed
  unfolding open_with
  recovered-passed s n = go verdict
    where
      go : (w : Verdict) → (recover_from v (open_by g v st w)).answer ≡ taken (s, n) → w ≡ passed
      go (taken y) e = refl
      go (refused x) e = absurd (refused-not-taken x (s, n) e)

  open-counts : (s : State) (n : ℕ) → (open_of tags r v st).answer ≡ taken (s, n)
      → (n ≡ store_sum s.layout (replay s.layout v)) × EndsAfter n s v (open_of tags r v st).staging
  open-counts s n e =
      let p : verdict ≡ passed = opened-passed s n e in
      let a = taken-same (s, n) (opened_state g v, steps_of g (replay g v)) (sym e ∙ ap (λ (o : OpenResult). o.answer) (opens p)) in
      let es : s ≡ opened_state g v = ap (λ (x : State × ℕ). x.0) a in
      let en : n ≡ steps_of g (replay g v) = ap (λ (x : State × ℕ). x.1) a in
      rw (es, en, opens p) (steps-sum g (replay g v), open-ends p)

-- ---- the claims

pub ends : Ends
ends = open-counts

pub finishes : Finishes
unfolding recover_of
finishes r v st s n e =
    let p : verdict tag_of r v st ≡ passed = recovered-passed tag_of r v st s n e in
    let o : AdvanceResult = last tag_of r v st p in
    let is : recover_of r v st ≡ recovered (stores tag_of r v st p) o = ap (recover_from v) (opens tag_of r v st p) in
    let a = taken-same (s, n) (o.state, stores tag_of r v st p) (sym e ∙ ap (λ (x : RecoverResult). x.answer) is) in
    let es : s ≡ o.state = ap (λ (x : State × ℕ). x.0) a in
    subst (Finished r v st) (sym es)
    (record {
      filling = last-fills tag_of r v st p;
      bad = subst (λ (x : RecoverResult). BadMeansTag o.state x.volume x.staging) (sym is) (last-bad tag_of r v st p);
    })
