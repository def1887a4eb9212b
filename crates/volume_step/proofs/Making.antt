-- The store of a step, made: the answer names its sector, which lies in the volume.
use Prim.Native.Nat.{ℕ, ◌+◌, ◌<◌}
use mathlib.Core.Bool.{Bool, true, false}
use mathlib.Core.List.{List, []}
use mathlib.Core.Path.{◌≡◌, refl, sym, ap, ◌∙◌}
use native.Mathlib.Omega.{arith}
use lib.Dec.{ltb}
use lib.ListN.{length, get_or}
use Rattle.std.proofs.Common.{Option, Some, None, Result, Ok}
use Rattle.octets.specs.Answer.{Answer, taken, refused}
use Rattle.octets.specs.Sectors.{put_sector}
use Rattle.on_disk.specs.declared.Layout.{Layout}
use Rattle.model.specs.declared.Phase.TheVariants.{Recovering}
use Rattle.model.specs.declared.Says.{Says}
use Rattle.model.specs.declared.State.{State}
use Rattle.model.specs.declared.Refusal.{Refusal}
use Rattle.model.specs.declared.Step.{Step}
use Rattle.model.specs.Refusal.{step_answer}
use Rattle.on_disk.specs.Section.{entry_of}
use Rattle.model.specs.Journal.{section_of, replay}
use Rattle.model.specs.Store.{Store, Effect, none, one, made, home_store, steps_of}
use Rattle.model.specs.State.{state_ok, volume_ok, staging_ok}
use Rattle.model.specs.Step.{step_of}
use Rattle.model.specs.NextStore.{next_store_of, store_named, Within, sector_named, sector_stored, StepStores}
use Rattle.model.proofs.States.{staged-in}
use Rattle.model.proofs.NextStore.{step-stores}
use Rattle.section.specs.declared.Location.{Location}
use Rattle.section.specs.Locations.{Locates}
use Rattle.journal.specs.Replay.{entry_store_at}
use Rattle.volume_step.specs.Results.{stored_in_recovery, Leaves, LeavesBoth, Fills, Inside}
use Rattle.volume_step.proofs.Steps.{told, place-told}

-- ---- the store of a step, told and then made

-- a sector of the layout lies in the volume
named-inside : (g : Layout) (v : List ℕ) (a : Answer ℕ (Option ℕ × Says)) (e : Effect) → sector_named a ≡ sector_stored e → Within g v e → Inside v a
named-inside g v (taken (None, x)) e q w = tt
named-inside g v (refused r) e q w = tt
named-inside g v (taken (Some at, x)) none q w = absurd (omega (arith, ap length q))
named-inside g v (taken (Some at, x)) (one y) q w =
    let same : at ≡ y.at = ap (λ (l : List ℕ). get_or l 0 0) q in
    omega (arith, same, w.inside, w.lent)

module _ (s : State) (v st out : List ℕ) (size : length out ≡ 512) (r : Result Step Refusal) (s' : State) (out' st' : List ℕ)
    (filled : Fills out (next_store_of s v st out) r s' out' st') where
  store : StepStores s v st
  store = step-stores s v st

  -- the call's result is the step's
  step-told : Fills out (step_of s v st) r s' out' st'
  step-told = rw (told s v st out size) at filled

  pub inside-volume : Inside v (step_answer r)
  inside-volume = rw step-told.answer (named-inside s.layout v (step_of s v st).answer (step_of s v st).effect store.sector store.within)

  pub step-made : (v' : List ℕ) → v' ≡ store_named v (step_answer r) out' → LeavesBoth v out (step_of s v st) r s' v' out' st'
  step-made v' e = (
    record {
      answer = step-told.answer;
      state = step-told.state;
      volume = e ∙ (λ i. store_named v (step-told.answer i) (step-told.content i)) ∙ store.made out;
      staging = step-told.staging;
    },
    step-told.content,
  )

-- ---- a store of a recovery, made

module _ (s : State) (v st : List ℕ) (sound : state_ok s ≡ true) (fits : volume_ok s v ≡ true) (staging : staging_ok s.layout st ≡ true)
    (k : ℕ) (phase : s.phase ≡ Recovering k) (x : Location) (found : Locates s.layout (section_of s.layout v x.section) x (entry_store_at s.layout v k))
    (n : ℕ) (en : n ≡ (entry_of s.layout.width (section_of s.layout v x.section) x.entry).sector) (low : n < s.layout.provided) where
  abbrev home : Store
  home = home_store s.layout v (entry_of s.layout.width (section_of s.layout v x.section) x.entry) x.store

  module _ (at : ℕ) (v' : List ℕ) (made-home : (at ≡ home.at) × (v' ≡ made v home)) (o : Step × State) where
    stored_there : (more : Bool) → o ≡ stored_in_recovery s at (k + 1) more → v' ≡ store_named v (step_answer (Ok o.0)) home.content
    stored_there true e = rw e (made-home.1 ∙ ap (λ (a : ℕ). put_sector v a home.content) (sym made-home.0))
    stored_there false e = rw e (made-home.1 ∙ ap (λ (a : ℕ). put_sector v a home.content) (sym made-home.0))

    pub place-made : (more : Bool) → more ≡ ltb (k + 1) (steps_of s.layout (replay s.layout v)) → o ≡ stored_in_recovery s at (k + 1) more → Leaves v (step_of s v st) (Ok o.0) o.1 v' st
    place-made more q e =
        let filled = place-told s v st [] sound fits (staged-in s st (Recovering k) phase staging refl) k phase x found n en low at home.content (λ i. record { at = made-home.0 i; content = home.content }) o more q e in
        record {
          answer = filled.answer;
          state = filled.state;
          volume = stored_there more e ∙ (λ i. store_named v (filled.answer i) (filled.content i)) ∙ (step-stores s v st).made [];
          staging = filled.staging;
        }
