-- The steps of a recovery, by the stores of the replay that the journal locates: each is one of them, and there are no others.
use Prim.Native.Nat.{ℕ, ◌≤◌, ◌<◌}
use mathlib.Core.Bool.{true}
use mathlib.Core.List.{List}
use mathlib.Core.Path.{◌≡◌, sym, ap, ◌∙◌}
use native.Mathlib.Omega.{arith}
use lib.Dec.{ltb}
use lib.ListN.{get_or-map}
use Rattle.on_disk.specs.Layout.{layout_ok}
use Rattle.model.specs.Journal.{section_of, replay}
use Rattle.model.specs.Store.{entry_stores, no_store, storing, steps_of, recovery_step_at}
use Rattle.on_disk.specs.declared.Layout.{Layout}
use Rattle.model.proofs.Plans.{steps-stores}
use Rattle.section.specs.Locations.{Locates}
use Rattle.section.specs.declared.Location.{Location}
use Rattle.journal.specs.Replay.{entry_store_at, location_at}
use Rattle.journal.proofs.Walks.{replay-high, located, located-past, is-there}

module _ (g : Layout) (v : List ℕ) where
  pub step-store : (k : ℕ) → recovery_step_at g v k ≡ storing (entry_store_at g v k)
  step-store k = get_or-map storing (entry_stores g (replay g v)) k no_store

  module _ (ok : layout_ok g ≡ true) where
    pub steps_high : steps_of g (replay g v) ≤ 47616
    steps_high = omega (arith, steps-stores g (replay g v), replay-high g v ok)

    -- step n, which x names
    module _ (n : ℕ) (x : Location) (e : x ≡ location_at g v n) where
      pub step-located : x.section < g.sections → (n < steps_of g (replay g v)) × Locates g (section_of g v x.section) x (entry_store_at g v n)
      step-located l = let found = located g v ok n x e l in (omega (arith, found.0, steps-stores g (replay g v)), found.1)

      pub step_past : x.section ≡ g.sections → steps_of g (replay g v) ≤ n
      step_past q = omega (arith, located-past g v ok n x e q, steps-stores g (replay g v))

      pub step-there : ltb x.section g.sections ≡ ltb n (steps_of g (replay g v))
      step-there = is-there g v ok n x e ∙ ap (ltb n) (sym (steps-stores g (replay g v)))
