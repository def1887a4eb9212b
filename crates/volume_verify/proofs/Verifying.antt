-- Verify: the verdict on many tags, and what the first check gives.
use Prim.Native.Nat.{ℕ, ◌+◌, ◌<◌}
use mathlib.Core.Bool.{Bool, true, false, not, ◌&&◌}
use mathlib.Core.List.{List, [], ◌∷◌}
use mathlib.Core.Path.{◌≡◌, refl, sym, ap, ◌∙◌}
use Rattle.octets.specs.Answer.{refuse}
use Rattle.octets.specs.Lists.{all_below}
use Rattle.octets.proofs.Lists.{all-below, below_all}
use Rattle.on_disk.proofs.Addresses.{and_both}
use Rattle.journal.proofs.Scans.{first-at}
use Rattle.model.specs.declared.State.{State}
use Rattle.model.specs.State.{passed, state_ok, volume_ok}
use Rattle.volume_verify.specs.Results.{tags_verdict}

module _ (fits : ℕ → Bool) (n k : ℕ) where
  pub first-unfit : (i : ℕ) → i < k → fits i ≡ false → ((j : ℕ) → j < i → fits j ≡ true) → refuse 7 ((n + i) ∷ []) ≡ tags_verdict fits n k
  first-unfit i l e h = go (all_below k fits) refl
    where
      go : (b : Bool) → all_below k fits ≡ b → refuse 7 ((n + i) ∷ []) ≡ tags_verdict fits n k
      go true q = absurd (let z : ◌≡◌ {A = Bool} false true = sym e ∙ below_all k fits q i l in cc)
      go false q = rw (q, first-at (λ j. not (fits j)) k i l (ap not e) (λ j m. ap not (h j m)))

  pub all-fit : ((j : ℕ) → j < k → fits j ≡ true) → passed ≡ tags_verdict fits n k
  all-fit h = rw (all-below k fits h)

module _ (s : State) (v : List ℕ) (ok : state_ok s && volume_ok s v ≡ true) where
  pub state-ok : state_ok s ≡ true
  state-ok = (and_both (state_ok s) (volume_ok s v) ok).0

  pub volume-ok : volume_ok s v ≡ true
  volume-ok = (and_both (state_ok s) (volume_ok s v) ok).1
