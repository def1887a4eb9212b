-- The flags of bad sectors.
use Prim.Native.Nat.{ℕ, zero, suc, ◌<◌}
use mathlib.Core.Bool.{Bool}
use mathlib.Core.List.{[], ◌∷◌, ◌++◌}
use mathlib.Core.Path.{◌≡◌, refl, sym, ap, ◌∙◌}
use native.Mathlib.Decide.{dec_lt}
use native.Mathlib.Omega.{arith}
use lib.ListN.{length, get_or, length-append, get_or-append}
use lib.Seq.{get_or_at}
use Rattle.octets.specs.Choice.{pick}
use Rattle.volume_check.specs.Check.{flags_of}

module _ (bad : ℕ → Bool) where
  length-flags : (n : ℕ) → length (flags_of bad n) ≡ n
  length-flags zero = refl
  length-flags (suc n) = length-append (flags_of bad n) (pick (bad n) 1 0 ∷ []) ∙ rw (length-flags n) (omega arith)

  pub get_flags : (n i : ℕ) → i < n → get_or (flags_of bad n) i 0 ≡ pick (bad i) 1 0
  get_flags zero i l = absurd (omega arith)
  get_flags (suc n) i l = go (get_flags n i) (dec_lt i n)
    where
      go : (i < n → get_or (flags_of bad n) i 0 ≡ pick (bad i) 1 0) → Dec (i < n) → get_or (flags_of bad n ++ (pick (bad n) 1 0 ∷ [])) i 0 ≡ pick (bad i) 1 0
      go ih (yes q) = get_or-append (flags_of bad n) (pick (bad n) 1 0 ∷ []) 0 i (rw (length-flags n) q) ∙ ih q
      go ih (no q) =
          let same : i ≡ n = omega arith in
          get_or_at (flags_of bad n) (pick (bad n) 1 0) [] 0 i (length-flags n ∙ sym same) ∙ ap (λ (m : ℕ). pick (bad m) 1 0) (sym same)
