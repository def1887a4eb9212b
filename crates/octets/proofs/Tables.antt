-- Laws of tables.
use Prim.Native.Nat.{ℕ, zero, suc, ◌+◌, ◌≤◌, ◌<◌}
use native.Mathlib.Decide.{dec_lt}
use native.Mathlib.Numerals.{add-one}
use native.Mathlib.Omega.{arith}
use mathlib.Core.List.{List, [], ◌∷◌, ◌++◌}
use mathlib.Core.Path.{◌≡◌, refl, sym, ap, ◌∙◌}
use lib.ListN.{length, get_or, length-append, get_or-append, get_or-eq_default}
use lib.Seq.{get_or_at}
use Rattle.octets.specs.Tables.{tabulate}

module _ {A : Type 0} where
  pub length-tabulate : (n : ℕ) (f : ℕ → A) → length (tabulate n f) ≡ n
  unfolding tabulate
  length-tabulate zero f = refl
  length-tabulate (suc n) f = rw length-append (omega (arith, length-tabulate n f))

  -- the next entry
  pub tabulate-next : (n : ℕ) (f : ℕ → A) → tabulate (n + 1) f ≡ tabulate n f ++ (f n ∷ [])
  unfolding tabulate
  tabulate-next n f = ap (λ (k : ℕ). tabulate k f) (add-one n)

  -- an entry; d stands past the end
  pub get_or-tabulate : (n : ℕ) (f : ℕ → A) (i : ℕ) (d : A) → i < n → get_or (tabulate n f) i d ≡ f i
  unfolding tabulate
  get_or-tabulate zero f i d l = absurd (omega arith)
  get_or-tabulate (suc n) f i d l = go (dec_lt i n) (get_or-tabulate n f i d)
    where
      go : Dec (i < n) → (i < n → get_or (tabulate n f) i d ≡ f i) → get_or (tabulate n f ++ (f n ∷ [])) i d ≡ f i
      go (yes q) before = get_or-append (tabulate n f) (f n ∷ []) d i (omega (arith, length-tabulate n f)) ∙ before q
      go (no q) before =
          let e : n ≡ i = omega arith in
          get_or_at (tabulate n f) (f n) [] d i (length-tabulate n f ∙ e) ∙ ap f e

  pub get_or-tabulate-past : (n : ℕ) (f : ℕ → A) (i : ℕ) (d : A) → n ≤ i → get_or (tabulate n f) i d ≡ d
  get_or-tabulate-past n f i d l = get_or-eq_default (tabulate n f) d (omega (arith, length-tabulate n f))

  -- rules that agree below n have the same table
  pub tabulate-cong : (n : ℕ) (f g : ℕ → A) → ((i : ℕ) → i < n → f i ≡ g i) → tabulate n f ≡ tabulate n g
  unfolding tabulate
  tabulate-cong zero f g e = refl
  tabulate-cong (suc n) f g e = rw (tabulate-cong n f g (λ i l. e i (omega arith)), e n (omega arith))

  -- and rules with the same table, as one computation may show, agree at each entry; for a test, g is true throughout
  pub each : (n : ℕ) (f g : ℕ → A) → tabulate n f ≡ tabulate n g → (i : ℕ) → i < n → f i ≡ g i
  each n f g e i l =
      sym (get_or-tabulate n f i (f i) l) ∙ ap (λ (t : List A). get_or t i (f i)) e ∙ get_or-tabulate n g i (f i) l
