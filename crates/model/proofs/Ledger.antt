-- The ledger's steps: specs/Ledger.
use Prim.Native.Nat.{ℕ, zero, suc, ◌+◌, ◌-◌, ◌<◌}
use mathlib.Core.Bool.{true}
use mathlib.Core.List.{List, [], ◌∷◌}
use mathlib.Core.Path.{◌≡◌, refl, sym, ap, ◌∙◌}
use native.Mathlib.Omega.{arith}
use lib.ListN.{length, replicate}
use borrow.Author.Tests.{ne_eqb}
use Rattle.model.specs.Ledger.{Ledger, stepped, entered, count_down, after_flush, after_step, note_all, FlushesCount}

-- the ledger's step: no flush counts, or one does
module _ (l : Ledger) where
  counts-on : (ns ns' : List ℕ) → ns ≡ ns' → count_down l.contents l.batch ns ≡ count_down l.contents l.batch ns'
  counts-on ns ns' e = ap (count_down l.contents l.batch) e

  pub still : l.to_come ≡ [] → after_step l ≡ l
  still e = counts-on l.to_come [] e ∙ ap (λ (ns : List ℕ). record { contents = l.contents; batch = l.batch; to_come = ns }) (sym e)

  pub ticks : (d e : ℕ) → l.to_come ≡ d ∷ [] → e + 1 ≡ d → 0 < e → after_step l ≡ record { contents = l.contents; batch = l.batch; to_come = e ∷ [] }
  ticks d zero q z p = absurd (omega arith)
  ticks d (suc e) q z p =
      let w : d ≡ suc (suc e) = omega arith in
      counts-on l.to_come (suc (suc e) ∷ []) (q ∙ ap (λ (x : ℕ). x ∷ []) w) ∙ rw (ne_eqb (suc (suc e)) 1 (λ x. omega arith))

  pub enters : (d : ℕ) → l.to_come ≡ d ∷ [] → d ≡ 1 → after_step l ≡ record { contents = entered l.contents l.batch; batch = []; to_come = [] }
  enters d q z = counts-on l.to_come (1 ∷ []) (q ∙ ap (λ (x : ℕ). x ∷ []) z)

-- ---- two flushes count, the second a step behind the first

abbrev counting : Ledger → List ℕ → Ledger
counting l ns = record { contents = l.contents; batch = l.batch; to_come = ns }

module _ (m : ℕ) where
  enters-first : (k : ℕ) (l : Ledger) → l.to_come ≡ suc (suc k) ∷ (suc k ∷ []) → (note_all m l (replicate (suc k) (stepped true))).contents ≡ entered l.contents l.batch
  enters-first zero l e = ap (λ (x : Ledger). x.contents) (counts-on l l.to_come (2 ∷ (1 ∷ [])) e)
  enters-first (suc k) l e =
      let on : after_step l ≡ counting l (suc (suc k) ∷ (suc k ∷ [])) =
      counts-on l l.to_come (suc (suc (suc k)) ∷ (suc (suc k) ∷ [])) e
      ∙ rw (ne_eqb (suc (suc (suc k))) 1 (λ x. omega arith), ne_eqb (suc (suc k)) 1 (λ x. omega arith)) in
      ap (λ (x : Ledger). (note_all m x (replicate (suc k) (stepped true))).contents) on ∙ enters-first k (counting l (suc (suc k) ∷ (suc k ∷ []))) refl

pub flushes-count : FlushesCount
flushes-count m l two some none =
    ap (λ (x : Ledger). (note_all m x (replicate (m - 1) (stepped true))).contents) both
    ∙ ap (λ (n : ℕ). (note_all m (counting l (m ∷ ((m - 1) ∷ []))) (replicate n (stepped true))).contents) least
    ∙ enters-first m (m - 2) (counting l (m ∷ ((m - 1) ∷ []))) (λ i. above i ∷ (least i ∷ []))
  where
    least : m - 1 ≡ suc (m - 2)
    least = omega arith

    above : m ≡ suc (suc (m - 2))
    above = omega arith

    begun : (ns : List ℕ) → after_flush m (counting l ns) ≡ counting l (m ∷ ns)
    begun ns = rw (ne_eqb (length l.batch) 0 some)

    both : after_flush m (after_step (after_flush m l)) ≡ counting l (m ∷ ((m - 1) ∷ []))
    both =
        ap (λ (x : Ledger). after_flush m (after_step (after_flush m x))) (ap (counting l) none)
        ∙ ap (λ (x : Ledger). after_flush m (after_step x)) (begun [])
        ∙ ap (after_flush m) (ticks (counting l (m ∷ [])) m (m - 1) refl (omega arith) (omega arith))
        ∙ begun ((m - 1) ∷ [])
