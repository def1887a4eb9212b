-- Query: one law to a return, and what an answer says of the volume.
use Prim.Native.Nat.{ℕ, ◌+◌, ◌*◌, ◌≤◌, ◌<◌}
use mathlib.Core.Bool.{true, false}
use mathlib.Core.List.{List, [], ◌∷◌}
use mathlib.Core.Logic.{◌≢◌}
use mathlib.Core.Path.{◌≡◌, refl, sym, ap, ◌∙◌}
use native.Mathlib.Omega.{arith}
use lib.ListN.{length}
use borrow.Author.Tests.{lt-ltb, le-ltb, ltb-false, not-false}
use Rattle.octets.specs.Answer.{Answer, Refusal, taken, refused, refuse}
use Rattle.octets.specs.Choice.{first_met}
use Rattle.octets.specs.Parts.{same}
use Rattle.octets.proofs.Answers.{taken-same, refused-not-taken}
use Rattle.octets.proofs.Choice.{Unmet, NoneAnswers, unmet}
use Rattle.on_disk.specs.declared.Layout.{Layout}
use Rattle.on_disk.specs.Layout.{section_size, needed, layout_ok}
use Rattle.on_disk.specs.Superblock.{superblock_of, superblock_at, layout_in, is_zero, superblock_ok}
use Rattle.model.specs.State.{Verdict, passed, volume_loan_ok}
use Rattle.model.specs.Open.{superblock_rows}
use Rattle.model.specs.Query.{query_by, query_with}
use Rattle.on_disk.proofs.Addresses.{and_both}

module _ (g : Layout) (r : ℕ) (v : List ℕ) where
  pub wrong-loan : volume_loan_ok v ≡ false → refuse 1 [] ≡ query_with g r v
  unfolding query_with
  wrong-loan e = rw e

  module _ (loan : volume_loan_ok v ≡ true) where
    pub out_of_range : 64 < r → refuse 2 [] ≡ query_with g r v
    unfolding query_with
    out_of_range l = rw (loan, lt-ltb 64 r l)

    module _ (low : r ≤ 64) where
      pub short-of-superblock : length v < (r + 8) * 512 → refuse 5 ((r + 8) ∷ []) ≡ query_with g r v
      unfolding query_with
      short-of-superblock l = rw (loan, le-ltb 64 r low, lt-ltb (length v) ((r + 8) * 512) l)

      module _ (room : (r + 8) * 512 ≤ length v) (b : List ℕ) (is : b ≡ superblock_at r v) where
        pub not-formatted : is_zero b ≡ true → refuse 3 [] ≡ query_with g r v
        unfolding query_with
        not-formatted e =
            let zero : is_zero (superblock_at r v) ≡ true = ap is_zero (sym is) ∙ e in
            rw (loan, le-ltb 64 r low, le-ltb (length v) ((r + 8) * 512) room, zero)

        module _ (written : is_zero b ≡ false) where
          written_at : is_zero (superblock_at r v) ≡ false
          written_at = ap is_zero (sym is) ∙ written

          pub invalid : superblock_ok r b ≡ false → refuse 4 [] ≡ query_with g r v
          unfolding query_with
          invalid e =
              let wrong : superblock_ok r (superblock_at r v) ≡ false = ap (superblock_ok r) (sym is) ∙ e in
              rw (loan, le-ltb 64 r low, le-ltb (length v) ((r + 8) * 512) room, written_at, wrong)

          module _ (valid : superblock_ok r b ≡ true) where
            valid-at : superblock_ok r (superblock_at r v) ≡ true
            valid-at = ap (superblock_ok r) (sym is) ∙ valid

            pub short : (n : ℕ) → n ≡ needed g → length v < n * 512 → refuse 5 (n ∷ []) ≡ query_with g r v
            unfolding query_with
            short n e l =
                rw (
                  loan,
                  le-ltb 64 r low,
                  le-ltb (length v) ((r + 8) * 512) room,
                  written_at,
                  valid-at,
                  lt-ltb (length v) (needed g * 512) (rw e at l),
                  e,
                )

            pub holds : (n m : ℕ) → n ≡ needed g → n * 512 ≤ length v → m ≡ section_size g.width → taken (g, m * 512) ≡ query_with g r v
            unfolding query_with
            holds n m e l q =
                rw (
                  loan,
                  le-ltb 64 r low,
                  le-ltb (length v) ((r + 8) * 512) room,
                  written_at,
                  valid-at,
                  le-ltb (length v) (needed g * 512) (rw e at l),
                  q,
                )

-- a valid superblock's numbers are in range
pub valid-layout : (r : ℕ) (b : List ℕ) → superblock_ok r b ≡ true → layout_ok (layout_in r b) ≡ true
valid-layout r b e = (and_both (same b (superblock_of (layout_in r b))) (layout_ok (layout_in r b)) e).1

-- ---- what an answer says

pub superblock-rows : (g : Layout) (r : ℕ) (v : List ℕ) → NoneAnswers (superblock_rows g r v) passed
superblock-rows g r v =
    let no : (x : Refusal ℕ) → ◌≢◌ {A = Verdict} (refused x) passed = λ x. refused-not-taken x tt in
    (no _, (no _, (no _, (no _, (no _, (no _, tt))))))

module _ (g : Layout) (r : ℕ) (v : List ℕ) (a : Answer ℕ (Layout × ℕ)) (is : a ≡ query_with g r v) where
  abbrev verdict : Verdict
  verdict = first_met (superblock_rows g r v) passed

  asked : a ≡ query_by g verdict
  unfolding query_with
  asked = is

  pub refused-by : (x : Refusal ℕ) → a ≡ refused x → verdict ≡ refused x
  refused-by x e = go verdict (sym asked ∙ e)
    where
      go : (w : Verdict) → query_by g w ≡ refused x → w ≡ refused x
      go (taken y) q = absurd (let z : ◌≡◌ {A = ℕ} 0 1 = cc in omega arith)
      go (refused y) q = cc

  module _ (h : Layout) (n : ℕ) (e : a ≡ taken (h, n)) where
    pub held-passes : verdict ≡ passed
    held-passes = go verdict (sym asked ∙ e)
      where
        go : (w : Verdict) → query_by g w ≡ taken (h, n) → w ≡ passed
        go (taken y) q = refl
        go (refused y) q = absurd (let z : ◌≡◌ {A = ℕ} 0 1 = cc in omega arith)

    pub held-layout : g ≡ h
    held-layout = go verdict (sym asked ∙ e)
      where
        go : (w : Verdict) → query_by g w ≡ taken (h, n) → g ≡ h
        go (taken y) q = ap (λ (x : Layout × ℕ). x.0) (taken-same (g, section_size g.width * 512) (h, n) q)
        go (refused y) q = absurd (let z : ◌≡◌ {A = ℕ} 0 1 = cc in omega arith)

    held-unmet : Unmet (superblock_rows g r v)
    held-unmet = unmet (superblock_rows g r v) passed (superblock-rows g r v) held-passes

    pub held-valid : superblock_ok r (superblock_at r v) ≡ true
    held-valid = not-false _ held-unmet.1.1.1.1.0

    pub held-room : needed g * 512 ≤ length v
    held-room = ltb-false (length v) (needed g * 512) held-unmet.1.1.1.1.1.0
