-- The report of an image: what a query says of it, and the text for each answer.
use Prim.Native.Nat.{ℕ, ◌+◌, ◌-◌, ◌*◌, ◌/◌, ◌≤◌, ◌<◌}
use mathlib.Core.Bool.{true}
use mathlib.Core.List.{List, []}
use mathlib.Core.Path.{◌≡◌, refl, sym, ap, ◌∙◌, subst}
use native.Mathlib.Nat.{mul-le-mul_left, div-add-mod'}
use native.Mathlib.Omega.{arith}
use lib.ListN.{length, replicate}
use borrow.Author.Tests.{lt-ltb, le-ltb}
use Rattle.std.proofs.Common.{Err}
use Rattle.octets.specs.Answer.{Answer, taken, refused, refusal}
use Rattle.octets.proofs.Answers.{taken-same, refused-not-taken}
use Rattle.octets.specs.Choice.{first_met}
use Rattle.on_disk.specs.declared.Layout.{Layout}
use Rattle.model.specs.declared.Refusal.{Refusal}
use Rattle.model.specs.Refusal.{refusal_of}
use Rattle.on_disk.specs.Layout.{section_size, tag_area, run_length, needed, layout_ok}
use Rattle.on_disk.specs.Superblock.{superblock_at, layout_in}
use Rattle.model.specs.State.{Verdict, passed}
use Rattle.model.specs.Open.{superblock_rows}
use Rattle.model.specs.Query.{query_by, query_with, query_of}
use Rattle.layout.proofs.Sizes.{provided-low, sections-low, section-inside}
use Rattle.volume_open.proofs.Queries.{valid-layout, held-layout, held-valid, held-room}
use Rattle.volume_check.specs.Check.{RecoverResult, recover_of}
use Rattle.volume_report.specs.Report.{Report, refused_report, report_from, report_held, report_of}
use Rattle.volume_report.specs.Text.{Checks}
use Rattle.volume_report.specs.declared.Text.{Text}

-- ---- the numbers that a query gives

-- a volume has room for the sectors that it provides
provided-inside : (g : Layout) → layout_ok g ≡ true → g.provided ≤ needed g
provided-inside g ok =
    let s = g.provided - 1 in
    let runs : s / run_length g * run_length g ≤ s / run_length g * (tag_area g + run_length g) = mul-le-mul_left (s / run_length g) (omega arith) in
    omega (arith, runs, div-add-mod' s (run_length g), provided-low g ok)

module _ (v : List ℕ) (g : Layout) (n : ℕ) (is : taken (g, n) ≡ query_of 0 v) (short : length v ≤ 128 * 512) where
  abbrev held : Layout
  held = layout_in 0 (superblock_at 0 v)

  same : held ≡ g
  same = held-layout held 0 v (taken (g, n)) is g n refl

  pub held-ok : layout_ok g ≡ true
  held-ok = sym (ap layout_ok same) ∙ valid-layout 0 (superblock_at 0 v) (held-valid held 0 v (taken (g, n)) is g n refl)

  room : needed g * 512 ≤ length v
  room = subst (λ (h : Layout). needed h * 512 ≤ length v) same (held-room held 0 v (taken (g, n)) is g n refl)

  pub held-provided : g.provided ≤ 128
  held-provided = omega (arith, provided-inside g held-ok, room, short)

  held-size : n ≡ section_size g.width * 512
  unfolding query_with
  held-size = go (first_met (superblock_rows held 0 v) passed) (sym is) ∙ ap (λ (h : Layout). section_size h.width * 512) same
    where
      go : (w : Verdict) → query_by held w ≡ taken (g, n) → n ≡ section_size held.width * 512
      go (taken y) q = sym (ap (λ (x : Layout × ℕ). x.1) (taken-same (held, section_size held.width * 512) (g, n) q))
      go (refused y) q = absurd (refused-not-taken y (g, n) q)

  pub held-staging : n ≤ 128 * 512
  held-staging = omega (arith, held-size, section-inside g held-ok (length v) 0 room (omega (arith, sections-low g held-ok)), short)

-- ---- the report for each answer

-- a check that is refused
pub refuses : (o : Report) (t : Text) (v : List ℕ) (r : Refusal) → o ≡ refused_report v (refusal_of r) → Checks o t (Err r) t v
refuses o t v r e = (refl, ap (λ (x : Report). x.text) e, sym (ap (λ (x : Report). x.image) e))

pub too_long : (v : List ℕ) → 128 * 512 < length v → report_of v ≡ refused_report v (refusal 1 [])
unfolding report_of
too_long v l = rw (lt-ltb (128 * 512) (length v) l)

module _ (v : List ℕ) (short : length v ≤ 128 * 512) where
  pub by-query : (a : Answer ℕ (Layout × ℕ)) → a ≡ query_of 0 v → report_of v ≡ report_held v a
  unfolding report_of
  by-query a is = rw (le-ltb (128 * 512) (length v) short) (ap (report_held v) (sym is))

  pub by-recover : (g : Layout) (n : ℕ) → taken (g, n) ≡ query_of 0 v → (st : List ℕ) → st ≡ replicate n 0 → (o : RecoverResult) → o ≡ recover_of 0 v st
      → report_of v ≡ report_from g o
  by-recover g n is st z o recovered =
      by-query (taken (g, n)) is ∙ ap (λ (x : List ℕ). report_from g (recover_of 0 v x)) (sym z) ∙ ap (report_from g) (sym recovered)
