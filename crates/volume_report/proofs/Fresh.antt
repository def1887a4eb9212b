-- The report of a volume that format left.
use Prim.Native.Nat.{ℕ, zero, suc, ◌+◌, ◌*◌, ◌≤◌, ◌<◌}
use mathlib.Core.Bool.{Bool, true, false, not, ◌&&◌}
use mathlib.Core.List.{List, [], ◌∷◌, ◌++◌}
use mathlib.Core.Path.{◌≡◌, refl, sym, ap, ◌∙◌, subst}
use native.Mathlib.Omega.{arith}
use lib.Dec.{ltb}
use lib.ListN.{length, replicate, length-replicate}
use borrow.Author.Tests.{le-ltb}
use Rattle.octets.specs.Answer.{Answer, taken, is_taken}
use Rattle.octets.specs.Choice.{pick}
use Rattle.on_disk.specs.declared.Layout.{Layout}
use Rattle.model.specs.declared.Phase.TheVariants.{Filling}
use Rattle.model.specs.declared.State.{State}
use Rattle.on_disk.specs.Layout.{section_size}
use Rattle.on_disk.specs.Section.{empty_section}
use Rattle.model.specs.Tag.{tag_of}
use Rattle.model.specs.State.{passed}
use Rattle.model.specs.Format.{format_of}
use Rattle.model.specs.Open.{OpenResult, open_of}
use Rattle.model.specs.Query.{query_of}
use Rattle.model.specs.Read.{ReadResult, read_of}
use Rattle.model.specs.Advance.{advance_from}
use Rattle.model.specs.Medium.{medium_of}
use Rattle.model.specs.Ledger.{Ledger}
use Rattle.model.specs.World.{World, an_open, by_open, after}
use Rattle.model.specs.Demand3.{world_after, ledger_after, Agrees}
use Rattle.model.specs.Guarantees.{OpensFresh}
use Rattle.model.proofs.Demand3.{demand3-sha256, formatted-plain, fresh-opens}
use Rattle.volume_check.specs.Check.{recover_from, recover_of, is_bad, count_of}
use Rattle.volume_report.specs.Report.{most_image_sectors, decimal, layout_line, line_of, bad_line, bad_lines, check_text, report_from, report_held, report_of, FreshReports, example, FreshPrints}

-- ---- a check that finds no bad sector

module _ (bad : ℕ → Bool) where
  no_lines : (n : ℕ) → ((s : ℕ) → s < n → bad s ≡ false) → bad_lines bad n ≡ bad_lines (λ s. false) n
  no_lines zero good = refl
  no_lines (suc n) good =
      λ i. no_lines n (λ s l. good s (omega arith)) i ++ pick (good n (omega arith) i) (bad_line n) []

  no-count : (n : ℕ) → ((s : ℕ) → s < n → bad s ≡ false) → count_of bad n ≡ count_of (λ s. false) n
  no-count zero good = refl
  no-count (suc n) good = λ i. no-count n (λ s l. good s (omega arith)) i + pick (good n (omega arith) i) 1 0

  none-bad : (g : Layout) → ((s : ℕ) → s < g.provided → bad s ≡ false) → check_text g 0 bad ≡ check_text g 0 (λ s. false)
  none-bad g good =
      λ i. layout_line g ++ line_of "replay " 0 ++ no_lines g.provided good i ++ line_of "bad " (no-count g.provided good i)

-- ---- a volume that format left

module _ (g : Layout) (v : List ℕ) (e : (format_of tag_of g v).answer ≡ passed) where
  abbrev v₀ : List ℕ
  v₀ = (format_of tag_of g v).volume

  abbrev st : List ℕ
  st = replicate (section_size g.width * 512) 0

  abbrev empty : List ℕ
  empty = empty_section g.width

  abbrev s₀ : State
  s₀ = record { layout = g; phase = Filling; count = 0; id = 1 }

  fresh : OpensFresh tag_of g v₀
  fresh = fresh-opens tag_of g (formatted-plain g v e) v e

  opens : open_of tag_of g.reserved v₀ st ≡ record { answer = taken (s₀, 0); staging = empty }
  opens = fresh.opened st (length-replicate (section_size g.width * 512) 0)

  -- every sector is read
  found : (n : ℕ) → n < g.provided → is_taken (read_of tag_of s₀ v₀ empty n (replicate 512 0)).answer ≡ true
  unfolding after
  found n l =
      let w : World = (by_open (medium_of v₀) empty (taken (s₀, 0))).world in
      let told : Ledger = ledger_after tag_of g v (an_open st ∷ []) in
      let opened : world_after tag_of g v (an_open st ∷ []) ≡ w = ap (λ (o : OpenResult). (by_open (medium_of v₀) o.staging o.answer).world) opens in
      let agrees : Agrees tag_of g v₀ w told =
      subst (λ (x : World). Agrees tag_of g v₀ x told) opened (demand3-sha256 g v e (an_open st ∷ []) (ap (λ (x : World). x.settled) opened)) in
      ap (λ (o : ReadResult). is_taken o.answer) (agrees.reads s₀ empty (replicate 512 0) n refl (length-replicate {A = ℕ} 512 0) l)

  good : (n : ℕ) → n < g.provided → is_bad s₀ v₀ empty n ≡ false
  unfolding is_bad
  good n l = ap (λ (b : Bool). not b && ltb n g.provided) (found n l)

  recovers : (report_from g (recover_from v₀ (open_of tag_of g.reserved v₀ st))).text ≡ check_text g 0 (is_bad s₀ v₀ empty)
  unfolding advance_from
  recovers = ap (λ (o : OpenResult). (report_from g (recover_from v₀ o)).text) opens

  module _ (none : g.reserved ≡ 0) (small : length v₀ ≤ most_image_sectors * 512) where
    held : (report_held v₀ (query_of 0 v₀)).text ≡ (report_from g (recover_of 0 v₀ st)).text
    held = ap (λ (r : ℕ). (report_held v₀ (query_of r v₀)).text) (sym none) ∙ ap (λ (q : Answer ℕ (Layout × ℕ)). (report_held v₀ q).text) fresh.queried

    decoded : recover_of 0 v₀ st ≡ recover_from v₀ (open_of tag_of g.reserved v₀ st)
    unfolding recover_of
    decoded =
        ap (λ (r : ℕ). recover_from v₀ (open_of tag_of r v₀ st)) (sym none)

    reports : (report_of v₀).text ≡ check_text g 0 (λ s. false)
    unfolding report_of
    reports =
        rw (le-ltb (most_image_sectors * 512) (length v₀) small)
        (held ∙ ap (λ o. (report_from g o).text) decoded ∙ recovers ∙ none-bad (is_bad s₀ v₀ empty) g good)

pub fresh-reports : FreshReports
fresh-reports g v e none small = reports g v e none small

pub fresh-prints : FreshPrints
unfolding decimal
fresh-prints v e small = reports example v e refl small
