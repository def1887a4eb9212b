-- An open and its staging: a refused one leaves it, and one with fewer bytes than a sector has is refused.
use Prim.Native.Nat.{ℕ, ◌+◌, ◌*◌, ◌<◌}
use mathlib.Core.Bool.{false, true≢false}
use mathlib.Core.List.{List, []}
use mathlib.Core.Logic.{◌≢◌}
use mathlib.Core.Path.{◌≡◌, refl, ap, ◌∙◌}
use native.Mathlib.Omega.{arith}
use lib.ListN.{length}
use borrow.Author.Tests.{ne_eqb}
use Rattle.octets.specs.Answer.{taken, refused, refuse, is_taken}
use Rattle.octets.specs.Choice.{first_met}
use Rattle.octets.specs.Sectors.{sector_size}
use Rattle.on_disk.specs.Layout.{entry_count, section_size}
use Rattle.on_disk.specs.Superblock.{superblock_at, layout_in}
use Rattle.model.specs.Journal.{replay}
use Rattle.model.specs.State.{Verdict, staging_ok}
use Rattle.model.specs.Tag.{Tags}
use Rattle.model.specs.Open.{OpenResult, superblock_rows, open_rows, entries_verdict, open_by, open_with, open_of}
use Rattle.model.specs.Medium.{medium_of}
use Rattle.model.specs.World.{off, World, by_open, resting}
use Rattle.on_disk.specs.declared.Layout.{Layout}
use Rattle.drill.specs.Played.{staging_in}
use Rattle.drill.proofs.Rows.{each}

module _ (tags : Tags) (r : ℕ) (v x : List ℕ) where
  abbrev g : Layout
  g = layout_in r (superblock_at r v)

  abbrev left : OpenResult → World
  left o = (by_open (medium_of v) o.staging o.answer).world

  -- what an open leaves in its loan
  pub open-leaves : (open_of tags r v x).staging ≡ staging_in (left (open_of tags r v x)).live x
  unfolding open_with
  open-leaves = go (first_met (open_rows g r v x) (entries_verdict (tags g.width) g (replay g v)))
    where
      go : (y : Verdict) → (open_by g v x y).staging ≡ staging_in (left (open_by g v x y)).live x
      go (taken z) = refl
      go (refused z) = refl

  -- ---- too few bytes

  module _ (few : length x < sector_size) where
    wrong : staging_ok g x ≡ false
    unfolding staging_ok
    wrong = ne_eqb (length x) (section_size g.width * sector_size) (go (entry_count g.width))
      where
        go : (e : ℕ) → length x ≢ (8 + e) * sector_size
        go e q = omega (arith, q, few)

    refuses : is_taken (first_met (open_rows g r v x) (entries_verdict (tags g.width) g (replay g v))) ≡ false
    refuses =
        rw wrong (each (λ (y : Verdict). is_taken y ≡ false) (superblock_rows g r v) (refuse 1 []) (λ e. refl, (λ e. refl, (λ e. refl, (λ e. refl, (λ e. refl, (λ e. refl, tt)))))) refl)

    pub few-refused : left (open_of tags r v x) ≡ resting (medium_of v) off
    unfolding open_with
    few-refused = go (first_met (open_rows g r v x) (entries_verdict (tags g.width) g (replay g v))) refuses
      where
        go : (y : Verdict) → is_taken y ≡ false → left (open_by g v x y) ≡ resting (medium_of v) off
        go (taken z) e = absurd (true≢false e)
        go (refused z) e = refl

    -- it leaves its loan
    pub few-left : (open_of tags r v x).staging ≡ x
    few-left = open-leaves ∙ ap (λ (w : World). staging_in w.live x) few-refused
