-- That a recovery ends, whatever the volume holds. R40, R117: open reports two or three stores for each used entry. R102: after exactly that many the
-- recovery has ended, so that no open can make the number up. The proofs are in proofs/Finishing.
--
-- store_sum g xs       : three for each of the entries xs whose tag crosses into the next sector, two for each other
-- EndsAfter n s v st  : from the state s, on the volume v with the staging st, n steps do something each, and the volume is filling after the last of them
-- Ends                : that the number that an open reports is that sum over the used entries, and that many steps end the recovery; over any family of
--                       tag functions
-- BadMeansTag s v st  : a sector that the volume provides is bad exactly where its tag does not fit
-- Finished r v st s   : what holds where the recovery of the volume v left the state s
-- Finishes            : that it does, of every recovery
use Rattle.std.specs.Prelude.{ℕ, ◌+◌, ◌≤◌, ◌<◌, not, List, [], ◌∷◌, ◌≡◌, eqb}
use Rattle.octets.specs.Answer.{taken}
use Rattle.octets.specs.Choice.{pick}
use Rattle.octets.specs.Parts.{same}
use Rattle.octets.specs.Sectors.{sector_at}
use Rattle.model.specs.declared.Phase.TheVariants.{Filling}
use Rattle.model.specs.declared.State.{State}
use Rattle.on_disk.specs.declared.Layout.{Layout}
use Rattle.on_disk.specs.Layout.{data_at, crosses}
use Rattle.model.specs.Journal.{Replayed, replay}
use Rattle.model.specs.Tag.{Tags, tag_of, tag_at}
use Rattle.model.specs.State.{is_filling}
use Rattle.model.specs.Open.{open_of}
use Rattle.model.specs.Advance.{advance_of}
use Rattle.volume_check.specs.Check.{recover_of, is_bad}

abbrev pub store_sum : Layout → List Replayed → ℕ
store_sum g [] = 0
store_sum g (x ∷ xs) = pick (crosses g x.entry.sector) 3 2 + store_sum g xs

-- each of the first k of them did something, and the volume is filling exactly where k is n
abbrev pub EndsAfter : ℕ → State → List ℕ → List ℕ → Type 0
EndsAfter n s v st = (k : ℕ) → k ≤ n → ((advance_of k s v st).done ≡ k) × (is_filling (advance_of k s v st).state.phase ≡ eqb k n)

abbrev pub Ends : Type 0
Ends =
    (tags : Tags) (r : ℕ) (v st : List ℕ) (s : State) (n : ℕ) → (open_of tags r v st).answer ≡ taken (s, n)
    → (n ≡ store_sum s.layout (replay s.layout v)) × EndsAfter n s v (open_of tags r v st).staging

abbrev pub BadMeansTag : State → List ℕ → List ℕ → Type 0
BadMeansTag s v st =
    (i : ℕ) → i < s.layout.provided
    → is_bad s v st i ≡ not (same (tag_at s.layout v i) (tag_of s.layout.width i (sector_at v (data_at s.layout i))))

pub record Finished (r : ℕ) (v st : List ℕ) (s : State) : Type 0 where
  pub filling : s.phase ≡ Filling
  pub bad : BadMeansTag s (recover_of r v st).volume (recover_of r v st).staging

abbrev pub Finishes : Type 0
Finishes = (r : ℕ) (v st : List ℕ) (s : State) (n : ℕ) → (recover_of r v st).answer ≡ taken (s, n) → Finished r v st s
