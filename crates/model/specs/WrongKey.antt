-- What a wrong key shows, R107, and likewise a call by the other rule: of any two families of tag functions, the one that a volume's tags are of and the one that
-- a call goes by. The proof is in proofs/WrongKey.
--
-- TagsAgree a b xs : the tag functions a and b give the same tag for each entry of xs
-- WrongKey tags tags' : what a call by tags' does, where tags are the volume's
use Rattle.std.specs.Prelude.{ℕ, true, List, [], ◌∷◌, ◌⊎◌, ◌≡◌}
use Rattle.octets.specs.Answer.{is_taken, number_in}
use Rattle.octets.specs.Sectors.{sector_size, sector_at}
use Rattle.on_disk.specs.declared.Layout.{Layout}
use Rattle.on_disk.specs.Layout.{data_at}
use Rattle.on_disk.specs.Superblock.{superblock_at, layout_in}
use Rattle.model.specs.declared.State.{State}
use Rattle.model.specs.Journal.{Replayed, replay}
use Rattle.model.specs.Tag.{Tag, Tags}
use Rattle.model.specs.Format.{zeros, format_of}
use Rattle.model.specs.Open.{open_of}
use Rattle.model.specs.Write.{write_of}
use Rattle.model.specs.Read.{read_of}

abbrev pub TagsAgree : Tag → Tag → List Replayed → Type 0
TagsAgree a b [] = Unit {0}
TagsAgree a b (x ∷ xs) = (a x.entry.sector x.entry.bytes ≡ b x.entry.sector x.entry.bytes) × TagsAgree a b xs

pub record WrongKey (tags tags' : Tags) : Type 0 where
  -- where no tag differs that a call computes, nothing does: no other byte is of a key or a rule
  pub format : (g : Layout) (v : List ℕ) → ((s : ℕ) → tags g.width s (zeros sector_size) ≡ tags' g.width s (zeros sector_size))
      → format_of tags' g v ≡ format_of tags g v
  pub opening : (r : ℕ) (v st : List ℕ) (g : Layout) → layout_in r (superblock_at r v) ≡ g
      → TagsAgree (tags g.width) (tags' g.width) (replay g v) → open_of tags' r v st ≡ open_of tags r v st
  pub write : (s : State) (st : List ℕ) (n : ℕ) (bytes : List ℕ) → tags s.layout.width n bytes ≡ tags' s.layout.width n bytes
      → write_of tags' s st n bytes ≡ write_of tags s st n bytes
  pub read : (s : State) (v st : List ℕ) (n : ℕ) (loan : List ℕ)
      → tags s.layout.width n (sector_at v (data_at s.layout n)) ≡ tags' s.layout.width n (sector_at v (data_at s.layout n))
      → read_of tags' s v st n loan ≡ read_of tags s v st n loan
  -- and what shows is 7: an open or a read that is taken by the volume's tags is the same by others, or refused with it, and changes nothing
  pub open_shows : (r : ℕ) (v st : List ℕ) → is_taken (open_of tags r v st).answer ≡ true
      → (open_of tags' r v st ≡ open_of tags r v st) ⊎ ((number_in (open_of tags' r v st).answer ≡ 7) × ((open_of tags' r v st).staging ≡ st))
  pub read_shows : (s : State) (v st : List ℕ) (n : ℕ) (loan : List ℕ) → is_taken (read_of tags s v st n loan).answer ≡ true
      → (read_of tags' s v st n loan ≡ read_of tags s v st n loan)
      ⊎ ((number_in (read_of tags' s v st n loan).answer ≡ 7) × ((read_of tags' s v st n loan).sector ≡ loan))
  -- a format and a write show nothing
  pub format_answers : (g : Layout) (v : List ℕ) → (format_of tags' g v).answer ≡ (format_of tags g v).answer
  pub write_answers : (s : State) (st : List ℕ) (n : ℕ) (bytes : List ℕ) → (write_of tags' s st n bytes).answer ≡ (write_of tags s st n bytes).answer
