-- Reserved sectors are never read: R16. Volumes that agree from sector r on get the same answers and stores. (That no step writes them is StepStores in
-- NextStore.antt.) The proof is in proofs/Reserved.
--
-- AgreeFrom r v w   : the volumes v and w are as long, and agree from sector r on
-- SameFrom ..       : what each call then gives is the same
-- ReservedUnread    : that it is so
use Rattle.std.specs.Prelude.{ℕ, ◌*◌, List, ◌≡◌, length, drop}
use Rattle.octets.specs.Sectors.{sector_size}
use Rattle.on_disk.specs.declared.Layout.{Layout}
use Rattle.model.specs.declared.State.{State}
use Rattle.model.specs.Tag.{Tags}
use Rattle.model.specs.Format.{format_of}
use Rattle.model.specs.Open.{open_of}
use Rattle.model.specs.Query.{query_of}
use Rattle.model.specs.Step.{step_of}
use Rattle.model.specs.Read.{read_of}
use Rattle.model.specs.NextStore.{next_store_of}

abbrev pub AgreeFrom : ℕ → List ℕ → List ℕ → Type 0
AgreeFrom r v w = (length v ≡ length w) × (drop (r * sector_size) v ≡ drop (r * sector_size) w)

pub record SameFrom (tags : Tags) (r : ℕ) (v w : List ℕ) : Type 0 where
  pub format : (g : Layout) → g.reserved ≡ r → (format_of tags g v).answer ≡ (format_of tags g w).answer
  pub query : query_of r v ≡ query_of r w
  pub opens : (st : List ℕ) → open_of tags r v st ≡ open_of tags r w st
  pub step : (s : State) (st : List ℕ) → s.layout.reserved ≡ r → step_of s v st ≡ step_of s w st
  pub next : (s : State) (st out : List ℕ) → s.layout.reserved ≡ r → next_store_of s v st out ≡ next_store_of s w st out
  pub read : (s : State) (st : List ℕ) (n : ℕ) (loan : List ℕ) → s.layout.reserved ≡ r → read_of tags s v st n loan ≡ read_of tags s w st n loan

abbrev pub ReservedUnread : Type 0
ReservedUnread = (tags : Tags) (r : ℕ) (v w : List ℕ) → AgreeFrom r v w → SameFrom tags r v w
