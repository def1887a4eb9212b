-- The bytes that a store changes: R46, R116, of a tag's store the bytes of that tag which its sector has.
--
-- Changes v x p c : the part p has every byte that the store x changes on the volume v; they become the first ones of c
use Rattle.std.specs.Prelude.{ℕ, ◌+◌, ◌/◌, ◌≤◌, List, ◌≡◌, length}
use Rattle.octets.specs.Parts.{part, patch}
use Rattle.octets.specs.Sectors.{sector_size}
use Rattle.model.specs.Store.{Store, made}
use Rattle.stores.specs.declared.changes.Part.{Part}

pub record Changes (v : List ℕ) (x : Store) (p : Part) (c : List ℕ) : Type 0 where
  pub sector : p.byte / sector_size ≡ x.at
  pub fits : p.size ≤ sector_size
  pub inside : p.byte + p.size ≤ length v
  pub stored : patch v p.byte (part c 0 p.size) ≡ made v x
