-- What the first check of a write gives.
use Prim.Native.Nat.{ℕ}
use mathlib.Core.Bool.{true, ◌&&◌}
use mathlib.Core.List.{List}
use mathlib.Core.Path.{◌≡◌}
use lib.ListN.{length}
use borrow.Author.Tests.{eqb-true}
use Rattle.model.specs.declared.State.{State}
use Rattle.on_disk.proofs.Addresses.{and_both}
use Rattle.model.specs.State.{state_ok, staging_ok, sector_ok}

module _ (s : State) (st b : List ℕ) (ok : state_ok s && (staging_ok s.layout st && sector_ok b) ≡ true) where
  pub state-ok : state_ok s ≡ true
  state-ok = (and_both (state_ok s) (staging_ok s.layout st && sector_ok b) ok).0

  pub staging-ok : staging_ok s.layout st ≡ true
  staging-ok = (and_both (staging_ok s.layout st) (sector_ok b) (and_both (state_ok s) (staging_ok s.layout st && sector_ok b) ok).1).0

  pub sector-length : length b ≡ 512
  sector-length = eqb-true (length b) 512 (and_both (staging_ok s.layout st) (sector_ok b) (and_both (state_ok s) (staging_ok s.layout st && sector_ok b) ok).1).1
