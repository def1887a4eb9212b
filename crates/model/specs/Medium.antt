-- The medium that holds a volume's bytes: its operations are a store and a cut. R60: stores land whole and in order; a cut keeps those made.
--
-- Medium          : the volume, with all stores made; medium_of v: with the bytes v
-- volume_in m      : the bytes that a call finds
-- medium_after m x : the medium after the effect x
-- medium_cut m     : the medium after a cut
use Rattle.std.specs.Prelude.{ℕ, List}
use Rattle.model.specs.Store.{Effect, after_effect}

pub record Medium : Type 0 where
  pub volume : List ℕ

abbrev pub medium_of : List ℕ → Medium
medium_of v = record { volume = v }

abbrev pub volume_in : Medium → List ℕ
volume_in m = m.volume

abbrev pub medium_after : Medium → Effect → Medium
medium_after m x = medium_of (after_effect (volume_in m) x)

abbrev pub medium_cut : Medium → Medium
medium_cut m = m
