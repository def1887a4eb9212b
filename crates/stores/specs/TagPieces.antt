-- The bytes of a tag that one store brings home: R46, R116.
--
-- tag_piece_of g s h : those of store h, 1 or 2, of an entry for logical sector s: up to the end of the sector in which the tag begins, or the others
use Rattle.std.specs.Prelude.{ℕ, ◌+◌, ◌-◌, eqb}
use Rattle.octets.specs.Choice.{pick}
use Rattle.on_disk.specs.declared.Layout.{Layout}
use Rattle.on_disk.specs.Layout.{tag_byte, crosses, first_piece}
use Rattle.stores.specs.declared.tags.TagPiece.{TagPiece}

abbrev pub tag_piece_of : Layout → ℕ → ℕ → TagPiece
tag_piece_of g s h =
    pick (eqb h 1)
    (record { from = 0; byte = tag_byte g s; size = pick (crosses g s) (first_piece g s) g.width })
    (record { from = first_piece g s; byte = tag_byte g s + first_piece g s; size = g.width - first_piece g s })
