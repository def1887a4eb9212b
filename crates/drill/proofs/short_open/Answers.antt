use native.Mathlib.Omega.{arith}
use lib.ListN.{length}
use Rattle.std.specs.Prelude.{option_copied}
use Rattle.drill.proofs.Turns.{filled, short-left}
use Rattle.drill.proofs.short_open.Goals as goal

pub returns : goal.returns
returns c =
    let a = c.args in
    short-left (option_copied a.x.key) a.x.reserved a.fill a.v.now a.st.now c.min-n.result c.open_filled.result _ c.requires (omega arith) (omega arith)
    (filled 511 c.min-n.result (length a.st.now) a.fill c.min-n.ensures) c.open_filled.ensures
