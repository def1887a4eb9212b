use Prim.Native.Nat.{◌-◌}
use mathlib.Core.Path.{◌≡◌}
use native.Mathlib.Omega.{arith}
use Rattle.on_disk.specs.Layout.{tag_part}
use Rattle.section.proofs.Entries.{put_all}
use Rattle.section.proofs.put_entry.Goals as goal

pub returns : goal.returns
returns c =
    let size : c.entry_size.result - 16 - c.args.t ≡ tag_part c.args.t - c.args.t = omega (arith, c.entry_size.ensures.0) in
    put_all c.args.t c.args.i c.requires.0 c.requires.1 c.args.section.now c.entry_at-at.result c.entry_at-at.ensures.0 c.requires.2
    c.args.sector c.args.bytes.now c.args.tag.now c.requires.3 c.requires.4 _ size _ _ _ _ _
    c.put_number.ensures c.copy_at.ensures c.copy_at-2.ensures
    c.fill_at.ensures c.copy_at-3.ensures
