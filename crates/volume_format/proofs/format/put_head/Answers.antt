use Prim.Native.Nat.{ℕ, ◌*◌}
use mathlib.Core.Path.{refl, ap}
use Rattle.volume_format.proofs.Formats.{head-stored}
use Rattle.volume_format.proofs.format.put_head.Goals as goal

pub returns : goal.returns
returns c =
    let a = c.args in
    head-stored a.g c.requires.0 a.v.now c.requires.1 c.put_superblock.new.b _ c.fill_at.new.d _ _ _ refl (ap (λ (x : ℕ). x * 512) c.section_at-journal.ensures.0) (ap (λ (x : ℕ). x * 512) c.section_at-base.ensures.0)
    c.put_superblock.ensures refl c.fill_at.ensures
