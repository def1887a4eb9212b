use Prim.Native.Nat.{ℕ, ◌+◌}
use mathlib.Core.Path.{ap, ◌∙◌}
use native.Mathlib.Omega.{arith}
use Rattle.on_disk.specs.Layout.{section_at}
use Rattle.stores.proofs.Contents.{sector-sealed}
use Rattle.stores.proofs.commit_store.Goals as goal

pub returns : goal.returns
returns c =
    let copy_at = c.copy_at in
    let put-number = c.put_number in
    let s = c.args.s in
    let j = c.args.j in
    λ v i. record {
      at = ap (λ (x : ℕ). x + j) (c.section_at.ensures.0 ∙ ap (section_at s.layout) c.section_for.ensures.0) i;
      content =
          sector-sealed s.layout c.args.st.now c.args.out.now j s.id (omega (arith, c.requires.0.long, c.requires.0.sector)) c.requires.1
          copy_at.new.d put-number.new.s copy_at.ensures put-number.ensures i;
    }
