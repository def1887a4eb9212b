use Prim.Native.Nat.{ℕ, ◌+◌, ◌*◌}
use native.Mathlib.Omega.{arith}
use mathlib.Core.List.{List, ◌++◌}
use mathlib.Core.Path.{◌≡◌, sym, ap, ◌∙◌}
use lib.IntN.{ℤ}
use lib.ListN.{length, take}
use Rattle.std.proofs.lemmas.Result.{err_from_is_err_and}
use Rattle.octets.specs.Answer.{Answer}
use Rattle.tree_path.specs.Places.{block_size, levels_of, hash_blocks_of, places_of}
use Rattle.tree_path.specs.Path.{computed_of, standing_of}
use Rattle.tree.specs.Verify.{compared_of}
use Rattle.tree_path.proofs.PlaceLaws.{length-places, first-places, block_in, digest-in}
use Rattle.tree_path.proofs.PathLaws.{first-computed}
use Rattle.tree.proofs.Returns.{verify-block, verify-root, verify-range, verify-index, verify-tree, verify-path}
use Rattle.tree.proofs.verify.Goals as goal

-- what the parts come to: h, the places and the digests as their arrays hold them
parts : (h n i : ℕ) (s t b r ps p : List ℕ) (ds d : List (List ℕ)) (v : Answer ℤ (Unit {0})) → h ≡ levels_of n → ps ≡ places_of h n i ++ p
    → ds ≡ computed_of s t b (take h ps) ++ d → v ≡ compared_of (take (h + 1) ds) (standing_of r t (take h ps))
    → v ≡ compared_of (computed_of s t b (places_of (levels_of n) n i)) (standing_of r t (places_of (levels_of n) n i))
parts h n i s t b r ps p ds d v eh ep ed ev =
    let path : take h ps ≡ places_of h n i = first-places ps p h n i ep in
    let made : take (h + 1) ds ≡ computed_of s t b (take h ps) = first-computed s t b (take h ps) ds d h (ap length path ∙ length-places h n i) ed in
    ev ∙ rw (made, path, eh)

pub returns-then-block-ne-BLOCK_SIZE : goal.returns-then-block-ne-BLOCK_SIZE
returns-then-block-ne-BLOCK_SIZE c = verify-block _ _ _ _ _ _ (omega arith)

pub returns-then-root-ne-DIGEST_SIZE : goal.returns-then-root-ne-DIGEST_SIZE
returns-then-root-ne-DIGEST_SIZE c = verify-root _ _ _ _ _ _ (omega arith) (omega arith)

pub returns-in_err-check_range : goal.returns-in_err-check_range
returns-in_err-check_range c =
    let p = err_from_is_err_and c.from_residual.result c.from_residual.ensures.1 in
    let range = c.in_err-check_range.ensures in
    rw (p.1, p.2, range.0) (verify-range _ _ _ _ _ _ (omega arith) (omega arith) range.1)

pub returns-then-count-index : goal.returns-then-count-index
returns-then-count-index c = verify-index _ _ _ _ _ _ (omega arith) (omega arith) c.in_ok-check_range.ensures (omega arith)

pub returns-then-tree-tree_length : goal.returns-then-tree-tree_length
returns-then-tree-tree_length c =
    verify-tree _ _ _ _ _ _ (omega arith) (omega arith) c.in_ok-check_range.ensures (omega arith) (omega (arith, c.tree_length.ensures))

pub computed-digests-requires : goal.computed-digests-requires
computed-digests-requires c =
    let a = c.args in
    let h = c.levels-h in
    let size : length a.tree.now ≡ hash_blocks_of h.result a.count * block_size =
    (omega (arith, c.tree_length.ensures, c.if-tree-tree_length.false)) ∙ ap (λ (k : ℕ). hash_blocks_of k a.count * block_size) (sym h.ensures.0) in
    (omega arith, omega arith, omega arith, block_in c.places-at.result a.tree.now h.result a.count a.index (first-places _ _ _ _ _ c.places-at.ensures) (omega arith) size)

pub compare-requires : goal.compare-requires
compare-requires c =
    let a = c.args in
    let h = c.levels-h in
    let size : length a.tree.now ≡ hash_blocks_of h.result a.count * block_size =
    (omega (arith, c.tree_length.ensures, c.if-tree-tree_length.false)) ∙ ap (λ (k : ℕ). hash_blocks_of k a.count * block_size) (sym h.ensures.0) in
    (omega arith, omega arith, digest-in c.places-at.result a.tree.now h.result a.count a.index (first-places _ _ _ _ _ c.places-at.ensures) (omega arith) size)

pub returns : goal.returns
returns c =
    let a = c.args in
    parts c.levels-h.result a.count a.index a.salt.now a.tree.now a.block.now a.root.now c.places-at.result _ c.computed-digests.result _ _ c.levels-h.ensures.0 c.places-at.ensures
    c.computed-digests.ensures c.compare.ensures
    ∙ verify-path a.block.now a.index a.tree.now a.count a.salt.now a.root.now (omega arith) (omega arith) c.in_ok-check_range.ensures (omega arith)
    (omega (arith, c.tree_length.ensures, c.if-tree-tree_length.false))
