-- The digest behind one block: from its hash value alone it goes on as from the block itself.
use Prim.Native.Nat.{ℕ}
use mathlib.Core.Path.{◌≡◌, sym, ap, ◌∙◌}
use mathlib.Core.List.{List, [], ◌++◌, map, append-nil}
use native.Mathlib.Omega.{arith}
use lib.Bits.{bit_xor}
use lib.ListN.{length, drop, drop_of_length-le}
use Rattle.digest.specs.declared.State.{State}
use Rattle.digest.specs.declared.TooLong.{TooLong}
use Rattle.std.specs.Prelude.{Result, Ok}
use Rattle.digest.specs.Pieces.{fresh_of, filled_of, absorb_of, updated, update_of, close_of}
use Rattle.digest.specs.Sha256.{sha256}
use Rattle.digest.specs.Sha256.Promise.{update-given, close-behind}
use Rattle.hmac.specs.declared.Key.{Key}
use Rattle.hmac.specs.Hmac.{block_size, ipad, opad, block_of}
use Rattle.hmac.specs.Kept.{hash_behind, key_of, resumed, mac_of}

-- ---- a state behind one block

resumed-block : (b : List ℕ) → length b ≡ block_size → absorb_of fresh_of b ≡ resumed (hash_behind b)
unfolding absorb_of filled_of
resumed-block b e =
    let rest : drop 64 b ≡ [] = drop_of_length-le b {i = 64} (omega arith) in
    rw (e, rest)

pub close-resumed : (b m : List ℕ) → length b ≡ block_size → close_of (absorb_of (resumed (hash_behind b)) m) ≡ sha256 (b ++ m)
close-resumed b m e = ap (λ (s : State). close_of (absorb_of s m)) (sym (resumed-block b e)) ∙ close-behind b m

-- ---- the calls of the digest, where the limit is kept

-- one block is within the limit
pub added : (b : List ℕ) (f : State) (r : Result State TooLong) → length b ≡ block_size → f ≡ fresh_of → updated f r ≡ update_of f b → r ≡ Ok (absorb_of f b)
added b f r size ef e =
    let count : f.count ≡ 0 = ap (λ (s : State). s.count) ef in
    update-given f b r (omega arith) e

-- what is kept of a key, from its block
pub kept : (k b p q h g : List ℕ) → b ≡ block_of k → p ≡ map (λ x. bit_xor x ipad) b → q ≡ map (λ x. bit_xor x opad) b → h ≡ hash_behind p → g ≡ hash_behind q
    → record { inner = h; outer = g } ≡ key_of k
unfolding key_of
kept k b p q h g eb ep eq eh eg = rw (eh, eg, ep, eq, eb)

-- both digests of a mac
pub closed-mac : (x : Key) (m d r : List ℕ) → d ≡ close_of (absorb_of (resumed x.inner) m) → r ≡ close_of (absorb_of (resumed x.outer) (d ++ [])) → r ≡ mac_of x m
unfolding mac_of
closed-mac x m d r ed er =
    er ∙ ap (λ (l : List ℕ). close_of (absorb_of (resumed x.outer) l)) (append-nil d) ∙ ap (λ (l : List ℕ). close_of (absorb_of (resumed x.outer) l)) ed
