-- What the code keeps of a key: the hash values behind the two padded blocks, so that a message costs no compression for these.
--
-- hash_behind b : the hash value behind the one block b
-- key_of k      : what is kept of the key k
-- resumed h    : the digest's state behind one block, where the hash value is h
-- mac_of x m    : what a kept key x, any value of its type, gives for the message m; of a key's own it is `hmac` (Theorems)
use Rattle.std.specs.Prelude.{ℕ, List}
use Rattle.digest.specs.declared.State.{State}
use Rattle.digest.specs.Pieces.{behind_of, fresh_of, absorb_of, close_of}
use Rattle.hmac.specs.declared.Key.{Key}
use Rattle.hmac.specs.Hmac.{block_size, ipad, opad, padded}

abbrev pub hash_behind : List ℕ → List ℕ
hash_behind b = (absorb_of fresh_of b).words

unfoldable pub key_of : List ℕ → Key
key_of k = record { inner = hash_behind (padded ipad k); outer = hash_behind (padded opad k) }

abbrev pub resumed : List ℕ → State
resumed h = behind_of h block_size

unfoldable pub mac_of : Key → List ℕ → List ℕ
mac_of x m = close_of (absorb_of (resumed x.outer) (close_of (absorb_of (resumed x.inner) m)))
