-- The digest's promise, R8: all that crates above may use of `sha256`. It has `digest_size` bytes; two pieces are as the one that they make; closing after any pieces
-- gives the digest of their concatenation, from a state that was kept behind some of them too.
use Rattle.std.specs.Prelude.{ℕ, ◌+◌, ◌/◌, ◌≤◌, ◌<◌, ◌≡◌, refl, length, Result, Ok, Err}
use Rattle.std.proofs.Common.{zero-add, arith, ap, ◌∙◌, length-append, le-ltb, lt-ltb}
use mathlib.Core.List.{List, [], ◌∷◌, ◌++◌, append_assoc, append-nil, flatten}
use Rattle.octets.specs.Answer.{taken, number_in}
use Rattle.octets.specs.Numbers.{Bytes}
use Rattle.digest.specs.declared.State.{State}
use Rattle.digest.specs.declared.TooLong.{TooLong}
use Rattle.compression.specs.Constants.{initial_hash}
use Rattle.compression.specs.Compression.{hash_of}
use Rattle.digest.specs.Padding.{padding_of, bytes_of}
use Rattle.digest.specs.Pieces.{limit, fresh_of, absorb_of, UpdateOutcome, updated, refused_piece_of, update_of, DigestOutcome, closed, close_of, finish_of, digest_of}
use Rattle.digest.specs.Sha256.{digest_size, sha256, padded_of}
use Rattle.digest.specs.Sha256.Laws.{length-hash, length-bytes_of, bytes-bytes_of, absorb-append, words-absorb, fresh-holds-nothing}

-- ---- the digest's bytes

pub length-sha256 : (m : List ℕ) → length (sha256 m) ≡ digest_size
unfolding sha256
length-sha256 m =
    let words : length (hash_of (length (padded_of m) / 64) initial_hash (padded_of m)) ≡ 8 = length-hash _ initial_hash (padded_of m) refl in
    rw (length-bytes_of, words)

pub bytes-sha256 : (m : List ℕ) → Bytes (sha256 m)
unfolding sha256
bytes-sha256 m = bytes-bytes_of _

-- ---- pieces

-- a piece that fits is taken
pub update-taken : (s : State) (p : List ℕ) → s.count + length p ≤ limit → update_of s p ≡ record { answer = taken tt; state = absorb_of s p }
unfolding update_of
update-taken s p fits = rw (le-ltb limit (s.count + length p) fits)

-- and one that does not fit is refused, and the state stays
pub update-refused : (s : State) (p : List ℕ) → limit < s.count + length p → update_of s p ≡ refused_piece_of s
unfolding update_of
update-refused s p past = rw (lt-ltb limit (s.count + length p) past)

-- what the code returns where it is taken
pub update-given : (s : State) (p : List ℕ) (r : Result State TooLong) → s.count + length p ≤ limit → updated s r ≡ update_of s p → r ≡ Ok (absorb_of s p)
update-given s p (Ok t) fits e = ap (λ (o : UpdateOutcome). Ok o.state) (e ∙ update-taken s p fits)
update-given s p (Err x) fits e = absurd (let z : ◌≡◌ {A = ℕ} 1 0 = ap (λ (o : UpdateOutcome). number_in o.answer) (e ∙ update-taken s p fits) in omega arith)

-- the count of what was added
pub count-absorb : (s : State) (p : List ℕ) → (absorb_of s p).count ≡ s.count + length p
unfolding absorb_of
count-absorb s p = refl

-- two pieces are as the one that they make, whatever fits
pub absorb-both : (s : State) (p q : List ℕ) → length s.tail ≡ 64 → absorb_of (absorb_of s p) q ≡ absorb_of s (p ++ q)
absorb-both = absorb-append

-- and where they fit together, the calls take them so
pub update-append : (s : State) (p q : List ℕ) → length s.tail ≡ 64 → s.count + length (p ++ q) ≤ limit
    → update_of (update_of s p).state q ≡ update_of s (p ++ q)
update-append s p q full fits =
    let sum : length (p ++ q) ≡ length p + length q = length-append p q in
    let then : (absorb_of s p).count + length q ≤ limit = rw (count-absorb s p) (omega arith) in
    rw (update-taken s p (omega arith), update-taken (absorb_of s p) q then, update-taken s (p ++ q) fits, absorb-both s p q full)

-- ---- closing

-- the state after pieces that are added in turn; one that is refused changes nothing
abbrev pub add_all : State → List (List ℕ) → State
add_all s [] = s
add_all s (p ∷ ps) = add_all (update_of s p).state ps

-- from a state that holds the message m
add-all : (ps : List (List ℕ)) (m : List ℕ) → length (m ++ flatten ps) ≤ limit → add_all (absorb_of fresh_of m) ps ≡ absorb_of fresh_of (m ++ flatten ps)
unfolding flatten
add-all [] m fits = rw append-nil
add-all (p ∷ ps) m fits =
    let sum : length (m ++ (p ++ flatten ps)) ≡ length m + (length p + length (flatten ps)) = rw (length-append, length-append) in
    let count : (absorb_of fresh_of m).count + length p ≤ limit = rw (count-absorb fresh_of m) (omega arith) in
    let next = add-all ps (m ++ p) (rw append_assoc fits) in
    rw (update-taken (absorb_of fresh_of m) p count, absorb-both fresh_of m p refl) (rw append_assoc at next)

-- closing a state that holds the message m
pub close-whole : (m : List ℕ) → close_of (absorb_of fresh_of m) ≡ sha256 m
unfolding close_of sha256
close-whole m =
    ap bytes_of
    (ap (λ (c : ℕ). (absorb_of (absorb_of fresh_of m) (padding_of c)).words) (count-absorb fresh_of m ∙ zero-add (length m))
    ∙ ap (λ (s : State). s.words) (absorb-both fresh_of m (padding_of (length m)) refl) ∙ words-absorb (m ++ padding_of (length m)))

-- and one that holds the message p, with m added: a state may be kept, and each of several messages that begin with p closed behind it
pub close-behind : (p m : List ℕ) → close_of (absorb_of (absorb_of fresh_of p) m) ≡ sha256 (p ++ m)
close-behind p m = ap close_of (absorb-both fresh_of p m refl) ∙ close-whole (p ++ m)

-- whatever pieces a message comes in, closing gives its digest
pub closing : (ps : List (List ℕ)) → length (flatten ps) ≤ limit → finish_of (add_all fresh_of ps) ≡ record { answer = taken tt; digest = sha256 (flatten ps) }
unfolding finish_of
closing ps fits =
    let state : add_all fresh_of ps ≡ absorb_of fresh_of (flatten ps) = ap (λ (s : State). add_all s ps) fresh-holds-nothing ∙ add-all ps [] fits in
    let count : (absorb_of fresh_of (flatten ps)).count ≤ limit = rw (count-absorb fresh_of (flatten ps)) (omega arith) in
    rw (state, le-ltb limit _ count, close-whole (flatten ps))

-- the digest of a message that is not too long
pub digest-taken : (m : List ℕ) → length m ≤ limit → digest_of m ≡ record { answer = taken tt; digest = sha256 m }
unfolding digest_of
digest-taken m fits = rw (le-ltb limit (length m) fits)

-- and what the code returns for it
pub digest-given : (m : List ℕ) (r : Result (List ℕ) TooLong) → length m ≤ limit → closed r ≡ digest_of m → r ≡ Ok (sha256 m)
unfolding digest_of
digest-given m (Ok d) fits e =
    let whole : digest_of m ≡ record { answer = taken tt; digest = sha256 m } = rw (le-ltb limit (length m) fits) in
    ap (λ (o : DigestOutcome). Ok o.digest) (e ∙ whole)
digest-given m (Err x) fits e =
    let whole : digest_of m ≡ record { answer = taken tt; digest = sha256 m } = rw (le-ltb limit (length m) fits) in
    absurd (let z : ◌≡◌ {A = ℕ} 1 0 = ap (λ (o : DigestOutcome). number_in o.answer) (e ∙ whole) in omega arith)
