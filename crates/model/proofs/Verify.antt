-- The call verify: specs/Verify.
use Prim.Native.Nat.{ℕ, ◌+◌, ◌<◌}
use native.Mathlib.Decide.{dec_lt}
use native.Mathlib.Omega.{arith}
use mathlib.Core.Bool.{Bool, true, false, not, ◌&&◌}
use mathlib.Core.List.{List, []}
use mathlib.Core.Path.{◌≡◌, refl, sym, ◌∙◌}
use lib.Dec.{leb, ltb}
use borrow.Author.Tests.{lt-ltb, le-ltb, le-leb, lt-leb}
use Rattle.octets.specs.Answer.{taken, refused, refuse}
use Rattle.octets.specs.Choice.{pick, first_met}
use Rattle.hmac.specs.Hmac.{key_ok}
use Rattle.model.specs.declared.Phase.{Phase}
use Rattle.model.specs.declared.Phase.TheVariants.{Filling, Committing, WritingBack, Recovering}
use Rattle.model.specs.declared.State.{State}
use Rattle.model.specs.Tag.{Tags, hmac_tag_of}
use Rattle.model.specs.State.{Verdict, passed, state_ok, volume_ok, staged_ok, is_filling, is_recovering}
use Rattle.model.specs.Read.{read_rows, read_by, read_of}
use Rattle.model.specs.Keyed.{key_refusal}
use Rattle.model.specs.Verify.{verify_rows, verify_of, verify_keyed_of, VerifiesAsRead, VerifiesKeyed}
use Rattle.model.proofs.Keyed.{with-key, without-key, first}
use Rattle.model.proofs.Steps.{never}
use Rattle.model.proofs.States.{staged-in}

-- ---- as a read

not-recovering : (p : Phase) → is_filling p ≡ true → is_recovering p ≡ false
not-recovering Filling e = refl
not-recovering (Committing j) e = refl
not-recovering (WritingBack i h) e = refl
not-recovering (Recovering k) e = sym e

and-true : (b : Bool) → (b && true) ≡ b
and-true true = refl
and-true false = refl

range : (p n : ℕ) → leb p n ≡ ltb p (n + 1)
range p n = go (dec_lt n p)
  where
    go : Dec (n < p) → leb p n ≡ ltb p (n + 1)
    go (yes l) = lt-leb p n l ∙ sym (le-ltb p (n + 1) (omega arith))
    go (no l) = le-leb p n (omega arith) ∙ sym (lt-ltb p (n + 1) (omega arith))

pub verifies-as-read : (tags : Tags) → VerifiesAsRead tags
unfolding verify_of read_of
verifies-as-read tags s v st n loan filling empty staging sector = sym (said (first_met (read_rows tags s v st n loan) passed) ∙ rules)
  where
    said : (x : Verdict) → (read_by tags s v st n loan x).answer ≡ x
    said (taken x) = refl
    said (refused r) = refl

    -- in filling no store is asked for
    staged : (p : Phase) → s.phase ≡ p → is_filling p ≡ true → staged_ok s st ≡ true
    staged Filling q e = staged-in s st Filling q staging refl
    staged (Committing j) q e = never e
    staged (WritingBack i h) q e = never e
    staged (Recovering k) q e = never e

    rules : first_met (read_rows tags s v st n loan) passed ≡ first_met (verify_rows tags s v n 1) passed
    rules =
        let zero : n + 0 ≡ n = omega arith in
        rw (staged s.phase refl filling, sector, and-true (volume_ok s v), filling, not-recovering s.phase filling, range s.layout.provided n, empty, zero)

-- ---- with a key

key-taken : (key : List ℕ) → key_ok key ≡ true → (s : State) (v : List ℕ) (n k : ℕ) → verify_keyed_of key s v n k ≡ verify_of (hmac_tag_of key) s v n k
unfolding verify_of verify_keyed_of
key-taken key e s v n k = with-key key e (verify_rows (hmac_tag_of key) s v n k) passed

key-refused : (key : List ℕ) → key_ok key ≡ false → (s : State) (v : List ℕ) (n k : ℕ) → verify_keyed_of key s v n k ≡ key_refusal (state_ok s && volume_ok s v)
unfolding first verify_keyed_of
key-refused key e s v n k = without-key key e (verify_rows (hmac_tag_of key) s v n k) passed ∙ cases (state_ok s && volume_ok s v)
  where
    cases : (ok : Bool) → ◌≡◌ {A = Verdict} (pick (not ok) (refuse 1 []) (refuse 2 [])) (key_refusal ok)
    cases true = refl
    cases false = refl

pub verifies-keyed : VerifiesKeyed
verifies-keyed = record { taken = key-taken; refused = key-refused }
