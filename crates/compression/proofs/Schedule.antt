-- Laws of the message schedule: its words stay as further ones are made, so W_t is the same in every schedule that has it.
use Rattle.std.proofs.Common.{◌≡◌, ℕ, zero, suc, ◌+◌, ◌-◌, ◌<◌, ◌≤◌, List, [], ◌∷◌, length, get_or, sym, refl, ap, ◌∙◌, add-zero, add-suc, arith, length-append, le-ltb, lt-ltb}
use lib.ListN.{get_or-append}
use lib.Seq.{get_or_at}
use Rattle.compression.specs.Words.{◌⊞◌, σ₀, σ₁}
use Rattle.compression.specs.Compression.{word_of, next_of, schedule_of}

length-schedule : (t : ℕ) (b : List ℕ) → length (schedule_of t b) ≡ t
unfolding schedule_of
length-schedule zero b = refl
length-schedule (suc t) b = rw (length-append, length-schedule t b) (omega arith)

-- k words more leave those before them
kept : (m k t : ℕ) (b : List ℕ) → t < m → get_or (schedule_of (m + k) b) t 0 ≡ get_or (schedule_of m b) t 0
unfolding schedule_of
kept m zero t b h = rw add-zero
kept m (suc k) t b h =
    rw add-suc
    (get_or-append (schedule_of (m + k) b) (next_of b (schedule_of (m + k) b) (m + k) ∷ []) 0 t (omega (arith, length-schedule (m + k) b))
    ∙ kept m k t b h)

in_both : (m n t : ℕ) (b : List ℕ) → t < m → m ≤ n → get_or (schedule_of n b) t 0 ≡ get_or (schedule_of m b) t 0
in_both m n t b h l =
    let e : n ≡ m + (n - m) = omega arith in
    ap (λ (k : ℕ). get_or (schedule_of k b) t 0) e ∙ kept m (n - m) t b h

-- W_t is made of the words before it
made : (b : List ℕ) (t : ℕ) → t < 64 → get_or (schedule_of 64 b) t 0 ≡ next_of b (schedule_of t b) t
unfolding schedule_of
made b t h =
    in_both (suc t) 64 t b (omega arith) (omega arith)
    ∙ get_or_at (schedule_of t b) (next_of b (schedule_of t b) t) [] 0 t (length-schedule t b)

-- FIPS 180-4, section 6.2.2, step 1: a word of the block
pub first-words : (b : List ℕ) (t : ℕ) → t < 16 → get_or (schedule_of 64 b) t 0 ≡ word_of b t
unfolding next_of
first-words b t h = made b t (omega arith) ∙ rw (lt-ltb t 16 h)

-- the same step: a word from those 2, 7, 15 and 16 rounds before
pub later-words : (b : List ℕ) (t : ℕ) → 16 ≤ t → t < 64
    → get_or (schedule_of 64 b) t 0
    ≡ σ₁ (get_or (schedule_of 64 b) (t - 2) 0) ⊞ get_or (schedule_of 64 b) (t - 7) 0 ⊞ σ₀ (get_or (schedule_of 64 b) (t - 15) 0) ⊞ get_or (schedule_of 64 b) (t - 16) 0
unfolding next_of
later-words b t l h =
    made b t h
    ∙ rw (le-ltb t 16 l)
    (sym
    (rw (
      in_both t 64 (t - 2) b (omega arith) (omega arith),
      in_both t 64 (t - 7) b (omega arith) (omega arith),
      in_both t 64 (t - 15) b (omega arith) (omega arith),
      in_both t 64 (t - 16) b (omega arith) (omega arith),
    )))
