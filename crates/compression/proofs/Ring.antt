-- The ring holds the words of the last sixteen rounds, each at its place, and one turn of the loop keeps it so.
use Rattle.std.proofs.Common.{◌≡◌, ℕ, zero, suc, ◌+◌, ◌-◌, ◌%◌, ◌<◌, ◌≤◌, List, length, get_or, set, sym, refl, ap, ◌∙◌, add-one, arith, length-set, get_or-set_other, get_or-set_same}
use native.Mathlib.Decide.{dec_lt}
use Rattle.compression.specs.Words.{◌⊞◌, σ₀, σ₁}
use Rattle.compression.specs.Compression.{word_of, schedule_of}
use Rattle.compression.specs.Ring.{ring_of}
use Rattle.compression.specs.Theorems.{RingHolds}
use Rattle.compression.proofs.Schedule.{first-words, later-words}

pub length-ring : (t : ℕ) (b : List ℕ) → length (ring_of t b) ≡ 16
unfolding ring_of
length-ring zero b = refl
length-ring (suc t) b = length-set (ring_of t b) (t % 16) (get_or (schedule_of 64 b) t 0) ∙ length-ring t b

pub ring-holds : RingHolds
unfolding ring_of
ring-holds b zero d p l few = absurd (omega arith)
ring-holds b (suc t) d p l few = go (dec_lt 1 d) (λ m. ring-holds b t (d - 1) (omega arith) (omega arith) (omega arith))
  where
    word : ℕ
    word = get_or (schedule_of 64 b) t 0

    go : Dec (1 < d) → (1 < d → get_or (ring_of t b) ((t - (d - 1)) % 16) 0 ≡ get_or (schedule_of 64 b) (t - (d - 1)) 0)
        → get_or (set (ring_of t b) (t % 16) word) ((suc t - d) % 16) 0 ≡ get_or (schedule_of 64 b) (suc t - d) 0
    go (yes m) before =
        let e : suc t - d ≡ t - (d - 1) = omega arith in
        rw e (get_or-set_other (ring_of t b) (t % 16) ((t - (d - 1)) % 16) word 0 (λ q. omega arith) ∙ before m)
    go (no m) before =
        let e : suc t - d ≡ t = omega arith in
        rw e (get_or-set_same (ring_of t b) (t % 16) word 0 (omega (arith, length-ring t b)))

-- the word of round t, put in the ring
put : (b w : List ℕ) (t x : ℕ) → w ≡ ring_of t b → x ≡ get_or (schedule_of 64 b) t 0 → set w (t % 16) x ≡ ring_of (t + 1) b
unfolding ring_of
put b w t x e n = rw (add-one, e, n)

-- a word of the block
pub block-turn : (b w : List ℕ) (t x : ℕ) → t < 16 → w ≡ ring_of t b → x ≡ word_of b t → set w t x ≡ ring_of (t + 1) b
block-turn b w t x h e n =
    let p : t ≡ t % 16 = omega arith in
    ap (λ (k : ℕ). set w k x) p ∙ put b w t x e (n ∙ sym (first-words b t h))

-- a word from those in the ring
pub next-turn : (b w : List ℕ) (t x : ℕ) → 16 ≤ t → t < 64 → w ≡ ring_of t b
    → x ≡ σ₁ (get_or w ((t - 2) % 16) 0) ⊞ get_or w ((t - 7) % 16) 0 ⊞ σ₀ (get_or w ((t - 15) % 16) 0) ⊞ get_or w ((t - 16) % 16) 0
    → set w (t % 16) x ≡ ring_of (t + 1) b
next-turn b w t x l h e n =
    put b w t x e
    (n
    ∙ rw (
      held 2 (omega arith) (omega arith),
      held 7 (omega arith) (omega arith),
      held 15 (omega arith) (omega arith),
      held 16 (omega arith) (omega arith),
    )
    (sym (later-words b t l h)))
  where
    held : (d : ℕ) → 0 < d → d ≤ 16 → get_or w ((t - d) % 16) 0 ≡ get_or (schedule_of 64 b) (t - d) 0
    held d p m = ap (λ (v : List ℕ). get_or v ((t - d) % 16) 0) e ∙ ring-holds b t d p m (omega arith)
