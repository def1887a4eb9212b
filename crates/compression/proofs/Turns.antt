-- One turn of the loop over the rounds: four rounds, with their constants, and their words from the ring.
use Rattle.std.proofs.Common.{◌≡◌, ℕ, ◌+◌, ◌-◌, ◌%◌, ◌<◌, List, get_or, ap, ◌∙◌, add-one, arith}
use Rattle.compression.specs.declared.Variables.{Variables}
use Rattle.compression.specs.Constants.{K}
use Rattle.compression.specs.Compression.{schedule_of, round_of, rounds_of}
use Rattle.compression.specs.Ring.{ring_of}
use Rattle.compression.proofs.Ring.{ring-holds}

round-step : (v : Variables) (w : List ℕ) (t : ℕ) → rounds_of (t + 1) v w ≡ round_of (rounds_of t v w) (get_or K t 0) (get_or w t 0)
unfolding rounds_of
round-step v w t = rw add-one

module _ (s : Variables) (b : List ℕ) (t : ℕ) (k w : List ℕ) (constants : k ≡ K) (ring : w ≡ ring_of (t + 4) b) where
  abbrev schedule : List ℕ
  schedule = schedule_of 64 b

  word : (i n : ℕ) → i < 4 → t + i ≡ n → get_or w (n % 16) 0 ≡ get_or schedule n 0
  word i n h at =
      let e : t + 4 - (4 - i) ≡ n = omega arith in
      ap (λ (l : List ℕ). get_or l (n % 16) 0) ring ∙ (rw e at (ring-holds b (t + 4) (4 - i) (omega arith) (omega arith) (omega arith)))

  -- round n, the i-th of the four
  one : (i n m : ℕ) (v r : Variables) → i < 4 → t + i ≡ n → n + 1 ≡ m → v ≡ rounds_of n s schedule → r ≡ round_of v (get_or k n 0) (get_or w (n % 16) 0)
      → r ≡ rounds_of m s schedule
  one i n m v r h at next e made = cc (word i n h at, round-step s schedule n)

  pub rounds-turn : (v v₁ v₂ v₃ v₄ : Variables) → v ≡ rounds_of t s schedule
      → v₁ ≡ round_of v (get_or k t 0) (get_or w (t % 16) 0) → v₂ ≡ round_of v₁ (get_or k (t + 1) 0) (get_or w ((t + 1) % 16) 0)
      → v₃ ≡ round_of v₂ (get_or k (t + 2) 0) (get_or w ((t + 2) % 16) 0) → v₄ ≡ round_of v₃ (get_or k (t + 3) 0) (get_or w ((t + 3) % 16) 0)
      → v₄ ≡ rounds_of (t + 4) s schedule
  rounds-turn v v₁ v₂ v₃ v₄ e e₁ e₂ e₃ e₄ =
      let r₁ = one 0 t (t + 1) v v₁ (omega arith) (omega arith) (omega arith) e e₁ in
      let r₂ = one 1 (t + 1) (t + 2) v₁ v₂ (omega arith) (omega arith) (omega arith) r₁ e₂ in
      let r₃ = one 2 (t + 2) (t + 3) v₂ v₃ (omega arith) (omega arith) (omega arith) r₂ e₃ in
      one 3 (t + 3) (t + 4) v₃ v₄ (omega arith) (omega arith) (omega arith) r₃ e₄
