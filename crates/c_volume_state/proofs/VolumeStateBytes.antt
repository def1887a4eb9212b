-- A state and its bytes: each state is read back from its bytes (decode-encode), and bytes that encode a state are those of the state read from
-- them (encode-decode).
use Prim.Native.Nat.{ℕ, ◌^◌, ◌<◌}
use native.Mathlib.Omega.{arith}
use mathlib.Core.Bool.{Bool, true, false, not, ◌&&◌}
use mathlib.Core.List.{List, [], ◌∷◌, append-nil}
use mathlib.Core.Path.{◌≡◌, refl, sym, ap, ◌∙◌}
use lib.Dec.{eqb}
use lib.ListN.{length, get_or}
use lib.Seq.{take_all}
use borrow.Author.Tests.{eqb-true, eq-eqb, not-false}
use Rattle.octets.specs.Numbers.{Bytes, value}
use Rattle.octets.proofs.Numbers.{value-le}
use Rattle.model.specs.declared.Phase.{Phase}
use Rattle.model.specs.declared.Phase.TheVariants.{Filling, Committing, WritingBack, Recovering}
use Rattle.model.specs.declared.State.{State}
use Rattle.c_numbers.specs.Numbers.{numbers_in, number_bytes, number_at}
use Rattle.c_numbers.specs.Sizes.{volume_state_size}
use Rattle.c_volume_state.specs.declared.PhaseNumbers.{PhaseNumbers}
use Rattle.c_volume_state.specs.Theorems.{DecodeEncode, EncodeBytes, EncodeDecode, DecodeState}
use Rattle.c_volume_state.specs.VolumeState.{phase_numbers_of, phase_of, are_numbers, is_phase, layout_numbers_of, layout_of, state_numbers_of, encode_of, decode_of, unused_are_zero, encodes_state, IsState}
use Rattle.c_numbers.proofs.NumberBytes.{length-number-bytes, bytes-number-bytes, number-at, bytes-of-numbers, number-below}

both : (a b : Bool) → a && b ≡ true → (a ≡ true) × (b ≡ true)
both true b e = (refl, e)
both false b e = absurd (let z : ◌≡◌ {A = ℕ} 0 1 = cc in omega arith)

-- ---- phases

phase-back : (p : Phase) → phase_of (phase_numbers_of p).phase (phase_numbers_of p).first (phase_numbers_of p).second ≡ p
unfolding phase_of
phase-back Filling = refl
phase-back (Committing j) = refl
phase-back (WritingBack i h) = refl
phase-back (Recovering k) = refl

same_number : (n : ℕ) → eqb n n ≡ true
same_number n = eq-eqb n n refl

-- numbers are their own
own-numbers : (q : PhaseNumbers) → are_numbers q q.phase q.first q.second ≡ true
own-numbers q = simp same_number

phase-numbers : (p : Phase) → is_phase (phase_numbers_of p).phase (phase_numbers_of p).first (phase_numbers_of p).second ≡ true
unfolding is_phase
phase-numbers p =
    ap (λ (z : Phase). are_numbers (phase_numbers_of z) (phase_numbers_of p).phase (phase_numbers_of p).first (phase_numbers_of p).second) (phase-back p)
    ∙ own-numbers (phase_numbers_of p)

-- the numbers of a phase are those that it was read from
phase-numbers-back : (p x y : ℕ) → is_phase p x y ≡ true → phase_numbers_of (phase_of p x y) ≡ record { phase = p; first = x; second = y }
unfolding is_phase
phase-numbers-back p x y h =
    let q : PhaseNumbers = phase_numbers_of (phase_of p x y) in
    let which = both (eqb q.phase p) (eqb q.first x && eqb q.second y) h in
    let place = both (eqb q.first x) (eqb q.second y) which.1 in
    λ i. record { phase = eqb-true q.phase p which.0 i; first = eqb-true q.first x place.0 i; second = eqb-true q.second y place.1 i }

-- ---- a state and its bytes

module _ (s : State) where
  number-back : (k n : ℕ) → k < length (state_numbers_of s) → n ≡ get_or (state_numbers_of s) k 0 → n < 2 ^ 64 → number_at (encode_of s) k ≡ n
  number-back k n l e b =
      ap (λ (l : List ℕ). number_at l k) (sym (append-nil (number_bytes 8 (state_numbers_of s))))
      ∙ ap value (number-at 8 (state_numbers_of s) [] k l)
      ∙ (rw (← e) (value-le 8 n b))

  phase-bound : (phase_numbers_of s.phase).phase < 2 ^ 64
  phase-bound = go s.phase
    where
      go : (p : Phase) → (phase_numbers_of p).phase < 2 ^ 64
      go Filling = omega arith
      go (Committing j) = omega arith
      go (WritingBack i h) = omega arith
      go (Recovering k) = omega arith

  module _ (v : IsState s) where
    layout-back : layout_of (encode_of s) ≡ s.layout
    unfolding layout_of layout_numbers_of state_numbers_of
    layout-back =
        rw (
          number-back 0 s.layout.reserved (omega arith) refl v.reserved,
          number-back 1 s.layout.shift (omega arith) refl v.shift,
          number-back 2 s.layout.width (omega arith) refl v.width,
          number-back 3 s.layout.sections (omega arith) refl v.sections,
          number-back 4 s.layout.provided (omega arith) refl v.provided,
        )

    which-back : number_at (encode_of s) 8 ≡ (phase_numbers_of s.phase).phase
    unfolding layout_numbers_of state_numbers_of
    which-back = number-back 8 (phase_numbers_of s.phase).phase (omega arith) refl phase-bound

    first_back : number_at (encode_of s) 9 ≡ (phase_numbers_of s.phase).first
    unfolding layout_numbers_of state_numbers_of
    first_back = number-back 9 (phase_numbers_of s.phase).first (omega arith) refl v.first

    second_back : number_at (encode_of s) 10 ≡ (phase_numbers_of s.phase).second
    unfolding layout_numbers_of state_numbers_of
    second_back = number-back 10 (phase_numbers_of s.phase).second (omega arith) refl v.second

  unused-back : unused_are_zero (encode_of s) ≡ true
  unfolding layout_numbers_of state_numbers_of unused_are_zero
  unused-back =
      simp (
        number-back 5 0 (omega arith) refl (omega arith),
        number-back 6 0 (omega arith) refl (omega arith),
        number-back 7 0 (omega arith) refl (omega arith),
      )

-- every state is read back from its bytes
pub decode-encode : DecodeEncode
unfolding decode_of layout_numbers_of state_numbers_of
decode-encode s v =
    rw (
      layout-back s v,
      which-back s v,
      first_back s v,
      second_back s v,
      phase-back s.phase,
      number-back s 11 s.count (omega arith) refl v.count,
      number-back s 12 s.id (omega arith) refl v.id,
    )

-- which are bytes that encode a state
length-of-state : (s : State) → length (encode_of s) ≡ volume_state_size
unfolding layout_numbers_of state_numbers_of
length-of-state s = length-number-bytes 8 (state_numbers_of s)

pub encode-bytes : EncodeBytes
unfolding encodes_state
encode-bytes s v = (
  rw (
    eq-eqb (length (encode_of s)) volume_state_size (length-of-state s),
    unused-back s,
    which-back s v,
    first_back s v,
    second_back s v,
  ) (phase-numbers s.phase),
  bytes-number-bytes 8 (state_numbers_of s),
)

-- what is known of bytes that encode a state
module _ (b : List ℕ) (e : encodes_state b ≡ true) where
  tested : (eqb (length b) volume_state_size ≡ true) × (unused_are_zero b && is_phase (number_at b 8) (number_at b 9) (number_at b 10) ≡ true)
  unfolding encodes_state
  tested = both (eqb (length b) volume_state_size) (unused_are_zero b && is_phase (number_at b 8) (number_at b 9) (number_at b 10)) e

  pub encodes-length : length b ≡ volume_state_size
  encodes-length = eqb-true (length b) volume_state_size tested.0

  encodes-unused : (number_at b 5 ≡ 0) × (number_at b 6 ≡ 0) × (number_at b 7 ≡ 0)
  unfolding unused_are_zero
  encodes-unused =
      let zeros = (both (unused_are_zero b) (is_phase (number_at b 8) (number_at b 9) (number_at b 10)) tested.1).0 in
      let one = both (eqb (number_at b 5) 0) (eqb (number_at b 6) 0 && eqb (number_at b 7) 0) zeros in
      let two = both (eqb (number_at b 6) 0) (eqb (number_at b 7) 0) one.1 in
      (eqb-true (number_at b 5) 0 one.0, eqb-true (number_at b 6) 0 two.0, eqb-true (number_at b 7) 0 two.1)

  phase-held : phase_numbers_of (phase_of (number_at b 8) (number_at b 9) (number_at b 10)) ≡ record { phase = number_at b 8; first = number_at b 9; second = number_at b 10 }
  phase-held =
      phase-numbers-back (number_at b 8) (number_at b 9) (number_at b 10)
      (both (unused_are_zero b) (is_phase (number_at b 8) (number_at b 9) (number_at b 10)) tested.1).1

-- bytes that encode a state are those of the state read from them
pub encode-decode : EncodeDecode
unfolding decode_of layout_of layout_numbers_of state_numbers_of numbers_in
encode-decode b h e =
    let size : length b ≡ volume_state_size = encodes-length b e in
    let none = encodes-unused b e in
    let phase = phase-held b e in
    (λ i.
    number_bytes 8
    (number_at b 0 ∷ number_at b 1 ∷ number_at b 2 ∷ number_at b 3 ∷ number_at b 4 ∷ sym none.0 i ∷ sym none.1 i ∷ sym none.2 i
    ∷ (phase i).phase ∷ (phase i).first ∷ (phase i).second ∷ number_at b 11 ∷ number_at b 12 ∷ []))
    ∙ bytes-of-numbers 8 13 b h (omega arith)
    ∙ take_all volume_state_size b (omega arith)

-- and that is a state
pub decode-state : DecodeState
unfolding decode_of layout_of
decode-state b h e =
    let size : length b ≡ volume_state_size = encodes-length b e in
    let back = phase-held b e in
    record {
      reserved = number-below 8 0 b h (omega arith);
      shift = number-below 8 1 b h (omega arith);
      width = number-below 8 2 b h (omega arith);
      sections = number-below 8 3 b h (omega arith);
      provided = number-below 8 4 b h (omega arith);
      first = rw back (number-below 8 9 b h (omega arith));
      second = rw back (number-below 8 10 b h (omega arith));
      count = number-below 8 11 b h (omega arith);
      id = number-below 8 12 b h (omega arith);
    }

-- ---- as the calls cite it

pub state-kept : (b : List ℕ) → Bytes b → not (encodes_state b) ≡ false → encode_of (decode_of b) ≡ b
state-kept b h e = encode-decode b h (not-false (encodes_state b) e)
