-- The code over a buffer of its length: a layout and a state put together.
use native.Mathlib.Omega.{arith}
use mathlib.Core.List.{List, [], ◌∷◌}
use mathlib.Core.Path.{◌≡◌, sym, ap, ◌∙◌}
use Prim.Native.Nat.{ℕ}
use lib.ListN.{length}
use Rattle.octets.specs.Parts.{patch}
use Rattle.on_disk.specs.declared.Layout.{Layout}
use Rattle.model.specs.declared.State.{State}
use Rattle.c_volume_state.specs.declared.PhaseNumbers.{PhaseNumbers}
use Rattle.c_numbers.specs.Numbers.{number_bytes}
use Rattle.c_numbers.specs.Sizes.{layout_size, volume_state_size}
use Rattle.c_volume_state.specs.VolumeState.{phase_numbers_of, layout_numbers_of, layout_bytes_of, state_numbers_of, encode_of}
use Rattle.c_numbers.proofs.NumberBytes.{all-written, more-written}

pub layout-written : (g : Layout) (b c : List ℕ) → length b ≡ layout_size → c ≡ patch b 0 (layout_bytes_of g) → c ≡ layout_bytes_of g
unfolding layout_numbers_of
layout-written g b c size e = all-written b c (layout_numbers_of g) (sym size) e

-- layout, phase, count and id, written one behind the other
pub written : (s : State) (b c d : List ℕ) (q : PhaseNumbers) → length b ≡ volume_state_size → q ≡ phase_numbers_of s.phase
    → c ≡ patch b 0 (layout_bytes_of s.layout)
    → d ≡ patch c layout_size (number_bytes 8 (q.phase ∷ q.first ∷ q.second ∷ s.count ∷ s.id ∷ [])) → d ≡ encode_of s
unfolding layout_numbers_of state_numbers_of
written s b c d q size eq ec ed =
    let rest : PhaseNumbers → List ℕ = λ z. z.phase ∷ z.first ∷ z.second ∷ s.count ∷ s.id ∷ [] in
    let last = ed ∙ ap (λ (z : PhaseNumbers). patch c layout_size (number_bytes 8 (rest z))) eq in
    all-written b d (state_numbers_of s) (sym size)
    (more-written b c d 0 layout_size (layout_numbers_of s.layout) (rest (phase_numbers_of s.phase)) (omega arith) (omega arith) ec last)
