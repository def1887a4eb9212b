-- How a volume's state and its layout lie in a buffer. R52, R54.
--
-- A state is thirteen numbers, a layout eight, of 8 bytes each, little-endian. The last three of a layout have no meaning yet.
--
-- phase_numbers_of p          : the phase p as three numbers: which it is, and the two of its place, 0 where it has none
-- phase_of p x y             : the phase of the numbers p, x, y
-- are_numbers q p x y        : whether the numbers q of a phase are p, x and y
-- is_phase p x y             : whether the numbers p, x, y are those of a phase, which is to say those of the phase read from them
-- layout_numbers_of g         : the numbers of the layout g, of which those that have no meaning yet are 0
-- layout_bytes_of g           : its bytes
-- layout_of b                : the layout whose numbers b begins with
-- state_numbers_of s          : the numbers of the state s: layout, phase, count and id
-- encode_of s                : its bytes
-- decode_of b                : the state in the bytes b
-- unused_are_zero b           : whether the numbers in b that have no meaning yet are 0
-- encodes_state b            : whether b has the length of a state, zeros for the numbers without a meaning, and the numbers of a phase in their places
-- state_in b                 : the state that b holds, if it holds one
-- IsState s                 : s is a state that the code's type can hold
use Rattle.std.specs.Prelude.{Option, Some, None, ℕ, ◌^◌, ◌<◌, Bool, ◌&&◌, List, [], ◌∷◌, ◌++◌, eqb, length}
use Rattle.octets.specs.Choice.{pick, first_met}
use Rattle.on_disk.specs.declared.Layout.{Layout}
use Rattle.model.specs.declared.Phase.{Phase}
use Rattle.model.specs.declared.Phase.TheVariants.{Filling, Committing, WritingBack, Recovering}
use Rattle.model.specs.declared.State.{State}
use Rattle.c_volume_state.specs.declared.PhaseNumbers.{PhaseNumbers}
use Rattle.c_numbers.specs.Numbers.{number_bytes, number_at}
use Rattle.c_numbers.specs.Sizes.{volume_state_size}

-- ---- phases

abbrev pub phase_numbers_of : Phase → PhaseNumbers
phase_numbers_of Filling = record { phase = 0; first = 0; second = 0 }
phase_numbers_of (Committing j) = record { phase = 1; first = j; second = 0 }
phase_numbers_of (WritingBack i h) = record { phase = 2; first = i; second = h }
phase_numbers_of (Recovering k) = record { phase = 3; first = k; second = 0 }

unfoldable pub phase_of : ℕ → ℕ → ℕ → Phase
phase_of p x y = first_met ((eqb p 0, Filling) ∷ (eqb p 1, Committing x) ∷ (eqb p 2, WritingBack x y) ∷ []) (Recovering x)

abbrev pub are_numbers : PhaseNumbers → ℕ → ℕ → ℕ → Bool
are_numbers q p x y = eqb q.phase p && (eqb q.first x && eqb q.second y)

unfoldable pub is_phase : ℕ → ℕ → ℕ → Bool
is_phase p x y = are_numbers (phase_numbers_of (phase_of p x y)) p x y

-- ---- layouts

unfoldable pub layout_numbers_of : Layout → List ℕ
layout_numbers_of g = g.reserved ∷ g.shift ∷ g.width ∷ g.sections ∷ g.provided ∷ 0 ∷ 0 ∷ 0 ∷ []

abbrev pub layout_bytes_of : Layout → List ℕ
layout_bytes_of g = number_bytes 8 (layout_numbers_of g)

unfoldable pub layout_of : List ℕ → Layout
layout_of b =
    record {
      reserved = number_at b 0;
      shift = number_at b 1;
      width = number_at b 2;
      sections = number_at b 3;
      provided = number_at b 4;
    }

-- ---- states

unfoldable pub state_numbers_of : State → List ℕ
state_numbers_of s =
    layout_numbers_of s.layout
    ++ ((phase_numbers_of s.phase).phase
    ∷ (phase_numbers_of s.phase).first
    ∷ (phase_numbers_of s.phase).second
    ∷ s.count
    ∷ s.id
    ∷ [])

abbrev pub encode_of : State → List ℕ
encode_of s = number_bytes 8 (state_numbers_of s)

unfoldable pub decode_of : List ℕ → State
decode_of b =
    record {
      layout = layout_of b;
      phase = phase_of (number_at b 8) (number_at b 9) (number_at b 10);
      count = number_at b 11;
      id = number_at b 12;
    }

unfoldable pub unused_are_zero : List ℕ → Bool
unused_are_zero b = eqb (number_at b 5) 0 && (eqb (number_at b 6) 0 && eqb (number_at b 7) 0)

unfoldable pub encodes_state : List ℕ → Bool
encodes_state b = eqb (length b) volume_state_size && (unused_are_zero b && is_phase (number_at b 8) (number_at b 9) (number_at b 10))

abbrev pub state_in : List ℕ → Option State
state_in b = pick (encodes_state b) (Some (decode_of b)) None

-- every number has 64 bits
pub record IsState (s : State) : Type 0 where
  pub reserved : s.layout.reserved < 2 ^ 64
  pub shift : s.layout.shift < 2 ^ 64
  pub width : s.layout.width < 2 ^ 64
  pub sections : s.layout.sections < 2 ^ 64
  pub provided : s.layout.provided < 2 ^ 64
  pub first : (phase_numbers_of s.phase).first < 2 ^ 64
  pub second : (phase_numbers_of s.phase).second < 2 ^ 64
  pub count : s.count < 2 ^ 64
  pub id : s.id < 2 ^ 64
