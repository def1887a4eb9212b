-- The calls with a key, R105 and R106: each is the call of the same name over the key's tags, with one rule more. The calls without a key stay as they are, R108.
-- The proofs are in proofs/Keyed.
--
-- with_key key rows      : the rules of a call with the key's put in right behind the first, which is its first check for 1
-- format_keyed_of, open_keyed_of, write_keyed_of, read_keyed_of : the calls; their arguments behind the key are those of the calls without one
-- AsOverTags key        : with a key in range each is the call over the key's tags, and nothing else
-- KeyRefused key        : with any other it is refused, with 2 unless the first check for 1 is met, and nothing is changed
use Rattle.std.specs.Prelude.{ℕ, Bool, true, false, not, ◌&&◌, List, [], ◌∷◌, ◌≡◌}
use Rattle.octets.specs.Answer.{Answer, refuse}
use Rattle.octets.specs.Choice.{pick, first_met}
use Rattle.hmac.specs.Hmac.{key_ok}
use Rattle.on_disk.specs.declared.Layout.{Layout}
use Rattle.on_disk.specs.Superblock.{superblock_at, layout_in}
use Rattle.model.specs.declared.State.{State}
use Rattle.model.specs.Tag.{hmac_tag_of}
use Rattle.model.specs.State.{Verdict, passed, volume_loan_ok, state_ok, volume_ok, staging_ok, staged_ok, sector_ok}
use Rattle.model.specs.Format.{FormatResult, format_rows, format_by, format_of}
use Rattle.model.specs.Open.{OpenResult, open_rows, replay_verdict, open_by, open_of}
use Rattle.model.specs.Write.{WriteResult, write_rows, write_by, write_of}
use Rattle.model.specs.Read.{ReadResult, read_rows, read_by, read_of}

abbrev pub with_key : List ℕ → List (Bool × Verdict) → List (Bool × Verdict)
with_key key [] = []
with_key key (row ∷ rows) = row ∷ (not (key_ok key), refuse 2 []) ∷ rows

unfoldable pub format_keyed_of : List ℕ → Layout → List ℕ → FormatResult
format_keyed_of key g v = format_by (hmac_tag_of key g.width) g v (first_met (with_key key (format_rows g v)) passed)

unfoldable pub open_keyed_with : List ℕ → Layout → ℕ → List ℕ → List ℕ → OpenResult
open_keyed_with key g r v st = open_by g v st (first_met (with_key key (open_rows g r v st)) (replay_verdict (hmac_tag_of key g.width) g v))

abbrev pub open_keyed_of : List ℕ → ℕ → List ℕ → List ℕ → OpenResult
open_keyed_of key r v st = open_keyed_with key (layout_in r (superblock_at r v)) r v st

unfoldable pub write_keyed_of : List ℕ → State → List ℕ → ℕ → List ℕ → WriteResult
write_keyed_of key s st n bytes = write_by (hmac_tag_of key) s st n bytes (first_met (with_key key (write_rows s st n bytes)) passed)

unfoldable pub read_keyed_of : List ℕ → State → List ℕ → List ℕ → ℕ → List ℕ → ReadResult
read_keyed_of key s v st n loan = read_by (hmac_tag_of key) s v st n loan (first_met (with_key key (read_rows (hmac_tag_of key) s v st n loan)) passed)

pub record AsOverTags (key : List ℕ) : Type 0 where
  pub format : (g : Layout) (v : List ℕ) → format_keyed_of key g v ≡ format_of (hmac_tag_of key) g v
  pub opening : (r : ℕ) (v st : List ℕ) → open_keyed_of key r v st ≡ open_of (hmac_tag_of key) r v st
  pub write : (s : State) (st : List ℕ) (n : ℕ) (bytes : List ℕ) → write_keyed_of key s st n bytes ≡ write_of (hmac_tag_of key) s st n bytes
  pub read : (s : State) (v st : List ℕ) (n : ℕ) (loan : List ℕ) → read_keyed_of key s v st n loan ≡ read_of (hmac_tag_of key) s v st n loan

-- 2 where the first check passes, else 1
abbrev pub key_refusal : Bool → {A : Type 0} → Answer ℕ A
key_refusal ok = pick ok (refuse 2 []) (refuse 1 [])

pub record KeyRefused (key : List ℕ) : Type 0 where
  pub format : (g : Layout) (v : List ℕ) → format_keyed_of key g v ≡ record { answer = key_refusal (volume_loan_ok v); volume = v }
  pub opening : (r : ℕ) (v st : List ℕ) → open_keyed_of key r v st ≡ record { answer = key_refusal (volume_loan_ok v); staging = st }
  pub write : (s : State) (st : List ℕ) (n : ℕ) (bytes : List ℕ)
      → write_keyed_of key s st n bytes
      ≡ record { answer = key_refusal (state_ok s && (staging_ok s.layout st && sector_ok bytes)); state = s; staging = st }
  pub read : (s : State) (v st : List ℕ) (n : ℕ) (loan : List ℕ)
      → read_keyed_of key s v st n loan
      ≡ record { answer = key_refusal (state_ok s && (volume_ok s v && (staged_ok s st && sector_ok loan))); sector = loan }

-- R106, of every key
pub record KeyedCalls : Type 0 where
  pub taken : (key : List ℕ) → key_ok key ≡ true → AsOverTags key
  pub refused : (key : List ℕ) → key_ok key ≡ false → KeyRefused key
