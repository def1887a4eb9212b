-- Verify: whether the tags of so many sectors fit their data, by one call. No rule has it; each sector is tested as R51 has it of a read, the first that does not
-- fit is named (R71), and a key is set up once for all of them (R106, R107). It changes nothing, so that its verdict is all it gives.
--
-- tag_fits tags g v n          : whether the tag of sector n on the volume v fits its data
-- verify_rows tags s v n k     : the rules of the call, for k sectors from n on, in order
-- verify_of tags s v n k       : the call
-- verify_keyed_of key s v n k   : the call with a key
-- VerifiesAsRead tags         : of one sector it says what a read says, where no batch hides the volume's data
-- VerifiesKeyed               : R106, of this call
-- The proofs are in proofs/Verify.
use Rattle.std.specs.Prelude.{ℕ, ◌+◌, Bool, true, false, not, ◌&&◌, List, [], ◌∷◌, ◌≡◌, ltb}
use Rattle.octets.specs.Answer.{refuse}
use Rattle.octets.specs.Choice.{first_met}
use Rattle.octets.specs.Lists.{all_below, first_below}
use Rattle.octets.specs.Parts.{same}
use Rattle.octets.specs.Sectors.{sector_at}
use Rattle.hmac.specs.Hmac.{key_ok}
use Rattle.on_disk.specs.declared.Layout.{Layout}
use Rattle.on_disk.specs.Layout.{data_at}
use Rattle.model.specs.declared.State.{State}
use Rattle.model.specs.Tag.{Tags, tag_at, hmac_tag_of}
use Rattle.model.specs.State.{Verdict, passed, state_ok, volume_ok, staging_ok, sector_ok, is_filling}
use Rattle.model.specs.Read.{read_of}
use Rattle.model.specs.Keyed.{with_key, key_refusal}

abbrev pub tag_fits : Tags → Layout → List ℕ → ℕ → Bool
tag_fits tags g v n = same (tag_at g v n) (tags g.width n (sector_at v (data_at g n)))

abbrev pub verify_rows : Tags → State → List ℕ → ℕ → ℕ → List (Bool × Verdict)
verify_rows tags s v n k =
    (not (state_ok s && volume_ok s v), refuse 1 [])
    ∷ (not (is_filling s.phase), refuse 9 [])
    ∷ (ltb s.layout.provided (n + k), refuse 6 [])
    ∷ (
      not (all_below k (λ i. tag_fits tags s.layout v (n + i))),
      refuse 7 ((n + first_below k (λ i. not (tag_fits tags s.layout v (n + i)))) ∷ []),
    )
    ∷ []

unfoldable pub verify_of : Tags → State → List ℕ → ℕ → ℕ → Verdict
verify_of tags s v n k = first_met (verify_rows tags s v n k) passed

unfoldable pub verify_keyed_of : List ℕ → State → List ℕ → ℕ → ℕ → Verdict
verify_keyed_of key s v n k = first_met (with_key key (verify_rows (hmac_tag_of key) s v n k)) passed

abbrev pub VerifiesAsRead : Tags → Type 0
VerifiesAsRead tags =
    (s : State) (v st : List ℕ) (n : ℕ) (loan : List ℕ)
    → is_filling s.phase ≡ true → s.count ≡ 0 → staging_ok s.layout st ≡ true → sector_ok loan ≡ true
    → verify_of tags s v n 1 ≡ (read_of tags s v st n loan).answer

pub record VerifiesKeyed : Type 0 where
  pub taken : (key : List ℕ) → key_ok key ≡ true
      → (s : State) (v : List ℕ) (n k : ℕ) → verify_keyed_of key s v n k ≡ verify_of (hmac_tag_of key) s v n k
  pub refused : (key : List ℕ) → key_ok key ≡ false
      → (s : State) (v : List ℕ) (n k : ℕ) → verify_keyed_of key s v n k ≡ key_refusal (state_ok s && volume_ok s v)
