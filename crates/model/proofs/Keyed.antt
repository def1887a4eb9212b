-- The calls with a key: specs/Keyed.
use mathlib.Core.Bool.{Bool, true, false, not, ◌&&◌}
use mathlib.Core.List.{List, [], ◌∷◌}
use mathlib.Core.Path.{◌≡◌, refl, ap, ◌∙◌}
use Prim.Native.Nat.{ℕ}
use Rattle.octets.specs.Answer.{refuse}
use Rattle.octets.specs.Choice.{pick, first_met}
use Rattle.hmac.specs.Hmac.{key_ok}
use Rattle.on_disk.specs.declared.Layout.{Layout}
use Rattle.on_disk.specs.Superblock.{superblock_at, layout_in}
use Rattle.model.specs.declared.State.{State}
use Rattle.model.specs.Tag.{hmac_tag_of}
use Rattle.model.specs.State.{Verdict, passed, volume_loan_ok, state_ok, volume_ok, staging_ok, staged_ok, sector_ok}
use Rattle.model.specs.Format.{FormatResult, format_rows, format_by, format_of}
use Rattle.model.specs.Open.{OpenResult, open_rows, replay_verdict, open_by, open_with}
use Rattle.model.specs.Write.{WriteResult, write_rows, write_by, write_of}
use Rattle.model.specs.Read.{ReadResult, read_rows, read_by, read_of}
use Rattle.model.specs.Keyed.{with_key, format_keyed_of, open_keyed_with, open_keyed_of, write_keyed_of, read_keyed_of, AsOverTags, key_refusal, KeyRefused, KeyedCalls}

-- a key in range: the rule is not met
pub with-key : (key : List ℕ) → key_ok key ≡ true → (rows : List (Bool × Verdict)) (z : Verdict) → first_met (with_key key rows) z ≡ first_met rows z
with-key key e [] z = refl
with-key key e (row ∷ rows) z = ap (λ (b : Bool). pick row.0 row.1 (pick (not b) (refuse 2 []) (first_met rows z))) e

-- any other: the first rule, or this one
unfoldable pub first : List (Bool × Verdict) → Verdict → Verdict
first [] z = z
first (row ∷ rows) z = pick row.0 row.1 (refuse 2 [])

pub without-key : (key : List ℕ) → key_ok key ≡ false → (rows : List (Bool × Verdict)) (z : Verdict) → first_met (with_key key rows) z ≡ first rows z
unfolding first
without-key key e [] z = refl
without-key key e (row ∷ rows) z = ap (λ (b : Bool). pick row.0 row.1 (pick (not b) (refuse 2 []) (first_met rows z))) e

taken : (key : List ℕ) → key_ok key ≡ true → AsOverTags key
unfolding format_keyed_of format_of open_keyed_with open_with write_keyed_of write_of read_keyed_of read_of
taken key e =
    record {
      format = λ g v. ap (format_by (hmac_tag_of key g.width) g v) (with-key key e (format_rows g v) passed);
      opening = λ r v st.
          let g : Layout = layout_in r (superblock_at r v) in
          ap (open_by g v st) (with-key key e (open_rows g r v st) (replay_verdict (hmac_tag_of key g.width) g v));
      write = λ s st n b. ap (write_by (hmac_tag_of key) s st n b) (with-key key e (write_rows s st n b) passed);
      read = λ s v st n loan. ap (read_by (hmac_tag_of key) s v st n loan) (with-key key e (read_rows (hmac_tag_of key) s v st n loan) passed);
    }

refused : (key : List ℕ) → key_ok key ≡ false → KeyRefused key
unfolding first format_keyed_of open_keyed_with write_keyed_of read_keyed_of
refused key e = record { format = formats; opening = opens; write = writes; read = reads }
  where
    formats : (g : Layout) (v : List ℕ) → format_keyed_of key g v ≡ record { answer = key_refusal (volume_loan_ok v); volume = v }
    formats g v = ap by (without-key key e (format_rows g v) passed) ∙ cases (volume_loan_ok v)
      where
        by : Verdict → FormatResult
        by = format_by (hmac_tag_of key g.width) g v

        cases : (ok : Bool) → by (pick (not ok) (refuse 1 []) (refuse 2 [])) ≡ record { answer = key_refusal ok; volume = v }
        cases true = refl
        cases false = refl

    opens : (r : ℕ) (v st : List ℕ) → open_keyed_of key r v st ≡ record { answer = key_refusal (volume_loan_ok v); staging = st }
    opens r v st = ap by (without-key key e (open_rows g r v st) (replay_verdict (hmac_tag_of key g.width) g v)) ∙ cases (volume_loan_ok v)
      where
        g : Layout
        g = layout_in r (superblock_at r v)

        by : Verdict → OpenResult
        by = open_by g v st

        cases : (ok : Bool) → by (pick (not ok) (refuse 1 []) (refuse 2 [])) ≡ record { answer = key_refusal ok; staging = st }
        cases true = refl
        cases false = refl

    writes : (s : State) (st : List ℕ) (n : ℕ) (bytes : List ℕ)
        → write_keyed_of key s st n bytes
        ≡ record { answer = key_refusal (state_ok s && (staging_ok s.layout st && sector_ok bytes)); state = s; staging = st }
    writes s st n bytes = ap by (without-key key e (write_rows s st n bytes) passed) ∙ cases (state_ok s && (staging_ok s.layout st && sector_ok bytes))
      where
        by : Verdict → WriteResult
        by = write_by (hmac_tag_of key) s st n bytes

        cases : (ok : Bool) → by (pick (not ok) (refuse 1 []) (refuse 2 [])) ≡ record { answer = key_refusal ok; state = s; staging = st }
        cases true = refl
        cases false = refl

    reads : (s : State) (v st : List ℕ) (n : ℕ) (loan : List ℕ)
        → read_keyed_of key s v st n loan
        ≡ record { answer = key_refusal (state_ok s && (volume_ok s v && (staged_ok s st && sector_ok loan))); sector = loan }
    reads s v st n loan = ap by (without-key key e (read_rows (hmac_tag_of key) s v st n loan) passed) ∙ cases (state_ok s && (volume_ok s v && (staged_ok s st && sector_ok loan)))
      where
        by : Verdict → ReadResult
        by = read_by (hmac_tag_of key) s v st n loan

        cases : (ok : Bool) → by (pick (not ok) (refuse 1 []) (refuse 2 [])) ≡ record { answer = key_refusal ok; sector = loan }
        cases true = refl
        cases false = refl

pub keyed-calls : KeyedCalls
keyed-calls = record { taken = taken; refused = refused }
