-- Open: one law to a return.
use Prim.Native.Nat.{ℕ, suc, ◌+◌, ◌*◌, ◌≤◌, ◌<◌}
use mathlib.Core.Bool.{Bool, true, false, not}
use mathlib.Core.List.{List, [], ◌∷◌}
use mathlib.Core.Logic.{◌≢◌}
use mathlib.Core.Path.{◌≡◌, refl, sym, ap, ◌∙◌, subst}
use lib.Dec.{eqb}
use lib.ListN.{length}
use borrow.Author.Tests.{eq-eqb, ne_eqb}
use Rattle.octets.specs.Answer.{Answer, taken, refused, refuse}
use Rattle.octets.specs.Answer as octets
use Rattle.octets.specs.Choice.{first_met}
use Rattle.octets.proofs.Answers.{refused-not-taken}
use Rattle.octets.proofs.Choice.{passes, unmet, first-append, met}
use Rattle.on_disk.specs.declared.Layout.{Layout}
use Rattle.model.specs.declared.Phase.{Phase}
use Rattle.model.specs.declared.Refusal.{Refusal}
use Rattle.on_disk.specs.Layout.{needed, layout_ok}
use Rattle.on_disk.specs.Superblock.{superblock_at, layout_in}
use Rattle.on_disk.specs.Section.{empty_section}
use native.Mathlib.Omega.{arith}
use Rattle.octets.specs.Lists.{all_below, first_below, if_below}
use Rattle.octets.proofs.Lists.{some-below, none-below}
use Rattle.model.specs.Journal.{greatest_id, replay}
use Rattle.model.specs.Store.{steps_of}
use Rattle.model.specs.Tag.{Tags}
use Rattle.model.specs.Keyed.{open_keyed_with, open_keyed_of}
use Rattle.model.proofs.Keyed.{keyed-calls}
use Rattle.hmac.specs.Hmac.{key_ok}
use Rattle.sound.specs.declared.tag.Rule.{Rule}
use Rattle.sound.specs.Rule.{tag_by, keyed_of}
use Rattle.sound.proofs.Rules.{keyed-tags}
use Rattle.model.specs.Refusal.{refusal_of, plain_answer}
use Rattle.std.proofs.Common.{Option, Some, None, Result, Ok, Err}
use Rattle.model.specs.State.{Verdict, passed, last_id, volume_loan_ok, staging_ok}
use Rattle.model.specs.Open.{misplaced, superblock_rows, entries_verdict, phase_for, OpenResult, open_by, open_with, open_of}
use Rattle.model.specs.Query.{query_of}
use Rattle.journal.proofs.Scans.{some_below, none_below}
use Rattle.volume_open.proofs.Queries.{superblock-rows, valid-layout, held-passes, held-layout, held-valid, held-room}

-- the rows behind those of volume and superblock
abbrev journal_rows : Layout → List ℕ → List ℕ → List (Bool × Verdict)
journal_rows g v st =
    (not (staging_ok g st), refuse 1 [])
    ∷ (eqb (greatest_id g v) last_id, refuse 10 [])
    ∷ (not (all_below g.sections (λ k. not (misplaced g v k))), refuse 11 (first_below g.sections (misplaced g v) ∷ []))
    ∷ []

module _ (tags : Tags) (g : Layout) (r : ℕ) (v st : List ℕ) where
  -- a refusal by volume or superblock
  pub query-refused : (x : octets.Refusal ℕ) → first_met (superblock_rows g r v) passed ≡ refused x → record { answer = refused x; staging = st } ≡ open_with tags g r v st
  unfolding open_with
  query-refused x e =
      sym (ap (open_by g v st)
      (first-append (superblock_rows g r v) (journal_rows g v st) (entries_verdict (tags g.width) g (replay g v))
      ∙ met (superblock_rows g r v) (refused x) passed (first_met (journal_rows g v st) (entries_verdict (tags g.width) g (replay g v))) (refused-not-taken x tt) e))

  module _ (superblock : first_met (superblock_rows g r v) passed ≡ passed) where
    behind : open_with tags g r v st ≡ open_by g v st (first_met (journal_rows g v st) (entries_verdict (tags g.width) g (replay g v)))
    unfolding open_with
    behind =
        ap (open_by g v st)
        (first-append (superblock_rows g r v) (journal_rows g v st) (entries_verdict (tags g.width) g (replay g v))
        ∙ passes (superblock_rows g r v) (first_met (journal_rows g v st) (entries_verdict (tags g.width) g (replay g v)))
        (unmet (superblock_rows g r v) passed (superblock-rows g r v) superblock))

    pub wrong-staging : staging_ok g st ≡ false → record { answer = refuse 1 []; staging = st } ≡ open_with tags g r v st
    wrong-staging e = sym (behind ∙ rw e)

    module _ (staging : staging_ok g st ≡ true) (n : ℕ) (greatest : n ≡ greatest_id g v) where
      pub exhausted : n ≡ last_id → record { answer = refuse 10 []; staging = st } ≡ open_with tags g r v st
      exhausted e = sym (behind ∙ rw (staging, eq-eqb (greatest_id g v) last_id (sym greatest ∙ e)))

      module _ (more : n ≢ last_id) (m : Option ℕ) (first : m ≡ if_below g.sections (first_below (suc g.sections) (misplaced g v))) where
        ids-left : eqb (greatest_id g v) last_id ≡ false
        ids-left = ne_eqb (greatest_id g v) last_id (λ e. more (greatest ∙ e))

        pub section-misplaced : (k : ℕ) → m ≡ Some k → record { answer = refuse 11 (k ∷ []); staging = st } ≡ open_with tags g r v st
        section-misplaced k e =
            let at = some-below g.sections (first_below (suc g.sections) (misplaced g v)) k (sym first ∙ e) in
            let found = some_below (misplaced g v) g.sections k at.0 (omega arith) in
            sym (behind ∙ rw (staging, ids-left, found.0) (ap (λ (k : ℕ). record { answer = refuse 11 (k ∷ []); staging = st }) (sym found.1)))

        module _ (some : 0 < g.sections) (none : m ≡ None) (c : Result (Unit {0}) Refusal) (is : plain_answer c ≡ entries_verdict (tags g.width) g (replay g v)) where
          in_place : all_below g.sections (λ k. not (misplaced g v k)) ≡ true
          in_place =
              let last = none-below g.sections (first_below (suc g.sections) (misplaced g v)) (sym first ∙ none) in
              none_below (misplaced g v) g.sections (first_below (suc g.sections) (misplaced g v)) refl some last

          pub entry-refused : (x : Refusal) → c ≡ Err x → record { answer = refused (refusal_of x); staging = st } ≡ open_with tags g r v st
          entry-refused x e =
              sym (behind ∙ rw (staging, ids-left, in_place) (ap (open_by g v st) (sym is ∙ ap plain_answer e)))

          pub opened : c ≡ Ok tt → (o : List ℕ) → o ≡ empty_section g.width → (t : ℕ) → t ≡ steps_of g (replay g v) → (p : Phase) → p ≡ phase_for t
              → record { answer = taken (record { layout = g; phase = p; count = 0; id = n + 1 }, t); staging = o } ≡ open_with tags g r v st
          opened e o eo t et p ep =
              sym (behind ∙ rw (staging, ids-left, in_place) (ap (open_by g v st) (sym is ∙ ap plain_answer e) ∙ sym results))
            where
              phase : p ≡ phase_for (steps_of g (replay g v))
              phase = ep ∙ ap phase_for et

              results : record { answer = taken (record { layout = g; phase = p; count = 0; id = n + 1 }, t); staging = o } ≡ open_by g v st passed
              results = λ i. record { answer = taken (record { layout = g; phase = phase i; count = 0; id = greatest i + 1 }, et i); staging = eo i }

-- ---- the call, where query holds the layout h

module _ (r : ℕ) (v : List ℕ) (a : Answer ℕ (Layout × ℕ)) (is : a ≡ query_of r v) (h : Layout) (n : ℕ) (e : a ≡ taken (h, n)) where
  abbrev decoded : Layout
  decoded = layout_in r (superblock_at r v)

  same_layout : decoded ≡ h
  same_layout = held-layout decoded r v a is h n e

  behind-reserved : h.reserved ≡ r
  behind-reserved = sym (ap (λ (x : Layout). x.reserved) same_layout)

  pub held-requires : (layout_ok h ≡ true) × (needed h * 512 ≤ length v) × (first_met (superblock_rows h h.reserved v) passed ≡ passed)
  held-requires = (
    ap layout_ok (sym same_layout) ∙ valid-layout r (superblock_at r v) (held-valid decoded r v a is h n e),
    subst (λ (x : Layout). needed x * 512 ≤ length v) same_layout (held-room decoded r v a is h n e),
    ap (λ (k : ℕ). first_met (superblock_rows h k v) passed) behind-reserved
        ∙ ap (λ (x : Layout). first_met (superblock_rows x r v) passed) (sym same_layout) ∙ held-passes decoded r v a is h n e,
  )

  pub held-opens : (tags : Tags) (st : List ℕ) (o : OpenResult) → o ≡ open_with tags h h.reserved v st → o ≡ open_of tags r v st
  held-opens tags st o q =
      q ∙ ap (λ (k : ℕ). open_with tags h k v st) behind-reserved
      ∙ ap (λ (x : Layout). open_with tags x r v st) (sym same_layout)

-- ---- with a key

module _ (key : List ℕ) (r : ℕ) (v st : List ℕ) where
  pub keyed-malformed : volume_loan_ok v ≡ false → record { answer = refuse 1 []; staging = st } ≡ open_keyed_of key r v st
  unfolding open_keyed_with
  keyed-malformed e = rw e

  pub key-refused : volume_loan_ok v ≡ true → key_ok key ≡ false → record { answer = refuse 2 []; staging = st } ≡ open_keyed_of key r v st
  unfolding open_keyed_with
  key-refused ok e = rw (ok, e)

  pub key-taken : (o : OpenResult) → key_ok key ≡ true → (q : Rule) → q ≡ keyed_of key → o ≡ open_of (tag_by q) r v st → o ≡ open_keyed_of key r v st
  key-taken o ok q eq e =
      e ∙ ap (λ (x : Rule). open_of (tag_by x) r v st) eq ∙ ap (λ (tags : Tags). open_of tags r v st) (keyed-tags key) ∙ sym ((keyed-calls.taken key ok).opening r v st)
