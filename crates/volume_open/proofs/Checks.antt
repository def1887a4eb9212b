-- The check of the entries to be replayed: one law to a return, entry by entry, then section by section.
use Prim.Native.Nat.{ℕ, zero, suc, ◌+◌, ◌≤◌, ◌<◌}
use mathlib.Core.Bool.{Bool, true, false, not}
use mathlib.Core.List.{List, [], ◌∷◌, ◌++◌}
use mathlib.Core.Logic.{◌≢◌}
use mathlib.Core.Path.{◌≡◌, refl, sym, ap, ◌∙◌}
use native.Mathlib.Decide.{dec_lt}
use native.Mathlib.Numerals.{add-one}
use native.Mathlib.Omega.{arith}
use lib.Dec.{leb}
use lib.ListN.{length, take}
use lib.Seq.{take_all}
use borrow.Author.Tests.{eq-eqb, ne_eqb, le-leb, lt-leb}
use Rattle.octets.specs.Answer.{taken, refused, refuse}
use Rattle.octets.specs.Answer as octets
use Rattle.octets.specs.Choice.{pick}
use Rattle.octets.specs.Numbers.{le}
use Rattle.octets.specs.Parts.{part, same}
use Rattle.on_disk.specs.declared.Layout.{Layout}
use Rattle.model.specs.declared.Refusal.{Refusal}
use Rattle.on_disk.specs.Section.{Entry, unused, entry_of}
use Rattle.octets.specs.Lists.{collect}
use Rattle.model.specs.Journal.{section_of, due_ids, Found, ordered, Replayed, used_entry, used_of, replay_in}
use Rattle.on_disk.specs.Layout.{layout_ok}
use Rattle.model.specs.Tag.{Tag}
use Rattle.sound.specs.declared.tag.Rule.{Rule}
use Rattle.sound.specs.Rule.{digest_by, tag_by}
use Rattle.model.specs.Refusal.{refusal_of, plain_answer}
use Rattle.std.proofs.Common.{Result, Ok, Err}
use Rattle.model.specs.State.{Verdict, passed}
use Rattle.model.specs.Open.{entries_verdict}
use Rattle.journal.specs.Replay.{later_ids, first_of, order_from}
use Rattle.journal.proofs.Walks.{next_of, entries_from, none_from}

-- the tag test: the entry's tag, against the first bytes of the digest
pub entry-fits-is : (q : Rule) (t : ℕ) (e : Entry) (n : ℕ) (b d s : List ℕ) (r : Bool) → n ≡ e.sector → b ≡ e.bytes → s ≡ e.tag → length s ≡ t
    → d ≡ digest_by q (le 8 n ++ b) → r ≡ same (part s 0 t) (part d 0 t) → r ≡ same e.tag (tag_by q t e.sector e.bytes)
entry-fits-is q t e n b d s r en eb es size ed er =
    let whole : take t s ≡ s = take_all t s (omega arith) in
    rw (er, ed, en, eb, whole, es)

-- entry j, if it is used
abbrev pub used_at : Layout → List ℕ → ℕ → ℕ → List Replayed
used_at g section k j = used_entry k j (entry_of g.width section j)

module _ (tag : Tag) (g : Layout) where
  abbrev pub verdict_of : List Replayed → Verdict
  verdict_of xs = entries_verdict tag g xs

  -- ---- one entry

  module _ (k i : ℕ) (e : Entry) where
    pub entry-unused : e.sector ≡ unused → passed ≡ verdict_of (used_entry k i e)
    entry-unused q = rw (eq-eqb e.sector unused q)

    module _ (used : e.sector ≢ unused) where
      pub entry-out-of-range : g.provided ≤ e.sector → refuse 6 (k ∷ i ∷ []) ≡ verdict_of (used_entry k i e)
      entry-out-of-range l = rw (ne_eqb e.sector unused used, le-leb g.provided e.sector l)

      module _ (low : e.sector < g.provided) where
        pub entry-mismatch : same e.tag (tag e.sector e.bytes) ≡ false → refuse 7 (k ∷ i ∷ []) ≡ verdict_of (used_entry k i e)
        entry-mismatch q = rw (ne_eqb e.sector unused used, lt-leb g.provided e.sector low, q)

        pub entry-fits : same e.tag (tag e.sector e.bytes) ≡ true → passed ≡ verdict_of (used_entry k i e)
        entry-fits q = rw (ne_eqb e.sector unused used, lt-leb g.provided e.sector low, q)

  -- ---- entries behind others

  abbrev after : Verdict → Verdict → Verdict
  after (taken y) w = w
  after (refused x) w = refused x

  verdict-append : (a b : List Replayed) → verdict_of (a ++ b) ≡ after (verdict_of a) (verdict_of b)
  verdict-append [] b = refl
  verdict-append (x ∷ a) b =
      go (leb g.provided x.entry.sector) (not (same x.entry.tag (tag x.entry.sector x.entry.bytes))) (verdict-append a b)
    where
      range : Verdict
      range = refuse 6 (x.section ∷ x.index ∷ [])

      mismatch : Verdict
      mismatch = refuse 7 (x.section ∷ x.index ∷ [])

      go : (p q : Bool) → verdict_of (a ++ b) ≡ after (verdict_of a) (verdict_of b)
          → pick p range (pick q mismatch (verdict_of (a ++ b))) ≡ after (pick p range (pick q mismatch (verdict_of a))) (verdict_of b)
      go true q ih = refl
      go false true ih = refl
      go false false ih = ih

  passed-append : (a b : List Replayed) → verdict_of a ≡ passed → verdict_of (a ++ b) ≡ verdict_of b
  passed-append a b e = verdict-append a b ∙ ap (λ (w : Verdict). after w (verdict_of b)) e

  refused-append : (a b : List Replayed) (x : octets.Refusal ℕ) → verdict_of a ≡ refused x → verdict_of (a ++ b) ≡ refused x
  refused-append a b x e = verdict-append a b ∙ ap (λ (w : Verdict). after w (verdict_of b)) e

  -- ---- the entries of a section: the first i of n pass

  module _ (f : ℕ → List Replayed) (i : ℕ) (r : Result (Unit {0}) Refusal) (start : verdict_of (collect i f) ≡ passed) (found : plain_answer r ≡ verdict_of (f i)) where
    pub entries-more : r ≡ Ok tt → verdict_of (collect (i + 1) f) ≡ passed
    entries-more e =
        ap (λ (n : ℕ). verdict_of (collect n f)) (add-one i) ∙ passed-append (collect i f) (f i) start ∙ sym found ∙ ap plain_answer e

    refused-of : (x : Refusal) → r ≡ Err x → (n : ℕ) → i < n → verdict_of (collect n f) ≡ refused (refusal_of x)
    refused-of x e zero l = absurd (omega arith)
    refused-of x e (suc n) l = go (refused-of x e n) (dec_lt i n)
      where
        go : (i < n → verdict_of (collect n f) ≡ refused (refusal_of x)) → Dec (i < n) → verdict_of (collect (suc n) f) ≡ refused (refusal_of x)
        go ih (yes m) = refused-append (collect n f) (f n) (refusal_of x) (ih m)
        go ih (no m) =
            let last : n ≡ i = omega arith in
            ap (λ (j : ℕ). verdict_of (collect (suc j) f)) last ∙ passed-append (collect i f) (f i) start
            ∙ sym found ∙ ap plain_answer e

    pub entries-stop : (x : Refusal) → r ≡ Err x → (n : ℕ) → i < n → plain_answer r ≡ verdict_of (collect n f)
    entries-stop x e n l = ap plain_answer e ∙ sym (refused-of x e n l)

  -- ---- the sections of the replay: what is left from section k on

  module _ (v : List ℕ) (ok : layout_ok g ≡ true) (w : Verdict) (k : ℕ) (left : w ≡ verdict_of (replay_in g v (order_from (due_ids g v) g.sections k))) where
    pub sections-end : g.sections ≤ k → passed ≡ w
    sections-end l = sym (left ∙ ap (λ (L : List Found). verdict_of (replay_in g v L)) (none_from g v ok k l))

    module _ (l : k < g.sections) (sec : List ℕ) (is : sec ≡ section_of g v k) (r : Result (Unit {0}) Refusal) (found : plain_answer r ≡ verdict_of (used_of g.width k sec)) where
      abbrev here : List Replayed
      here = used_of g.width k (section_of g v k)

      found_here : plain_answer r ≡ verdict_of here
      found_here = found ∙ ap (λ (x : List ℕ). verdict_of (used_of g.width k x)) is

      pub sections-more : (n : ℕ) → ordered g.sections (later_ids (due_ids g v) (due_ids g v k) k) ≡ order_from (due_ids g v) g.sections n → r ≡ Ok tt
          → w ≡ verdict_of (replay_in g v (order_from (due_ids g v) g.sections n))
      sections-more n q e =
          left ∙ ap verdict_of (entries_from g v ok k n l q)
          ∙ passed-append here (replay_in g v (order_from (due_ids g v) g.sections n)) (sym found_here ∙ ap plain_answer e)

      pub sections-stop : (x : Refusal) → r ≡ Err x → plain_answer r ≡ w
      sections-stop x e =
          let n : ℕ = first_of g.sections (ordered g.sections (later_ids (due_ids g v) (due_ids g v k) k)) in
          ap plain_answer e
          ∙ sym (left ∙ ap verdict_of (entries_from g v ok k n l (next_of g v ok k l))
          ∙ refused-append here (replay_in g v (order_from (due_ids g v) g.sections n)) (refusal_of x) (sym found_here ∙ ap plain_answer e))
