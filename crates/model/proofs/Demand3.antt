-- DEMAND 3, for every list of calls and cuts, over any tag function.
use Prim.Native.Nat.{ℕ, zero, suc, ◌+◌, ◌*◌, ◌/◌, ◌%◌, ◌≤◌, ◌<◌}
use mathlib.Core.Bool.{Bool, true, false, not, ◌&&◌}
use mathlib.Core.Path.{◌≡◌, refl, sym, ap, ◌∙◌, subst}
use mathlib.Core.List.{List, [], ◌∷◌, ◌++◌}
use native.Mathlib.Omega.{arith}
use lib.Seq.{length-take-le}
use lib.ListN.{length, replicate}
use lib.Dec.{leb, ltb, eqb}
use borrow.Author.Tests.{eqb-true, eq-eqb, lt-ltb, le-ltb, lt-leb}
use Rattle.octets.specs.Answer.{Answer, taken}
use Rattle.octets.specs.Numbers.{le}
use Rattle.digest.specs.Sha256.{digest_size, sha256}
use Rattle.digest.specs.Sha256.Promise.{length-sha256}
use Rattle.hmac.specs.Hmac.{key_ok, hmac}
use Rattle.hmac.proofs.Theorems.{mac-length}
use Rattle.octets.specs.Choice.{pick, first_met}
use Rattle.octets.proofs.Choice.{passes}
use Rattle.octets.specs.Parts.{same}
use Rattle.octets.specs.Sectors.{sector_at}
use Rattle.octets.proofs.Parts.{eq-same}
use Rattle.octets.proofs.Sectors.{sector-part}
use Rattle.on_disk.specs.Layout.{most_sectors, section_size, section_at, data_at}
use Rattle.on_disk.specs.Section.{id_of, entry_of, empty_section}
use Rattle.model.specs.Journal.{greatest_in, greatest_id, due_ids, section_of, whole_ids, replay_in, replay}
use Rattle.model.specs.State.{volume_loan_ok, state_ok, staging_ok, sector_ok, passed}
use Rattle.model.specs.Tag.{Tag, Tags, TagsOf, tags_by, tag_of, hmac_tag_of, tag_at}
use Rattle.model.specs.Read.{newest_for, read_rows, read_of}
use Rattle.model.specs.Ledger.{start, last_for, Ledger, note, note_all}
use Rattle.model.specs.Medium.{Medium, medium_of, volume_in}
use Rattle.model.specs.World.{Event, Setting, setting_of, Live, off, on, World, a_cut, an_open, a_write, a_flush, a_step, a_next_store, a_read, a_keyed_open, a_keyed_write, a_keyed_read, resting, begin, Happened, by_open, by_write, by_step, happens, next, noted, after, transcript}
use Rattle.model.specs.Store.{content_of}
use Rattle.model.specs.StepResult.{StepResult}
use Rattle.model.specs.JournalStep.{commit_steps}
use Rattle.model.specs.Step.{step_of}
use Rattle.model.specs.NextStore.{store_named}
use Rattle.model.specs.Format.{format_of}
use Rattle.model.specs.Open.{OpenResult, open_by}
use Rattle.model.specs.Write.{WriteResult}
use Rattle.model.specs.Keyed.{key_refusal}
use Rattle.model.specs.Guarantees.{OpensFresh, FreshOpens}
use Rattle.model.specs.Demand3.{Agrees, Demand3, Demand3Sha256, Demand3Hmac}
use Rattle.model.proofs.Formats.{Fresh, format-layout, format-fresh}
use Rattle.model.proofs.Replays.{last_for-append, Which, which, is_true, is_false}
use Rattle.on_disk.proofs.Sections.{per_pos}
use Rattle.model.proofs.Order.{ordered-none}
use Rattle.model.proofs.Journals.{due-le, top_least, write_of_entry, batch_of, top-le, whole_le}
use Rattle.on_disk.proofs.Addresses.{and_both, ranged, section-low}
use Rattle.model.proofs.Homes.{Home}
use Rattle.model.proofs.Invariant.{Premises, before-journal, state_at, Disk, AtFilling, Lives, stopped}
use Rattle.model.proofs.Cuts.{and-false, cuts}
use Rattle.model.proofs.Steps.{Inv, Leads, never, filling_in, sound, sound-volume, sound-staging, sound-staged, step_keeps}
use Rattle.model.proofs.Batches.{Filled, it, filled, write_keeps, flush-keeps}
use Rattle.model.proofs.NextStore.{next-told, next-refused, step-stores}
use Rattle.model.proofs.Keyed.{keyed-calls}
use Rattle.model.proofs.Opens.{open-runs, query-holds, open-keeps}
use Rattle.on_disk.specs.declared.Layout.{Layout}
use Rattle.model.specs.declared.Phase.TheVariants.{Filling}
use Rattle.model.specs.declared.State.{State}

-- the newest of the first m staged entries for a sector: none, or one whose bytes are the last
data Search (t : ℕ) (st : List ℕ) (d m s : ℕ) (z : List ℕ) : Type 0 where
  miss : newest_for t st d m s ≡ d → last_for (batch_of t st m) s z ≡ z → Search t st d m s z
  hit : newest_for t st d m s < m → (entry_of t st (newest_for t st d m s)).bytes ≡ last_for (batch_of t st m) s z → Search t st d m s z

search-newest : (t : ℕ) (st : List ℕ) (d m s : ℕ) (z : List ℕ) → Search t st d m s z
search-newest t st d zero s z = miss refl refl
search-newest t st d (suc m) s z = go (which (eqb (entry_of t st m).sector s)) (search-newest t st d m s z)
  where
    last : last_for (batch_of t st (suc m)) s z ≡ pick (eqb (entry_of t st m).sector s) (entry_of t st m).bytes (last_for (batch_of t st m) s z)
    last = last_for-append (batch_of t st m) (write_of_entry (entry_of t st m) ∷ []) s z

    go : Which (eqb (entry_of t st m).sector s) → Search t st d m s z → Search t st d (suc m) s z
    go (is_true e) r = hit (rw e (omega arith)) (rw e (sym (last ∙ rw e)))
    go (is_false e) (miss a b) = miss (rw e a) (last ∙ rw e b)
    go (is_false e) (hit a b) = hit (rw e (omega arith)) (rw e (b ∙ sym (last ∙ rw e)))

newest-last : (t : ℕ) (st : List ℕ) (n s : ℕ) (z : List ℕ)
    → pick (ltb (newest_for t st n n s) n) (entry_of t st (newest_for t st n n s)).bytes z ≡ last_for (batch_of t st n) s z
newest-last t st n s z = go (search-newest t st n n s z)
  where
    go : Search t st n n s z → pick (ltb (newest_for t st n n s) n) (entry_of t st (newest_for t st n n s)).bytes z ≡ last_for (batch_of t st n) s z
    go (miss a b) = rw (le-ltb (newest_for t st n n s) n (omega arith)) (sym b)
    go (hit a b) = rw (lt-ltb (newest_for t st n n s) n a) b

-- what holds at the start, of a volume that format left
module _ (tag : Tag) (g : Layout) (sz : (s : ℕ) (b : List ℕ) → length (tag s b) ≡ g.width) (v₀ : List ℕ) (F : Fresh tag g v₀) where
  whole-sectors : length v₀ ≡ length v₀ / 512 * 512
  whole-sectors =
      let z = and_both (eqb (length v₀ % 512) 0) (leb (length v₀) (most_sectors * 512)) F.wholes in
      omega (arith, eqb-true (length v₀ % 512) 0 z.0)

  pub setting : Premises tag g v₀
  setting =
      record {
        layout = F.layout;
        ranged = ranged g F.layout;
        some = per_pos g.width (omega (arith, (ranged g F.layout).t.bound));
        tags = sz;
        loan = F.wholes;
        room = F.room;
        super = F.super;
        sectors = length v₀ / 512;
        whole = whole-sectors;
      }

-- ---- the start: nothing is to be replayed, and every sector is home with zeros

module _ (tags : Tags) (g : Layout) (v₀ : List ℕ) (X : Premises (tags g.width) g v₀) (F : Fresh (tags g.width) g v₀) where
  zero-id : id_of (replicate 512 0) ≡ 0
  zero-id = refl

  zero-sector : (k j : ℕ) → k < g.sections → j < section_size g.width → id_of (sector_at (section_of g v₀ k) j) ≡ 0
  zero-sector k j h l =
      ap id_of (sector-part v₀ (section_at g k) (section_size g.width) j l
      ∙ F.journal (section_at g k + j) (omega arith) (omega (arith, section-low g X.ranged k h)))
      ∙ zero-id

  zero-top : (k : ℕ) → k < g.sections → greatest_in g.width (section_of g v₀ k) ≤ 0
  zero-top k h = top-le g.width (section_of g v₀ k) 0 (λ j l. omega (arith, zero-sector k j h l))

  zero-ids : (k : ℕ) → k < g.sections → whole_ids g v₀ k ≡ 0
  zero-ids k h = omega (arith, whole_le g.width (section_of g v₀ k), zero-top k h)

  no-replay : replay g v₀ ≡ []
  unfolding replay
  no-replay = ap (replay_in g v₀) (ordered-none g.sections (due_ids g v₀) (λ k h. omega (arith, due-le g v₀ k, zero-ids k h)))

  pub fresh-disk : Disk (tags g.width) g v₀ v₀ start.contents
  fresh-disk =
      record {
        sized = refl;
        kept = λ b o. refl;
        places = λ k h z. absurd (z (zero-ids k h));
        window = λ k h z. absurd (z (zero-ids k h));
        top = omega (arith, top_least g v₀ 0 zero-top);
        goods = λ k h z. absurd (z (zero-ids k h));
        durable = rw no-replay (record { unnamed = λ s h e. (F.zero-data s h, F.tags s h); named = λ s h e d. never e });
      }

  pub starts : Inv (tags g.width) g v₀ X (begin v₀) start
  starts = record { lives = stopped fresh-disk refl refl; fills = λ q. never q }

  opened-fresh : (open_by g v₀ [] passed).answer ≡ taken (record { layout = g; phase = Filling; count = 0; id = 1 }, 0)
  opened-fresh =
      let top : greatest_id g v₀ + 1 ≡ 1 = omega (arith, top_least g v₀ 0 zero-top) in
      rw no-replay (ap (λ (n : ℕ). taken (record { layout = g; phase = Filling; count = 0; id = n }, 0)) top)

  pub opens-fresh : OpensFresh tags g v₀
  opens-fresh =
      record {
        queried = query-holds tags g v₀ X (medium_of v₀) start fresh-disk;
        opened = λ st e.
            open-runs tags g v₀ X (medium_of v₀) start fresh-disk st (sound-staging (tags g.width) g v₀ X st e)
            ∙ ap (λ (a : Answer ℕ (State × ℕ)). record { answer = a; staging = empty_section g.width }) opened-fresh;
      }

-- ---- every event keeps the invariant

module _ (tags : Tags) (g : Layout) (v₀ : List ℕ) (X : Premises (tags g.width) g v₀) where
  abbrev tag : Tag
  tag = tags g.width

  abbrev x : Setting
  x = setting_of tags g

  abbrev pub I : World → Ledger → Type 0
  I = Inv tag g v₀ X

  -- ---- an event

  abbrev pub EventLeads : Medium → Ledger → Live → Event → Type 0
  EventLeads d l y e = Leads tag g v₀ X l (happens x d y e)

  kept-as : (d : Medium) (l : Ledger) (y : Live) → Lives tag g v₀ d l y → I (resting d y) l
  kept-as d l y A = record { lives = A; fills = λ q. never q }

  opens : (d : Medium) (l : Ledger) (st : List ℕ) (y : Live) → Lives tag g v₀ d l y → EventLeads d l y (an_open st)
  opens d l st off (stopped D b c) = open-keeps tags g v₀ X d l D st b c
  opens d l st (on s z) A = kept-as d l (on s z) A

  -- a step whose store the owner makes is the step; with a loan of a wrong length it is refused
  owners : (d : Medium) (l : Ledger) (s : State) (st b : List ℕ) → Lives tag g v₀ d l (on s st) → EventLeads d l (on s st) (a_next_store b)
  owners d l s st b A = go (which (sector_ok b))
    where
      v : List ℕ
      v = volume_in d

      told : StepResult → Happened
      told o = by_step (medium_of (store_named v o.answer (content_of b o.effect))) o

      go : Which (sector_ok b) → EventLeads d l (on s st) (a_next_store b)
      go (is_true t) =
          subst (λ (o : StepResult). Leads tag g v₀ X l (told o)) (sym (next-told s v st b t))
          (subst (λ (w : List ℕ). Leads tag g v₀ X l (by_step (medium_of w) (step_of s v st))) (sym ((step-stores s v st).made b)) (step_keeps tag g v₀ X d l s st A))
      go (is_false f) = subst (λ (o : StepResult). Leads tag g v₀ X l (told o)) (sym (next-refused s v st b f)) (kept-as d l (on s st) A)

  -- with a key out of range a call is refused, and nothing is changed
  keyed-open : (d : Medium) (l : Ledger) (key st : List ℕ) (z : key_ok key ≡ false) → Lives tag g v₀ d l off → EventLeads d l off (a_keyed_open key st z)
  keyed-open d l key st z A =
      subst (λ (o : OpenResult). Leads tag g v₀ X l (by_open d o.staging o.answer))
      (sym ((keyed-calls.refused key z).opening x.reserved (volume_in d) st)) (go (volume_loan_ok (volume_in d)))
    where
      go : (ok : Bool) → Leads tag g v₀ X l (by_open d st (key_refusal ok))
      go true = kept-as d l off A
      go false = kept-as d l off A

  keyed-write : (d : Medium) (l : Ledger) (s : State) (st key : List ℕ) (n : ℕ) (b : List ℕ) (z : key_ok key ≡ false) → Lives tag g v₀ d l (on s st)
      → EventLeads d l (on s st) (a_keyed_write key n b z)
  keyed-write d l s st key n b z A =
      subst (λ (o : WriteResult). Leads tag g v₀ X l (by_write d n b o)) (sym ((keyed-calls.refused key z).write s st n b))
      (go (state_ok s && (staging_ok s.layout st && sector_ok b)))
    where
      go : (ok : Bool) → Leads tag g v₀ X l (by_write d n b (record { answer = key_refusal ok; state = s; staging = st }))
      go true = kept-as d l (on s st) A
      go false = kept-as d l (on s st) A

  pub plays : (d : Medium) (l : Ledger) (e : Event) (y : Live) → Lives tag g v₀ d l y → EventLeads d l y e
  plays d l a_cut y A = record { lives = stopped (cuts tag g v₀ X d l y A) refl refl; fills = λ q. never q }
  plays d l (an_open st) y A = opens d l st y A
  plays d l (a_write n b) off A = kept-as d l off A
  plays d l (a_write n b) (on s st) A = write_keeps tags g v₀ X d l s st n b A
  plays d l a_flush off A = kept-as d l off A
  plays d l a_flush (on s st) A = flush-keeps tags g v₀ X d l s st A
  plays d l a_step off A = kept-as d l off A
  plays d l a_step (on s st) A = step_keeps tag g v₀ X d l s st A
  plays d l (a_next_store b) off A = kept-as d l off A
  plays d l (a_next_store b) (on s st) A = owners d l s st b A
  plays d l (a_read n b) off A = kept-as d l off A
  plays d l (a_read n b) (on s st) A = kept-as d l (on s st) A
  plays d l (a_keyed_open key st z) off A = keyed-open d l key st z A
  plays d l (a_keyed_open key st z) (on s b) A = kept-as d l (on s b) A
  plays d l (a_keyed_write key n b z) off A = kept-as d l off A
  plays d l (a_keyed_write key n b z) (on s st) A = keyed-write d l s st key n b z A
  plays d l (a_keyed_read key n b z) off A = kept-as d l off A
  plays d l (a_keyed_read key n b z) (on s st) A = kept-as d l (on s st) A

  -- ---- a list of events: the world and the ledger, side by side

  pub lasts : (w : World) (l : Ledger) (es : List Event) → I w l → I (after x w es) (note_all (commit_steps g) l (transcript x w es))
  unfolding after transcript
  lasts w l [] J = J
  lasts w l (e ∷ es) J = lasts (next x w e) (note (commit_steps g) l (noted x w e)) es (plays w.medium l e w.live J.lives)

  -- ---- what a quiet world agrees with

  read-passes : (v : List ℕ) (l : Ledger) (n m : ℕ) (st : List ℕ) → Disk tag g v₀ v l.contents → AtFilling tag g v₀ v l n m st
      → (k : ℕ) (loan : List ℕ) → length loan ≡ 512 → k < g.provided → first_met (read_rows tags (state_at g n m Filling) v st k loan) passed ≡ passed
  read-passes v l n m st D A k loan e h =
      passes (read_rows tags (state_at g n m Filling) v st k loan) passed (
        rw (
          sound tag g v₀ X n m Filling A.staged.count (omega (arith, A.next)) refl,
          sound-volume tag g v₀ X v n m Filling D.sized refl,
          sound-staged tag g v₀ X st n m Filling A.staged.size refl,
          eq-eqb (length loan) 512 e,
        ),
        (refl, (lt-leb g.provided k h, (fit, tt))),
      )
    where
      same_tag : same (tag_at g v k) (tag k (sector_at v (data_at g k))) ≡ true
      same_tag = rw ((A.clean k h).0, (A.clean k h).1) (eq-same (tag k (l.contents k)) (tag k (l.contents k)) refl)

      fit : not (ltb (newest_for g.width st n n k) n) && not (same (tag_at g v k) (tag k (sector_at v (data_at g k)))) ≡ false
      fit = ap (λ (t : Bool). not (ltb (newest_for g.width st n n k) n) && not t) same_tag ∙ and-false (not (ltb (newest_for g.width st n n k) n))

  read-gives : (v : List ℕ) (l : Ledger) (n m : ℕ) (st : List ℕ) → Disk tag g v₀ v l.contents → AtFilling tag g v₀ v l n m st
      → (k : ℕ) (loan : List ℕ) → length loan ≡ 512 → k < g.provided
      → read_of tags (state_at g n m Filling) v st k loan ≡ record { answer = passed; sector = last_for l.batch k (l.contents k) }
  unfolding read_of
  read-gives v l n m st D A k loan e h =
      rw (read-passes v l n m st D A k loan e h)
      (ap (λ (b : List ℕ). record { answer = passed; sector = b }) (newest-last g.width st n k (sector_at v (data_at g k)) ∙ rw (A.batch, (A.clean k h).0)))

  module _ (d : Medium) (l : Ledger) where
    reads-from : (s : State) (st : List ℕ) → Filled tags g v₀ X d l s st → (k : ℕ) (loan : List ℕ) → length loan ≡ 512 → k < g.provided
        → read_of tags s (volume_in d) st k loan ≡ record { answer = passed; sector = last_for l.batch k (l.contents k) }
    reads-from s st (it n m _ D A) = read-gives (volume_in d) l n m st D A

    homes-from : (s : State) (st : List ℕ) → Filled tags g v₀ X d l s st
        → Disk tag g v₀ (volume_in d) l.contents × ((k : ℕ) → k < g.provided → Home g tag (volume_in d) k (l.contents k))
    homes-from s st (it n m _ D A) = (D, A.clean)

    all-home : (y : Live) → Lives tag g v₀ d l y → filling_in y ≡ true
        → Disk tag g v₀ (volume_in d) l.contents × ((k : ℕ) → k < g.provided → Home g tag (volume_in d) k (l.contents k))
    all-home off A f = never f
    all-home (on s st) A f = homes-from s st (filled tags g v₀ X d l s st A f)

  agrees : (w : World) (l : Ledger) → I w l → w.settled ≡ true → Agrees tags g v₀ w l
  agrees w l J q =
      let a = all-home w.medium l w.live J.lives (J.fills q) in
      record {
        home = λ s h. (a.1 s h).0;
        fits = λ s h. (a.1 s h).1;
        reads = λ s st loan n e k h.
            reads-from w.medium l s st
            (filled tags g v₀ X w.medium l s st (subst (Lives tag g v₀ w.medium l) e J.lives) (ap filling_in (sym e) ∙ J.fills q)) n loan k h;
        kept = λ b h. a.0.kept b (before-journal g X.ranged b h);
      }

-- DEMAND 3
pub demand3 : Demand3
demand3 tags g sz v e es q =
    let F : Fresh (tags g.width) g (format_of tags g v).volume = format-fresh tags g v sz e in
    let v₀ : List ℕ = (format_of tags g v).volume in
    let X : Premises (tags g.width) g (format_of tags g v).volume = setting (tags g.width) g sz (format_of tags g v).volume F in
    agrees tags g v₀ X _ _ (lasts tags g v₀ X (begin v₀) start es (starts tags g v₀ X F)) q

-- what gives a digest's length gives tags of T bytes, for every T in range
pub length-tags_by : (d : List ℕ → List ℕ) → ((m : List ℕ) → length (d m) ≡ digest_size) → (t : ℕ) → t ≤ 32 → (s : ℕ) (b : List ℕ) → length (tags_by d t s b) ≡ t
length-tags_by d full t h s b = length-take-le t (d (le 8 s ++ b)) (rw (full (le 8 s ++ b)) h)

pub formatted-length : (d : List ℕ → List ℕ) → ((m : List ℕ) → length (d m) ≡ digest_size) → (g : Layout) (v : List ℕ)
    → (format_of (tags_by d) g v).answer ≡ passed → TagsOf (tags_by d) g.width
formatted-length d full g v e = length-tags_by d full g.width (ranged g (format-layout (tags_by d) g v e)).t.bound

pub formatted-plain : (g : Layout) (v : List ℕ) → (format_of tag_of g v).answer ≡ passed → TagsOf tag_of g.width
formatted-plain = formatted-length sha256 length-sha256

pub demand3-sha256 : Demand3Sha256
demand3-sha256 g v e = demand3 tag_of g (formatted-plain g v e) v e

pub demand3-hmac : Demand3Hmac
demand3-hmac key g v e = demand3 (hmac_tag_of key) g (formatted-length (hmac key) (mac-length key) g v e) v e

-- a volume that format left
pub fresh-opens : FreshOpens
fresh-opens tags g sz v e =
    let F : Fresh (tags g.width) g (format_of tags g v).volume = format-fresh tags g v sz e in
    opens-fresh tags g (format_of tags g v).volume (setting (tags g.width) g sz (format_of tags g v).volume F) F
