-- Advance: one step more, and the steps of a recovery on one scan.
use Prim.Native.Nat.{ℕ, zero, suc, ◌+◌, ◌-◌, ◌*◌, ◌/◌, ◌%◌, ◌≤◌, ◌<◌}
use mathlib.Core.Bool.{Bool, true, false, not, ◌&&◌}
use mathlib.Core.List.{List}
use mathlib.Core.Logic.{◌≢◌}
use mathlib.Core.Path.{◌≡◌, refl, sym, ap, ◌∙◌, subst}
use native.Mathlib.Numerals.{add-one}
use native.Mathlib.Omega.{arith}
use lib.Dec.{leb, ltb, eqb}
use lib.ListN.{length}
use Rattle.std.proofs.Common.{Result, Ok}
use borrow.Author.Tests.{lt-ltb}
use Rattle.octets.specs.Choice.{pick}
use Rattle.octets.specs.Parts.{part, patch}
use Rattle.octets.proofs.Parts.{length_part}
use Rattle.model.specs.declared.Advanced.{Advanced}
use Rattle.on_disk.specs.declared.Layout.{Layout}
use Rattle.model.specs.declared.Phase.{Phase}
use Rattle.model.specs.declared.Phase.TheVariants.{Recovering}
use Rattle.model.specs.declared.State.{State}
use Rattle.model.specs.declared.Refusal.{Refusal}
use Rattle.model.specs.declared.Step.{Step}
use Rattle.model.specs.Refusal.{step_answer}
use Rattle.on_disk.specs.Layout.{most_sectors, entry_count, section_size, section_at, needed, layout_ok}
use Rattle.on_disk.specs.Section.{Entry, entry_of}
use Rattle.model.specs.Journal.{section_of, replay}
use Rattle.model.specs.Store.{made, home_count, home_store, steps_of}
use Rattle.model.specs.Tag.{tag_of}
use Rattle.model.specs.State.{place_ok, volume_loan_ok, state_ok, volume_ok, staging_ok, in_phase}
use Rattle.model.specs.Step.{step_of}
use Rattle.model.specs.StepResult.{step_acknowledges}
use Rattle.model.specs.Advance.{AdvanceResult, done_in, one_more, advance_from}
use Rattle.on_disk.proofs.Addresses.{ranged}
use Rattle.model.proofs.Advances.{all_same, advance-more}
use Rattle.on_disk.proofs.Sections.{bytes-length, tag-length}
use Rattle.model.proofs.Homes.{home-length, home-front}
use Rattle.model.proofs.Journals.{front}
use Rattle.section.specs.declared.Location.{Location}
use Rattle.section.specs.Locations.{Locates}
use Rattle.journal.specs.Replay.{ids_of, entry_store_at, location_at}
use Rattle.journal.proofs.Walks.{located-low, ids-kept, location-kept}
use Rattle.journal.proofs.Recovery.{step-located, step-there, steps_high}
use Rattle.layout.proofs.Sizes.{width-high, section-inside}
use Rattle.stores.specs.declared.changes.Part.{Part}
use Rattle.stores.specs.Asked.{StoreOfEntry}
use Rattle.stores.specs.Changes.{Changes}
use Rattle.volume_step.specs.Results.{Leaves, stored_in_recovery}
use Rattle.volume.specs.Results.{advanced, step_added, Scanned}
use Rattle.model.proofs.States.{state-layout, fit-room, volume-below}
use Rattle.volume_step.proofs.Making.{place-made}

-- ---- one step more

pub made_none : (b : AdvanceResult) → b ≡ advance_from 0 b
unfolding advance_from
made_none b = refl

pub unmoved : (b : Advanced) (s : State) (v st : List ℕ) (n : ℕ) → b.done ≡ 0 → (advanced b s v st ≡ advance_from b.done (advanced b s v st)) × (b.done ≤ n)
unmoved b s v st n z = (made_none (advanced b s v st) ∙ ap (λ (m : ℕ). advance_from m (advanced b s v st)) (sym z), omega arith)

-- m steps, and the others up to n
pub made-rest : (b a r : AdvanceResult) (m n : ℕ) → m ≤ n → a ≡ advance_from m b → r ≡ advance_from (n - m) a → r ≡ advance_from n b
made-rest b a r m n l ea er =
    let all : m + (n - m) ≡ n = omega arith in
    er ∙ ap (advance_from (n - m)) ea ∙ advance-more b m (n - m) ∙ ap (λ (k : ℕ). advance_from k b) all

module _ (last next : Advanced) (r : Result Step Refusal) (e : next ≡ step_added last r) (s : State) (v st : List ℕ) (s' : State) (v' st' : List ℕ)
    (left : Leaves v (step_of s v st) r s' v' st') where
  added : advanced next s' v' st' ≡ one_more (advanced last s v st)
  added =
      ap (λ (a : Advanced). advanced a s' v' st') e
      ∙ (λ i. record {
        answer = left.answer i;
        done = last.done + done_in (left.answer i);
        acknowledged = pick (step_acknowledges (left.answer i)) true last.acknowledged;
        state = left.state i;
        volume = left.volume i;
        staging = left.staging i;
      })

  module _ (b : AdvanceResult) (i : ℕ) (h : advanced last s v st ≡ advance_from i b) where
    reached : advanced next s' v' st' ≡ one_more (advance_from i b)
    reached = added ∙ ap one_more h

    pub made_more : advanced next s' v' st' ≡ advance_from (i + 1) b
    unfolding advance_from
    made_more = reached ∙ ap (λ (n : ℕ). advance_from n b) (sym (add-one i))

    -- the step stored nothing: every further one would be the same
    pub made_all : (n : ℕ) → i < n → done_in (step_answer r) ≡ 0 → advanced next s' v' st' ≡ advance_from n b
    made_all n l q =
        let m : ℕ = n - suc i in
        let count : i + suc m ≡ n = omega arith in
        let quiet : done_in (one_more (advance_from i b)).answer ≡ 0 =
        sym (ap (λ (a : AdvanceResult). done_in a.answer) reached) ∙ ap (λ (a : Advanced). done_in (step_answer a.answer)) e ∙ q in
        reached ∙ sym (all_same (advance_from i b) m quiet) ∙ advance-more b i (suc m) ∙ ap (λ (k : ℕ). advance_from k b) count

-- ---- a store of a recovery

-- the store that x names leaves the volume's length and its front as they were
module _ (g : Layout) (ok : layout_ok g ≡ true) (v : List ℕ) (room : needed g * 512 ≤ length v) (x : Location) (l : x.section < g.sections) (h : x.entry < entry_count g.width)
    (one_of_lem : x.store < home_count g (entry_of g.width (section_of g v x.section) x.entry)) where
  abbrev entry : Entry
  entry = entry_of g.width (section_of g v x.section) x.entry

  section-length : length (section_of g v x.section) ≡ section_size g.width * 512
  section-length = length_part v (section_at g x.section * 512) (section_size g.width * 512) (omega (arith, section-inside g ok (length v) x.section room l))

  whole : length entry.bytes ≡ 512
  whole = bytes-length g.width x.entry (width-high g ok) h (section_of g v x.section) section-length

  sized : length entry.tag ≡ g.width
  sized = tag-length g.width x.entry (width-high g ok) h (section_of g v x.section) section-length

  module _ (low : entry.sector < g.provided) (v' : List ℕ) (home : v' ≡ made v (home_store g v entry x.store)) where
    length-same : length v ≡ length v'
    length-same = sym (ap length home ∙ home-length g (ranged g ok) (tag_of g.width) v room entry low whole sized x.store one_of_lem)

    front_same : front g v ≡ front g v'
    front_same = sym (ap (front g) home ∙ home-front g (ranged g ok) (tag_of g.width) v room entry low whole sized x.store one_of_lem)

-- ---- a recovery

-- what i steps of a recovery from the state s at store k on hand back, and the state after them; the last stored sector `at`, and `more` says whether there
-- is a store after it
abbrev pub result_of : Advanced → State → ℕ → ℕ → ℕ → Bool → Advanced × State
result_of b s k zero at more = (b, s)
result_of b s k (suc i) at more =
    (record { answer = Ok (stored_in_recovery s at (k + suc i) more).0; done = suc i; acknowledged = b.acknowledged }, (stored_in_recovery s at (k + suc i) more).1)

-- What holds between two steps of a recovery that began with b and the state s on the volume v₀, at store k: i stores were made, the last to sector `at`,
-- and left the volume v; x is the next.
pub record Underway (b : Advanced) (s : State) (v₀ : List ℕ) (k : ℕ) (ids : List ℕ) (i at : ℕ) (x : Location) (v : List ℕ) : Type 0 where
  pub none : b.done ≡ 0
  pub sound : state_ok s ≡ true
  pub phase : s.phase ≡ Recovering k
  pub reach : (st : List ℕ) → staging_ok s.layout st ≡ true
      → advanced (result_of b s k i at (ltb x.section s.layout.sections)).0 (result_of b s k i at (ltb x.section s.layout.sections)).1 v st
      ≡ advance_from i (advanced b s v₀ st)
  pub fit : volume_loan_ok v && leb (needed s.layout * 512) (length v) ≡ true
  pub scan : ids ≡ ids_of s.layout v
  pub next : x ≡ location_at s.layout v (k + i)

pub begins : (b : Advanced) (s : State) (k : ℕ) (v₀ ids : List ℕ) → Scanned b s k v₀ ids
    → (x : Location) → x ≡ location_at s.layout v₀ k → (at : ℕ) → Underway b s v₀ k ids 0 at x v₀
unfolding advance_from
begins b s k v₀ ids q x e at =
    record {
      none = q.0;
      sound = q.1;
      phase = q.3;
      reach = λ st q. refl;
      fit = q.2;
      scan = q.4;
      next = e ∙ ap (location_at s.layout v₀) {x = k} {y = k + 0} (omega arith);
    }

state-recovering : (s : State) → state_ok s ≡ true → (k j : ℕ) → s.phase ≡ Recovering k → state_ok (in_phase s (Recovering j)) ≡ true
unfolding state_ok
state-recovering s sound k j q =
    ap (λ (p : Phase). layout_ok s.layout && (leb s.count (entry_count s.layout.width) && (not (eqb s.id 0) && place_ok s.layout s.count s.id p)))
    (sym q) ∙ sound

-- the state and the count that i steps leave, with more to come
module _ (b : Advanced) (s : State) (none : b.done ≡ 0) (k : ℕ) (phase : s.phase ≡ Recovering k) (at : ℕ) where
  state-after : (i : ℕ) → (result_of b s k i at true).1 ≡ in_phase s (Recovering (k + i))
  state-after zero =
      let same : k ≡ k + 0 = omega arith in
      λ i. record { layout = s.layout; phase = (phase ∙ ap Recovering same) i; count = s.count; id = s.id }
  state-after (suc i) = refl

  done-after : (i : ℕ) → (result_of b s k i at true).0.done ≡ i
  done-after zero = none
  done-after (suc i) = refl

  acknowledged-after : (i : ℕ) → (result_of b s k i at true).0.acknowledged ≡ b.acknowledged
  acknowledged-after zero = refl
  acknowledged-after (suc i) = refl

  counted : (i : ℕ) → suc i ≡ (result_of b s k i at true).0.done + 1
  counted i = omega (arith, done-after i)

  -- one step more
  result-next : (i at' : ℕ) (more : Bool) → (result_of b s k (suc i) at' more).0 ≡ step_added (result_of b s k i at true).0 (Ok (stored_in_recovery s at' (k + suc i) more).0)
  result-next i at' true = λ j. record { answer = Ok (stored_in_recovery s at' (k + suc i) true).0; done = counted i j; acknowledged = sym (acknowledged-after i) j }
  result-next i at' false = λ j. record { answer = Ok (stored_in_recovery s at' (k + suc i) false).0; done = counted i j; acknowledged = sym (acknowledged-after i) j }

module _ {b : Advanced} {s : State} {v₀ : List ℕ} {k : ℕ} {ids : List ℕ} {i at : ℕ} {x : Location} {v : List ℕ} (u : Underway b s v₀ k ids i at x v) where
  abbrev g : Layout
  g = s.layout

  ok : layout_ok g ≡ true
  ok = state-layout s u.sound

  pub ok-here : (layout_ok g ≡ true) × (needed g * 512 ≤ length v)
  ok-here = (ok, fit-room s v u.fit)

  -- there is a store to be made
  pub is-next : x.section ≢ g.sections → x.section < g.sections
  is-next = located-low g v ok (k + i) x u.next

  module _ (l : x.section < g.sections) where
    abbrev here : State
    here = in_phase s (Recovering (k + i))

    abbrev at-hand : Entry
    at-hand = entry_of g.width (section_of g v x.section) x.entry

    -- what next_location asks for
    pub continues : (layout_ok g ≡ true) × (needed g * 512 ≤ length v) × (ids ≡ ids_of g v) × (x.section < g.sections) × ((n : ℕ) × (x ≡ location_at g v n))
    continues = (ok, ok-here.1, u.scan, l, (k + i, u.next))

    pub there : (k + i < steps_of g (replay g v)) × Locates g (section_of g v x.section) x (entry_store_at g v (k + i))
    there = step-located g v ok (k + i) x u.next l

    pub low : k + i < 47616
    low = omega (arith, there.0, steps_high g v ok)

    -- what replayed_part asks for
    pub entry_here : (sector : ℕ) → sector ≡ at-hand.sector → sector < g.provided → StoreOfEntry g (section_of g v x.section) x.entry sector x.store
    entry_here sector es below =
        record { layout = ok; long = section-length g ok v ok-here.1 x l there.1.entry there.1.store; entry = there.1.entry; is = es; low = below; store = there.1.store }

    sound-here : state_ok here ≡ true
    sound-here = state-recovering s u.sound k (k + i) u.phase

    fits-here : volume_ok here v ≡ true
    fits-here = volume-below here v u.fit (k + i) refl there.0

    module _ (sector : ℕ) (es : sector ≡ at-hand.sector) (below : sector < g.provided) (p : Part) (content : List ℕ)
        (changes : Changes v (home_store g v at-hand x.store) p content) where
      below-here : at-hand.sector < g.provided
      below-here = omega (arith, es)

      abbrev at' : ℕ
      at' = p.byte / 512

      module _ (v' : List ℕ) (put : v' ≡ patch v p.byte (part content 0 p.size)) where
        home : (at' ≡ (home_store g v at-hand x.store).at) × (v' ≡ made v (home_store g v at-hand x.store))
        home = (changes.sector, put ∙ changes.stored)

        sized_same : length v ≡ length v'
        sized_same = length-same g ok v ok-here.1 x l there.1.entry there.1.store below-here v' home.1

        same : front g v ≡ front g v'
        same = front_same g ok v ok-here.1 x l there.1.entry there.1.store below-here v' home.1

        module _ (y : Location) (ey : (n : ℕ) → x ≡ location_at g v n → y ≡ location_at g v (n + 1)) where
          next-is : y ≡ location_at g v' (k + suc i)
          next-is = ey (k + i) u.next ∙ location-kept g v v' same (k + i + 1) ∙ ap (location_at g v') {x = k + i + 1} {y = k + suc i} (omega arith)

          more-is : ltb y.section g.sections ≡ ltb (k + i + 1) (steps_of g (replay g v))
          more-is = step-there g v ok (k + i + 1) y (ey (k + i) u.next)

          abbrev stepped : Step × State
          stepped = stored_in_recovery s at' (k + suc i) (ltb y.section g.sections)

          makes : (st : List ℕ) → staging_ok g st ≡ true → Leaves v (step_of here v st) (Ok stepped.0) stepped.1 v' st
          makes st q =
              place-made here v st sound-here fits-here q (k + i) refl x there.1 sector es below at' v' home stepped (ltb y.section g.sections) more-is
              (ap (λ (n : ℕ). stored_in_recovery here at' n (ltb y.section g.sections)) {x = k + suc i} {y = k + i + 1} (omega arith))

          fit_next : volume_loan_ok v' && leb (needed g * 512) (length v') ≡ true
          fit_next = subst (λ (n : ℕ). (eqb (n % 512) 0 && leb n (most_sectors * 512)) && leb (needed g * 512) n ≡ true) sized_same u.fit

          abbrev after : ℕ → Advanced × State
          after n = result_of b s k n at' (ltb y.section g.sections)

          reach-next : (st : List ℕ) → staging_ok g st ≡ true → advanced (after (suc i)).0 (after (suc i)).1 v' st ≡ advance_from (i + 1) (advanced b s v₀ st)
          reach-next st q =
              let last : Advanced × State = result_of b s k i at true in
              made_more last.0 (after (suc i)).0 (Ok stepped.0)
              (result-next b s u.none k u.phase at i at' (ltb y.section g.sections)) last.1 v st stepped.1 v' st
              (subst (λ (s' : State). Leaves v (step_of s' v st) (Ok stepped.0) stepped.1 v' st) (sym (state-after b s u.none k u.phase at i)) (makes st q))
              (advanced b s v₀ st) i
              (ap (λ (m : Bool). advanced (result_of b s k i at m).0 (result_of b s k i at m).1 v st) (sym (lt-ltb x.section g.sections l)) ∙ u.reach st q)

          pub again : Underway b s v₀ k ids (i + 1) at' y v'
          again =
              let one_on : suc i ≡ i + 1 = omega arith in
              record {
                none = u.none;
                sound = u.sound;
                phase = u.phase;
                reach = λ st q. ap (λ (n : ℕ). advanced (after n).0 (after n).1 v' st) (sym one_on) ∙ reach-next st q;
                fit = fit_next;
                scan = u.scan ∙ ids-kept g v v' same;
                next = next-is ∙ ap (λ (n : ℕ). location_at g v' (k + n)) one_on;
              }
