-- A step from each phase keeps the invariant.
use Prim.Native.Nat.{ℕ, zero, suc, ◌+◌, ◌-◌, ◌*◌, ◌%◌, ◌^◌, ◌≤◌, ◌<◌}
use mathlib.Core.Bool.{Bool, true, false}
use mathlib.Core.Path.{◌≡◌, refl, sym, ap, ◌∙◌, subst}
use mathlib.Core.Logic.{◌≢◌}
use mathlib.Core.List.{List, [], ◌∷◌, ◌++◌}
use Rattle.std.proofs.Common.{Some}
use native.Mathlib.Omega.{arith}
use native.Mathlib.Decide.{dec_lt, ℕ_discrete}
use native.Mathlib.Numerals.{add-one}
use lib.ListN.{length, get_or, length-append, get_or-append}
use lib.Seq.{get_or_at}
use lib.Dec.{eqb}
use borrow.Author.Tests.{eq-eqb, ne_eqb, lt-ltb, le-ltb, le-leb, lt-leb}
use Rattle.octets.specs.Answer.{taken}
use Rattle.on_disk.specs.Layout.{entry_count, section_size, section_at, needed}
use Rattle.on_disk.specs.Section.{Entry, entry_of, empty_section}
use Rattle.model.specs.Journal.{sealed, greatest_id, Replayed, replay}
use Rattle.model.specs.Tag.{Tag}
use Rattle.model.specs.Store.{one, after_effect, home_store, made, steps_of, home_count, most_home_stores, no_entry}
use Rattle.octets.proofs.Choice.{Unmet, passes}
use Rattle.model.specs.State.{passed, is_filling, volume_loan_ok, place_ok, replay_ok, state_ok, volume_ok, staging_ok, store_ok, staged_ok, in_phase}
use Rattle.model.specs.Step.{range_rows, step_rows, phase_step, step_by, step_of}
use Rattle.model.specs.JournalStep.{commit_steps, commit_step, home_step, write_back_step, recover_step}
use Rattle.model.specs.StepResult.{StepResult}
use Rattle.model.specs.Ledger.{Write, Ledger, entered, note}
use Rattle.model.proofs.Ledger.{still, ticks, enters}
use Rattle.model.specs.Medium.{Medium, volume_in, medium_after}
use Rattle.model.specs.World.{Live, off, on, World, Happened, by_step}
use Rattle.model.proofs.Replays.{mentions, mentions-get, Pass, pass-ends, no_write}
use Rattle.model.proofs.Journals.{every_get, writes, length-writes, write_of_entry, batch_of}
use Rattle.model.proofs.Homes.{Home}
use Rattle.model.proofs.Plans.{At, at_low, at-below, at-get, at_on, at_next, at_last, at_in, home_some, home-most}
use Rattle.model.proofs.Invariant.{Premises, replay-goods, state_at, Good, Disk, Staged, Progress, AtFilling, AtCommit, AtHome, AtRecover, Lives, working, in_filling, in_committing, in_writing_back, in_recovering, disk-home, Advance, further, arrived, advance, replays, tops}
use Rattle.on_disk.proofs.Sections.{length-empty, empty-unused}
use Rattle.model.proofs.Committing.{commit-goes, seal-disk, seal-ends}
use Rattle.on_disk.specs.declared.Layout.{Layout}
use Rattle.model.specs.declared.Phase.{Phase}
use Rattle.model.specs.declared.Phase.TheVariants.{Filling, Committing, WritingBack, Recovering}
use Rattle.model.specs.declared.State.{State}
use Rattle.model.specs.declared.Says.TheVariants as saying

pub never : {A : Type 0} → ◌≡◌ {A = Bool} false true → A
never e = absurd (let z : ◌≡◌ {A = ℕ} 0 1 = cc in omega arith)

-- whether what is live is filling
abbrev pub filling_in : Live → Bool
filling_in off = false
filling_in (on s st) = is_filling s.phase

pub length-batch : (t : ℕ) (st : List ℕ) (n : ℕ) → length (batch_of t st n) ≡ n
length-batch t st zero = refl
length-batch t st (suc n) = length-append (batch_of t st n) (write_of_entry (entry_of t st n) ∷ []) ∙ rw (length-batch t st n) (omega arith)

pub get-batch : (t : ℕ) (st : List ℕ) (n i : ℕ) → i < n → get_or (batch_of t st n) i no_write ≡ write_of_entry (entry_of t st i)
get-batch t st zero i l = absurd (omega arith)
get-batch t st (suc n) i l = go (get-batch t st n i) (ℕ_discrete i n)
  where
    go : (i < n → get_or (batch_of t st n) i no_write ≡ write_of_entry (entry_of t st i)) → Dec (i ≡ n)
        → get_or (batch_of t st n ++ (write_of_entry (entry_of t st n) ∷ [])) i no_write ≡ write_of_entry (entry_of t st i)
    go ih (yes q) =
        subst (λ (x : ℕ). get_or (batch_of t st n ++ (write_of_entry (entry_of t st n) ∷ [])) x no_write ≡ write_of_entry (entry_of t st x)) (sym q)
        (get_or_at (batch_of t st n) (write_of_entry (entry_of t st n)) [] no_write n (length-batch t st n))
    go ih (no q) =
        get_or-append (batch_of t st n) (write_of_entry (entry_of t st n) ∷ []) no_write i (rw (length-batch t st n) (omega arith)) ∙ ih (omega arith)

pub get-writes : (xs : List Replayed) (i : ℕ) (z : Replayed) → i < length xs → get_or (writes xs) i no_write ≡ write_of_entry (get_or xs i z).entry
get-writes [] i z l = absurd (omega arith)
get-writes (x ∷ xs) zero z l = refl
get-writes (x ∷ xs) (suc i) z l = get-writes xs i z (omega arith)

module _ (tag : Tag) (g : Layout) (v₀ : List ℕ) (X : Premises tag g v₀) where
  pub record Inv (w : World) (l : Ledger) : Type 0 where
    pub lives : Lives tag g v₀ w.medium l w.live
    pub fills : w.settled ≡ true → filling_in w.live ≡ true

  pub sound : (n m : ℕ) (p : Phase) → n ≤ entry_count g.width → m ≢ 0 → place_ok g n m p ≡ true → state_ok (state_at g n m p) ≡ true
  unfolding state_ok
  sound n m p h z e = rw (X.layout, le-leb n (entry_count g.width) h, ne_eqb m 0 z, e)

  pub sound-volume : (v : List ℕ) (n m : ℕ) (p : Phase) → length v ≡ length v₀ → replay_ok g v p ≡ true → volume_ok (state_at g n m p) v ≡ true
  unfolding volume_ok
  sound-volume v n m p z e =
      let a : volume_loan_ok v ≡ true = rw z X.loan in
      rw (a, le-leb (needed g * 512) (length v) (rw z X.room), e)

  pub sound-staging : (st : List ℕ) → length st ≡ section_size g.width * 512 → staging_ok g st ≡ true
  unfolding staging_ok
  sound-staging st e = eq-eqb (length st) (section_size g.width * 512) e

  pub sound-staged : (st : List ℕ) (n m : ℕ) (p : Phase) → length st ≡ section_size g.width * 512 → store_ok g st p ≡ true → staged_ok (state_at g n m p) st ≡ true
  unfolding staged_ok
  sound-staged st n m p z e = rw (sound-staging st z, e)

  step-runs : (n m : ℕ) (p : Phase) (v st : List ℕ) → state_ok (state_at g n m p) ≡ true → volume_ok (state_at g n m p) v ≡ true → staged_ok (state_at g n m p) st ≡ true
      → Unmet (range_rows (state_at g n m p) v st p) → step_of (state_at g n m p) v st ≡ phase_step (state_at g n m p) v st p
  unfolding step_of
  step-runs n m p v st a b c u = ap (step_by (state_at g n m p) v st) (passes (step_rows (state_at g n m p) v st) passed (rw (a, b, c), u))

  -- what an event leads to: the world that it leaves, and the ledger that is told of it
  abbrev pub Leads : Ledger → Happened → Type 0
  Leads l x = Inv x.world (note (commit_steps g) l x.told)

  abbrev pub StepLeads : Medium → Ledger → StepResult → Type 0
  StepLeads d l o = Leads l (by_step (medium_after d o.effect) o)

  step-filling : (d : Medium) (l : Ledger) (n m : ℕ) (st : List ℕ) → Disk tag g v₀ (volume_in d) l.contents → AtFilling tag g v₀ (volume_in d) l n m st
      → StepLeads d l (phase_step (state_at g n m Filling) (volume_in d) st Filling)
  step-filling d l n m st D A = record { lives = working n m Filling st (in_filling {n = n} (rw (still l A.to_come) D) (rw (still l A.to_come) A)); fills = λ q. refl }

  -- ---- committing

  commit-stores : (d : Medium) (l : Ledger) (n m j : ℕ) (st : List ℕ) (p : j < section_size g.width) (A : AtCommit tag g v₀ (volume_in d) l n m j st)
      → Dec (j + 1 < section_size g.width) → StepLeads d l (commit_step (state_at g n m (Committing j)) (volume_in d) st j)
  unfolding commit_step
  commit-stores d l n m j st p A (yes q) =
      let m' : ℕ = section_size g.width - (j + 1) in
      let l' : Ledger = record { contents = l.contents; batch = l.batch; to_come = m' ∷ [] } in
      rw (lt-ltb (j + 1) (section_size g.width) q, ticks l (section_size g.width - j) m' A.to_come (omega arith) (omega arith))
      (record {
        lives = working n m (Committing (j + 1)) st (in_committing q (commit-goes tag g v₀ X (volume_in d) l n m j st A p l' refl refl refl));
        fills = λ q. never q;
      })
  commit-stores d l n m j st p A (no q) =
      let l₁ : Ledger = record { contents = l.contents; batch = l.batch; to_come = (section_size g.width - (j + 1)) ∷ [] } in
      let l' : Ledger = record { contents = entered l.contents l.batch; batch = []; to_come = [] } in
      let w : List ℕ = made (volume_in d) (record { at = section_at g ((m - 1) % g.sections) + j; content = sealed g st m j }) in
      let z : j + 1 ≡ section_size g.width = omega arith in
      let B : AtCommit tag g v₀ w l₁ n m (j + 1) st = commit-goes tag g v₀ X (volume_in d) l n m j st A p l₁ refl refl refl in
      rw (le-ltb (j + 1) (section_size g.width) (omega arith), enters l (section_size g.width - j) A.to_come (omega arith))
      (record {
        lives = working n (m + 1) (WritingBack 0 0) st (in_writing_back (seal-disk tag g v₀ X w l₁ n m (j + 1) st B z)
            (seal-ends tag g v₀ X w l₁ n m (j + 1) st B z l' refl refl refl));
        fills = λ q. never q;
      })

  step-commit : (d : Medium) (l : Ledger) (n m j : ℕ) (st : List ℕ) → j < section_size g.width → AtCommit tag g v₀ (volume_in d) l n m j st
      → StepLeads d l (commit_step (state_at g n m (Committing j)) (volume_in d) st j)
  step-commit d l n m j st p A = commit-stores d l n m j st p A (dec_lt (j + 1) (section_size g.width))

  -- ---- bringing entries home

  pub staged-empty : Staged tag g v₀ (empty_section g.width) 0
  staged-empty =
      record {
        size = length-empty g.width X.some;
        count = omega arith;
        goods = λ i l. absurd (omega arith);
        free = λ i a l. empty-unused g.width X.some i l;
      }

  home-stored : (s : State) (v st : List ℕ) (e : Entry) (h : ℕ) (p : Phase) (left : List ℕ)
      → home_step s v st e h false p left
      ≡ record {
        answer = taken (Some (home_store s.layout v e h).at, saying.Nothing);
        state = in_phase s p;
        effect = one (home_store s.layout v e h);
        staging = st;
      }
  unfolding home_step
  home-stored s v st e h p left = refl

  home-effect : (s : State) (v st : List ℕ) (e : Entry) (h : ℕ) (last : Bool) (p : Phase) (left : List ℕ)
      → (home_step s v st e h last p left).effect ≡ one (home_store s.layout v e h)
  unfolding home_step
  home-effect s v st e h true p left = refl
  home-effect s v st e h false p left = refl

  home-filled : (s : State) (v st : List ℕ) (e : Entry) (h : ℕ) (p : Phase) (left : List ℕ)
      → home_step s v st e h true p left
      ≡ record {
        answer = taken (Some (home_store s.layout v e h).at, saying.Filling);
        state = record { layout = s.layout; phase = Filling; count = 0; id = s.id };
        effect = one (home_store s.layout v e h);
        staging = left;
      }
  unfolding home_step
  home-filled s v st e h p left = refl

  module _ (d : Medium) (l : Ledger) (D : Disk tag g v₀ (volume_in d) l.contents) where
    abbrev v : List ℕ
    v = volume_in d

    -- writing back entry i
    module _ (n m i h : ℕ) (st : List ℕ) (A : AtHome tag g v₀ v l n m i h st) where
      abbrev e : Entry
      e = entry_of g.width st i

      abbrev L : List Write
      L = batch_of g.width st n

      G : Good tag g e
      G = A.staged.goods i A.place

      got : get_or L i no_write ≡ write_of_entry e
      got = get-batch g.width st n i A.place

      in-L : i < length L
      in-L = rw (length-batch g.width st n) A.place

      named : mentions (writes (replay g v)) e.sector ≡ true
      named = A.within e.sector (subst (λ (x : Write). mentions L x.sector ≡ true) got (mentions-get L i no_write in-L))

      abbrev w : ℕ → List ℕ
      w h = made v (home_store g v e h)

      disk-now : (h : ℕ) → h < home_count g e → Disk tag g v₀ (w h) l.contents
      disk-now h k = disk-home tag g v₀ X v l.contents D e G h k named

      next-now : (h : ℕ) → h < home_count g e → m ≡ greatest_id g (w h) + 1
      next-now h k = A.next ∙ ap (λ (x : ℕ). x + 1) (sym (tops tag g v₀ X v l.contents D e G h k))

      within-now : (h : ℕ) → h < home_count g e → (s : ℕ) → mentions L s ≡ true → mentions (writes (replay g (w h))) s ≡ true
      within-now h k s q = rw (replays tag g v₀ X v l.contents D e G h k) (A.within s q)

      advanced : Advance tag g v₀ X v l.contents D e G L i h → StepLeads d l (write_back_step (state_at g n m (WritingBack i h)) v st i h)
      advanced (further b p) =
          rw (ne_eqb (h + 1) (home_count g e) (omega arith))
          (subst (StepLeads d l) (sym (home-stored (state_at g n m (WritingBack i h)) v st e h (WritingBack i (h + 1)) (empty_section g.width)))
          (rw (still l A.to_come)
          (record {
            lives = working n m (WritingBack i (h + 1)) st (in_writing_back (disk-now h A.store)
                (record {
                  staged = A.staged;
                  empty = A.empty;
                  to_come = A.to_come;
                  next = next-now h A.store;
                  place = A.place;
                  store = b;
                  within = within-now h A.store;
                  progress = p;
                }));
            fills = λ q. never q;
          })))
      advanced (arrived b p) = go (ℕ_discrete (i + 1) n)
        where
          go : Dec (i + 1 ≡ n) → StepLeads d l (write_back_step (state_at g n m (WritingBack i h)) v st i h)
          go (yes q) =
              rw (eq-eqb (h + 1) (home_count g e) b, eq-eqb (i + 1) n q)
              (subst (StepLeads d l) (sym (home-filled (state_at g n m (WritingBack i h)) v st e h (WritingBack (i + 1) 0) (empty_section g.width)))
              (rw (still l A.to_come)
              (record {
                lives = working 0 m Filling (empty_section g.width) (in_filling (disk-now h A.store)
                    (record {
                      staged = staged-empty;
                      batch = sym A.empty;
                      to_come = A.to_come;
                      next = next-now h A.store;
                      clean = pass-ends g.provided
                          (subst (Pass g.provided (Home g tag (w h)) l.contents L) (sym (length-batch g.width st n ∙ sym q ∙ add-one i)) p);
                    }));
                fills = λ q. refl;
              })))
          go (no q) =
              rw (eq-eqb (h + 1) (home_count g e) b, ne_eqb (i + 1) n q)
              (subst (StepLeads d l) (sym (home-stored (state_at g n m (WritingBack i h)) v st e h (WritingBack (i + 1) 0) (empty_section g.width)))
              (rw (still l A.to_come)
              (record {
                lives = working n m (WritingBack (i + 1) 0) st (in_writing_back {i = i + 1} {h = 0} (disk-now h A.store)
                    (record {
                      staged = A.staged;
                      empty = A.empty;
                      to_come = A.to_come;
                      next = next-now h A.store;
                      place = omega (arith, A.place);
                      store = omega (arith, home_some g (entry_of g.width st (i + 1)));
                      within = within-now h A.store;
                      progress = subst (Pass g.provided (Home g tag (w h)) l.contents L) (sym (add-one i)) p;
                    }));
                fills = λ q. never q;
              })))

    step-home : (n m i h : ℕ) (st : List ℕ) → AtHome tag g v₀ v l n m i h st → StepLeads d l (write_back_step (state_at g n m (WritingBack i h)) v st i h)
    step-home n m i h st A =
        advanced n m i h st A
        (advance tag g v₀ X v l.contents D (entry_of g.width st i) (G n m i h st A) (batch_of g.width st n) i (in-L n m i h st A) (got n m i h st A) h A.store A.progress)

    -- recovering, at store k, which is store h of entry i
    module _ (m k : ℕ) (st : List ℕ) (A : AtRecover tag g v₀ v l m k st) where
      abbrev J : List Replayed
      J = replay g v

      abbrev s : State
      s = state_at g 0 m (Recovering k)

      abbrev ri : ℕ
      ri = A.i

      abbrev x : Replayed
      x = get_or (replay g v) ri no_entry

      abbrev f : Entry
      f = x.entry

      in-J : ri < length J
      in-J = at_low g A.spot

      GJ : Good tag g f
      GJ = every_get (λ y. Good tag g y.entry) J ri no_entry in-J (replay-goods tag g v₀ v l.contents D)

      got_j : get_or (writes J) ri no_write ≡ write_of_entry f
      got_j = get-writes J ri no_entry in-J

      in-W : ri < length (writes J)
      in-W = rw (length-writes J) in-J

      named_j : mentions (writes J) f.sector ≡ true
      named_j = subst (λ (y : Write). mentions (writes J) y.sector ≡ true) got_j (mentions-get (writes J) ri no_write in-W)

      abbrev u : ℕ → List ℕ
      u h = made v (home_store g v f h)

      disk_j : (h : ℕ) → h < home_count g f → Disk tag g v₀ (u h) l.contents
      disk_j h b = disk-home tag g v₀ X v l.contents D f GJ h b named_j

      same_j : (h : ℕ) → h < home_count g f → replay g (u h) ≡ replay g v
      same_j h b = replays tag g v₀ X v l.contents D f GJ h b

      next_j : (h : ℕ) → h < home_count g f → m ≡ greatest_id g (u h) + 1
      next_j h b = A.next ∙ ap (λ (y : ℕ). y + 1) (sym (tops tag g v₀ X v l.contents D f GJ h b))

      abbrev After : ℕ → Type 0
      After h = StepLeads d l (home_step s v st f h (eqb (k + 1) (steps_of g J)) (Recovering (k + 1)) st)

      -- not the last store
      go_on : (h i h' : ℕ) → h < home_count g f → At g J (k + 1) i h' → Progress tag g v₀ (u h) l.contents (writes J) i h' → After h
      go_on h i h' b a p =
          rw (ne_eqb (k + 1) (steps_of g J) (omega (arith, at_in g a)))
          (subst (StepLeads d l) (sym (home-stored s v st f h (Recovering (k + 1)) st))
          (rw (still l A.to_come)
          (record {
            lives = working 0 m (Recovering (k + 1)) st (in_recovering {k = k + 1} (disk_j h b)
                (record {
                  staged = A.staged;
                  empty = A.empty;
                  to_come = A.to_come;
                  next = next_j h b;
                  i = i;
                  h = h';
                  spot = rw (same_j h b) a;
                  progress = rw (same_j h b) p;
                }));
            fills = λ q. never q;
          })))

      ended : (h : ℕ) → h < home_count g f → k + 1 ≡ steps_of g J → Pass g.provided (Home g tag (u h)) l.contents (writes J) (length (writes J)) → After h
      ended h b e p =
          rw (eq-eqb (k + 1) (steps_of g J) e)
          (subst (StepLeads d l) (sym (home-filled s v st f h (Recovering (k + 1)) st))
          (rw (still l A.to_come)
          (record {
            lives = working 0 m Filling st (in_filling (disk_j h b)
                (record
                { staged = A.staged; batch = sym A.empty; to_come = A.to_come; next = next_j h b; clean = pass-ends g.provided p }));
            fills = λ q. refl;
          })))

      recover-store : (h : ℕ) → At g J k ri h → Advance tag g v₀ X v l.contents D f GJ (writes J) ri h → After h
      recover-store h a (further b p) = go_on h ri (h + 1) (at-below g a) (at_on g a b) p
      recover-store h a (arrived b p) = go (ℕ_discrete (ri + 1) (length J))
        where
          go : Dec (ri + 1 ≡ length J) → After h
          go (yes q) =
              let z : suc ri ≡ length (writes J) = omega (arith, length-writes J) in
              ended h (at-below g a) (at_last g a b q) (subst (Pass g.provided (Home g tag (u h)) l.contents (writes J)) z p)
          go (no q) =
              go_on h (suc ri) 0 (at-below g a) (at_next g (λ y. omega (arith, home_some g y.entry)) a b (omega (arith, in-J))) p

      step-recover : StepLeads d l (recover_step (state_at g 0 m (Recovering k)) v st k)
      step-recover =
          rw (at-get g A.spot)
          (recover-store A.h A.spot
          (advance tag g v₀ X v l.contents D f GJ (writes J) ri in-W got_j A.h (at-below g A.spot) A.progress))

      -- the store leaves the replay as it is
      pub replay-stays : replay g (after_effect v (recover_step (state_at g 0 m (Recovering k)) v st k).effect) ≡ replay g v
      replay-stays =
          rw (at-get g A.spot, home-effect (state_at g 0 m (Recovering k)) v st f A.h (eqb (k + 1) (steps_of g J)) (Recovering (k + 1)) st)
          (same_j A.h (at-below g A.spot))

      abbrev pub live-after : StepResult → Live
      live-after o = on o.state o.staging

      -- a store that is not the last leads to the next
      pub recover-next : k + 1 < steps_of g (replay g v) → live-after (recover_step (state_at g 0 m (Recovering k)) v st k) ≡ on (state_at g 0 m (Recovering (k + 1))) st
      unfolding home_step
      recover-next l = rw (at-get g A.spot, ne_eqb (k + 1) (steps_of g (replay g v)) (omega arith))

  -- ---- every live state's step is that of its phase: no rule of the call is met

  sound-runs : (v : List ℕ) (n m : ℕ) (st : List ℕ) (p : Phase) → Staged tag g v₀ st n → m ≢ 0 → place_ok g n m p ≡ true
      → length v ≡ length v₀ → replay_ok g v p ≡ true → store_ok g st p ≡ true → Unmet (range_rows (state_at g n m p) v st p)
      → step_of (state_at g n m p) v st ≡ phase_step (state_at g n m p) v st p
  sound-runs v n m st p S z a b c d u =
      step-runs n m p v st (sound n m p S.count z a) (sound-volume v n m p b c) (sound-staged st n m p S.size d) u

  pub live-runs : (d : Medium) (l : Ledger) (s : State) (st : List ℕ) → Lives tag g v₀ d l (on s st) → step_of s (volume_in d) st ≡ phase_step s (volume_in d) st s.phase
  live-runs d l s st (working n m _ _ (in_filling D A)) = sound-runs (volume_in d) n m st Filling A.staged (omega (arith, A.next)) refl D.sized refl refl tt
  live-runs d l s st (working n m (Committing j) _ (in_committing p A)) =
      sound-runs (volume_in d) n m st (Committing j) A.staged (omega (arith, A.next))
      (rw (lt-ltb j (section_size g.width) p, lt-ltb 0 n A.some, lt-ltb m (2 ^ 64 - 1) A.given))
      (A.torn.long ∙ A.disk.sized) refl refl tt
  live-runs d l s st (working n m (WritingBack i h) _ (in_writing_back D A)) =
      sound-runs (volume_in d) n m st (WritingBack i h) A.staged (omega (arith, A.next))
      (rw (lt-ltb i n A.place, lt-ltb h most_home_stores (omega (arith, A.store, home-most g (entry_of g.width st i)))))
      D.sized refl (lt-ltb h (home_count g (entry_of g.width st i)) A.store) (lt-leb g.provided (entry_of g.width st i).sector (G d l D n m i h st A).low, tt)
  live-runs d l s st (working n m (Recovering k) _ (in_recovering D A)) =
      sound-runs (volume_in d) 0 m st (Recovering k) A.staged (omega (arith, A.next)) refl D.sized (lt-ltb k (steps_of g (replay g (volume_in d))) (at_in g A.spot)) refl
      (rw (at-get g A.spot) (lt-leb g.provided (f d l D m k st A).sector (GJ d l D m k st A).low), tt)

  phase-keeps : (d : Medium) (l : Ledger) (s : State) (st : List ℕ) → Lives tag g v₀ d l (on s st) → StepLeads d l (phase_step s (volume_in d) st s.phase)
  phase-keeps d l s st (working n m _ _ (in_filling D A)) = step-filling d l n m st D A
  phase-keeps d l s st (working n m (Committing j) _ (in_committing p A)) = step-commit d l n m j st p A
  phase-keeps d l s st (working n m (WritingBack i h) _ (in_writing_back D A)) = step-home d l D n m i h st A
  phase-keeps d l s st (working n m (Recovering k) _ (in_recovering D A)) = step-recover d l D m k st A

  pub step_keeps : (d : Medium) (l : Ledger) (s : State) (st : List ℕ) → Lives tag g v₀ d l (on s st) → StepLeads d l (step_of s (volume_in d) st)
  step_keeps d l s st A = subst (StepLeads d l) (sym (live-runs d l s st A)) (phase-keeps d l s st A)
