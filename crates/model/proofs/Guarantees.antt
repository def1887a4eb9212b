-- What holds beside demand 3: each fact from the invariant that holds after every list of calls and cuts.
use Prim.Native.Nat.{ℕ, zero, suc, ◌+◌, ◌-◌, ◌*◌, ◌≤◌, ◌<◌}
use mathlib.Core.Bool.{Bool, true, false, ◌||◌}
use mathlib.Core.Path.{◌≡◌, refl, sym, ap, ◌∙◌, subst}
use mathlib.Core.Logic.{◌≢◌, inr}
use mathlib.Core.List.{List, [], ◌∷◌}
use native.Mathlib.Omega.{arith}
use native.Mathlib.Decide.{dec_lt, ℕ_discrete}
use lib.ListN.{length, replicate}
use lib.Dec.{eqb}
use borrow.Author.Tests.{eq-eqb, ne_eqb, lt-ltb, le-ltb}
use Rattle.octets.specs.Answer.{taken, refusal, refuse, is_taken}
use Rattle.octets.proofs.Answers.{taken-same, refused-not-taken}
use Rattle.hmac.specs.Hmac.{hmac}
use Rattle.hmac.proofs.Theorems.{mac-length}
use Rattle.on_disk.specs.declared.Layout.{Layout}
use Rattle.model.specs.declared.Phase.{Phase}
use Rattle.model.specs.declared.Phase.TheVariants.{Committing, WritingBack, Recovering}
use Rattle.model.specs.declared.State.{State}
use Rattle.on_disk.specs.Layout.{section_size, needed}
use Rattle.on_disk.specs.Section.{Entry, entry_of, empty_section}
use Rattle.model.specs.Journal.{greatest_id, replay}
use Rattle.model.specs.Tag.{Tag, Tags, tag_of, hmac_tag_of}
use Rattle.model.specs.Store.{steps_of}
use Rattle.model.specs.State.{staging_ok, passed}
use Rattle.model.specs.Step.{phase_step, step_of}
use Rattle.model.specs.JournalStep.{commit_step, home_step}
use Rattle.model.specs.Ledger.{has_last, Ledger, start, enters_next}
use Rattle.model.specs.Medium.{Medium, volume_in}
use Rattle.model.specs.World.{setting_of, Setting, Live, off, on, World, an_open, a_step, begin, by_open, happens, next, after}
use Rattle.model.specs.StepResult.{step_acknowledges, step_settles, StepResult}
use Rattle.on_disk.proofs.Addresses.{base-room, data-room, tag-end}
use Rattle.model.proofs.Plans.{at-get}
use Rattle.model.proofs.Invariant.{Premises, state_at, Disk, AtRecover, Lives, stopped, working, in_filling, in_committing, in_writing_back, in_recovering}
use Rattle.model.specs.Open.{opened_state, OpenResult, open_by, open_of}
use Rattle.model.proofs.Steps.{live-runs, replay-stays, recover-next}
use Rattle.model.proofs.Opens.{decoded, open-runs, open-refused}
use Rattle.model.proofs.Replays.{Which, is_true, is_false, which}
use Rattle.model.specs.Format.{format_of}
use Rattle.model.specs.Guarantees.{Outside, Guarantees, Guaranteed, GuaranteedSha256, GuaranteedHmac}
use Rattle.model.proofs.Cuts.{cuts}
use Rattle.model.proofs.Volumes.{part_bytes}
use Rattle.model.proofs.Formats.{Fresh, format-fresh}
use Rattle.model.proofs.Demand3.{formatted-length, formatted-plain, setting, I, starts, plays, lasts}

staging-ok : (g : Layout) (st : List ℕ) → length st ≡ section_size g.width * 512 → staging_ok g st ≡ true
unfolding staging_ok
staging-ok g st e = eq-eqb (length st) (section_size g.width * 512) e

eqb_swap : (a b : ℕ) → eqb a b ≡ eqb b a
eqb_swap a b = go (ℕ_discrete a b)
  where
    go : Dec (a ≡ b) → eqb a b ≡ eqb b a
    go (yes e) = eq-eqb a b e ∙ sym (eq-eqb b a (sym e))
    go (no e) = ne_eqb a b e ∙ sym (ne_eqb b a (λ q. e (sym q)))

-- ---- what a step answers

home-taken : (s : State) (v st : List ℕ) (e : Entry) (h : ℕ) (last : Bool) (p : Phase) (left : List ℕ)
    → (is_taken (home_step s v st e h last p left).answer ≡ true) × (step_acknowledges (home_step s v st e h last p left).answer ≡ false)
unfolding home_step
home-taken s v st e h true p left = (refl, refl)
home-taken s v st e h false p left = (refl, refl)

home-settles : (s : State) (v st : List ℕ) (e : Entry) (h : ℕ) (last : Bool) (p : Phase) (left : List ℕ)
    → step_settles (home_step s v st e h last p left).answer ≡ last
unfolding home_step
home-settles s v st e h true p left = refl
home-settles s v st e h false p left = refl

abbrev Answers : Ledger → StepResult → Type 0
Answers l o = (is_taken o.answer ≡ true) × (step_acknowledges o.answer ≡ enters_next l)

home-answers : (l : Ledger) → l.to_come ≡ [] → (s : State) (v st : List ℕ) (e : Entry) (h : ℕ) (last : Bool) (p : Phase) (left : List ℕ)
    → Answers l (home_step s v st e h last p left)
home-answers l d s v st e h last p left =
    let a = home-taken s v st e h last p left in
    (a.0, a.1 ∙ sym (ap has_last d))

commit-answers : (l : Ledger) (s : State) (v st : List ℕ) (j : ℕ) → l.to_come ≡ (section_size s.layout.width - j) ∷ [] → j < section_size s.layout.width
    → Dec (j + 1 < section_size s.layout.width) → Answers l (commit_step s v st j)
unfolding commit_step
commit-answers l s v st j d p (yes q) = rw (lt-ltb (j + 1) (section_size s.layout.width) q)
    (refl, sym (ap has_last d ∙ ap (λ (b : Bool). b || false) (ne_eqb (section_size s.layout.width - j) 1 (λ z. omega arith))))
commit-answers l s v st j d p (no q) = rw (le-ltb (j + 1) (section_size s.layout.width) (omega arith))
    (refl, sym (ap has_last d ∙ ap (λ (b : Bool). b || false) (eq-eqb (section_size s.layout.width - j) 1 (omega arith))))

module _ (tag : Tag) (g : Layout) (v₀ : List ℕ) where
  phase-answers : (d : Medium) (l : Ledger) (s : State) (st : List ℕ) → Lives tag g v₀ d l (on s st) → Answers l (phase_step s (volume_in d) st s.phase)
  phase-answers d l s st (working n m _ _ (in_filling D A)) = (refl, sym (ap has_last A.to_come))
  phase-answers d l s st (working n m (Committing j) _ (in_committing p A)) =
      commit-answers l (state_at g n m (Committing j)) (volume_in d) st j A.to_come p (dec_lt (j + 1) (section_size g.width))
  phase-answers d l s st (working n m (WritingBack i h) _ (in_writing_back D A)) =
      home-answers l A.to_come (state_at g n m (WritingBack i h)) (volume_in d) st (entry_of g.width st i) h _ _ (empty_section g.width)
  phase-answers d l s st (working n m (Recovering k) _ (in_recovering D A)) =
      rw (at-get g A.spot) (home-answers l A.to_come (state_at g 0 m (Recovering k)) (volume_in d) st _ _ _ _ st)

-- ---- the invariant's facts, after a list of events

module _ (tags : Tags) (g : Layout) (v₀ : List ℕ) (X : Premises (tags g.width) g v₀) where
  abbrev tag : Tag
  tag = tags g.width

  abbrev Keeps : World → Ledger → Type 0
  Keeps = I tags g v₀ X

  runs : (d : Medium) (l : Ledger) (s : State) (st : List ℕ) → Lives tag g v₀ d l (on s st) → step_of s (volume_in d) st ≡ phase_step s (volume_in d) st s.phase
  runs = live-runs tag g v₀ X

  opened : (d : Medium) (l : Ledger) → Disk tag g v₀ (volume_in d) l.contents → (st : List ℕ) → length st ≡ section_size g.width * 512
      → open_of tags g.reserved (volume_in d) st ≡ open_by g (volume_in d) st passed
  opened d l D st e =
      open-runs tags g v₀ X d l D st
      (staging-ok g st e)

  answers : (d : Medium) (l : Ledger) (s : State) (st : List ℕ) → Lives tag g v₀ d l (on s st) → Answers l (step_of s (volume_in d) st)
  answers d l s st A = subst (Answers l) (sym (runs d l s st A)) (phase-answers tag g v₀ d l s st A)

  opens-taken : (d : Medium) (l : Ledger) → Lives tag g v₀ d l off → (st : List ℕ) → length st ≡ section_size g.width * 512
      → is_taken (open_of tags g.reserved (volume_in d) st).answer ≡ true
  opens-taken d l (stopped D b c) st e = rw (opened d l D st e)

  -- ---- the stores of a recovery, one step each

  abbrev r : ℕ
  r = g.reserved

  abbrev x : Setting
  x = setting_of tags g

  recover-settles : (d : Medium) (l : Ledger) (m k : ℕ) (st : List ℕ) → Disk tag g v₀ (volume_in d) l.contents → AtRecover tag g v₀ (volume_in d) l m k st
      → step_settles (step_of (state_at g 0 m (Recovering k)) (volume_in d) st).answer ≡ eqb (k + 1) (steps_of g (replay g (volume_in d)))
  recover-settles d l m k st D A =
      rw (runs d l (state_at g 0 m (Recovering k)) st (working 0 m (Recovering k) st (in_recovering D A)), at-get g A.spot) (home-settles (state_at g 0 m (Recovering k)) (volume_in d) st _ _ _ _ st)

  recovering-at : (d : Medium) (l : Ledger) (s : State) (st : List ℕ) → Lives tag g v₀ d l (on s st) → (k : ℕ) → s.phase ≡ Recovering k
      → Disk tag g v₀ (volume_in d) l.contents × AtRecover tag g v₀ (volume_in d) l s.id k st
  recovering-at d l s st (working n m _ _ (in_filling D A)) k e = absurd (let z : ◌≡◌ {A = ℕ} 0 1 = cc in omega arith)
  recovering-at d l s st (working n m (Committing j) _ (in_committing p A)) k e = absurd (let z : ◌≡◌ {A = ℕ} 0 1 = cc in omega arith)
  recovering-at d l s st (working n m (WritingBack i h) _ (in_writing_back D A)) k e = absurd (let z : ◌≡◌ {A = ℕ} 0 1 = cc in omega arith)
  recovering-at d l s st (working n m (Recovering j) _ (in_recovering D A)) k e =
      let same : j ≡ k = cc in
      (D, subst (λ (i : ℕ). AtRecover tag g v₀ (volume_in d) l m i st) same A)

  back : (d : Medium) (l : Ledger) (m k : ℕ) (st : List ℕ) → Lives tag g v₀ d l (on (state_at g 0 m (Recovering k)) st)
      → Disk tag g v₀ (volume_in d) l.contents × AtRecover tag g v₀ (volume_in d) l m k st
  back d l m k st L = recovering-at d l (state_at g 0 m (Recovering k)) st L k refl

  -- store k is made next: as many steps settle as there are stores from there
  settles : (j : ℕ) (w : World) (l : Ledger) (m k : ℕ) (st : List ℕ) → w.live ≡ on (state_at g 0 m (Recovering k)) st → Lives tag g v₀ w.medium l w.live
      → k + suc j ≤ steps_of g (replay g (volume_in w.medium))
      → (after x w (replicate (suc j) a_step)).settled ≡ eqb (k + suc j) (steps_of g (replay g (volume_in w.medium)))
  unfolding after
  settles zero w l m k st e A h =
      let B = back w.medium l m k st (subst (Lives tag g v₀ w.medium l) e A) in
      let n : k + suc zero ≡ k + 1 = refl in
      rw (e, n) (recover-settles w.medium l m k st B.0 B.1)
  settles (suc j) w l m k st e A h =
      let B = back w.medium l m k st (subst (Lives tag g v₀ w.medium l) e A) in
      let s : State = state_at g 0 m (Recovering k) in
      let one-step = plays tags g v₀ X w.medium l a_step w.live A in
      let same : steps_of g (replay g (volume_in (next x w a_step).medium)) ≡ steps_of g (replay g (volume_in w.medium)) =
      rw (e, runs w.medium l s st (working 0 m (Recovering k) st (in_recovering B.0 B.1)))
      (ap (steps_of g) (replay-stays tag g v₀ X
      w.medium l B.0 m k st B.1)) in
      let live : (next x w a_step).live ≡ on (state_at g 0 m (Recovering (k + 1))) st =
      rw (e, runs w.medium l s st (working 0 m (Recovering k) st (in_recovering B.0 B.1)))
      (recover-next tag g v₀ X w.medium l B.0 m k st B.1 (omega arith)) in
      let sum : k + 1 + suc j ≡ k + suc (suc j) = omega arith in
      settles j (next x w a_step) _ m (k + 1) st live one-step.lives (rw (same, sum) h)
      ∙ rw (same, sum)

  -- ---- open's number

  opened-state : (v : List ℕ) → steps_of g (replay g v) ≢ 0 → opened_state g v ≡ state_at g 0 (greatest_id g v + 1) (Recovering 0)
  opened-state v z = rw (ne_eqb (steps_of g (replay g v)) 0 z)

  opened-next : (w : World) (st : List ℕ) → w.live ≡ off → open_of tags r (volume_in w.medium) st ≡ open_by g (volume_in w.medium) st passed
      → next x w (an_open st) ≡ (by_open w.medium (empty_section g.width) (open_by g (volume_in w.medium) st passed).answer).world
  opened-next w st e o =
      ap (λ (y : Live). (happens x w.medium y (an_open st)).world) e
      ∙ ap (λ (z : OpenResult). (by_open w.medium z.staging z.answer).world) o

  counted : (w : World) (l : Ledger) (st : List ℕ) → w.live ≡ off → Lives tag g v₀ w.medium l w.live
      → open_of tags r (volume_in w.medium) st ≡ open_by g (volume_in w.medium) st passed
      → (k : ℕ) → k ≤ steps_of g (replay g (volume_in w.medium))
      → (after x w (an_open st ∷ replicate k a_step)).settled ≡ eqb k (steps_of g (replay g (volume_in w.medium)))
  unfolding after
  counted w l st e A o zero h =
      ap (λ (z : World). z.settled) (opened-next w st e o) ∙ eqb_swap (steps_of g (replay g (volume_in w.medium))) 0
  counted w l st e A o (suc j) h =
      let v : List ℕ = volume_in w.medium in
      let opening = plays tags g v₀ X w.medium l (an_open st) w.live A in
      let live : (next x w (an_open st)).live ≡ on (state_at g 0 (greatest_id g v + 1) (Recovering 0)) (empty_section g.width) =
      ap (λ (z : World). z.live) (opened-next w st e o)
      ∙ ap (λ (s : State). on s (empty_section g.width)) (opened-state v (omega arith)) in
      let same : (next x w (an_open st)).medium ≡ w.medium = ap (λ (z : World). z.medium) (opened-next w st e o) in
      let sum : 0 + suc j ≡ suc j = omega arith in
      settles j (next x w (an_open st)) _ (greatest_id g v + 1) 0 (empty_section g.width) live opening.lives (rw (same, sum) h)
      ∙ rw (same, sum)

  taken_runs : (d : Medium) (l : Ledger) → Lives tag g v₀ d l off → (st : List ℕ) (s : State) (n : ℕ) → (open_of tags r (volume_in d) st).answer ≡ taken (s, n)
      → (open_of tags r (volume_in d) st ≡ open_by g (volume_in d) st passed) × (n ≡ steps_of g (replay g (volume_in d)))
  taken_runs d l (stopped D b c) st s n e = go (which (staging_ok g st))
    where
      go : Which (staging_ok g st) → (open_of tags r (volume_in d) st ≡ open_by g (volume_in d) st passed) × (n ≡ steps_of g (replay g (volume_in d)))
      go (is_true t) =
          let o : open_of tags r (volume_in d) st ≡ open_by g (volume_in d) st passed =
          open-runs tags g v₀ X d l D st t in
          (o, ap (λ (z : State × ℕ). z.1) (taken-same (s, n) (opened_state g (volume_in d), steps_of g (replay g (volume_in d))) (sym e ∙ ap (λ (z : OpenResult). z.answer) o)))
      go (is_false f) =
          let o : open_of tags r (volume_in d) st ≡ record { answer = refuse 1 []; staging = st } =
          open-refused tags g v₀ X d l D st f in
          absurd (refused-not-taken (refusal 1 []) (s, n) (sym (ap (λ (z : OpenResult). z.answer) o) ∙ e))

  -- ---- what no step changes

  disk : (w : World) (l : Ledger) → Keeps w l → Disk tag g v₀ (volume_in w.medium) l.contents
  disk w l J = cuts tag g v₀ X w.medium l w.live J.lives

  outside_behind : (b : ℕ) → needed g * 512 ≤ b → Outside g b
  outside_behind b h =
      record {
        journal = inr (omega (arith, base-room g X.ranged));
        contents = λ s k. inr (omega (arith, data-room g X.ranged s k));
        tags = λ s k. inr (omega (arith, tag-end g X.ranged s k));
      }

  lives-layout : (d : Medium) (l : Ledger) (s : State) (st : List ℕ) → Lives tag g v₀ d l (on s st) → s.layout ≡ g
  lives-layout d l s st (working n m p _ A) = refl

  all_hold : (w : World) (l : Ledger) → Keeps w l → Guarantees tags g v₀ w l
  all_hold w l J =
      record {
        opens = λ st e h. opens-taken w.medium l (subst (Lives tag g v₀ w.medium l) e J.lives) st h;
        steps = λ s st e. (answers w.medium l s st (subst (Lives tag g v₀ w.medium l) e J.lives)).0;
        acknowledged = λ s st e. (answers w.medium l s st (subst (Lives tag g v₀ w.medium l) e J.lives)).1;
        counts = λ st s n e o k h.
            let a = taken_runs w.medium l (subst (Lives tag g v₀ w.medium l) e J.lives) st s n o in
            rw a.1 (counted w l st e J.lives a.0 k (rw a.1 at h));
        layout = decoded tags g v₀ X w.medium l (disk w l J);
        live = λ s st e. lives-layout w.medium l s st (subst (Lives tag g v₀ w.medium l) e J.lives);
        untouched = λ b o. (disk w l J).kept b o;
        behind = λ a h. part_bytes (volume_in w.medium) v₀ (a * 512) 512 (disk w l J).sized (λ i k. (disk w l J).kept (a * 512 + i) (outside_behind (a * 512 + i) (omega arith)));
      }

pub guaranteed : Guaranteed
guaranteed tags g sz v e es =
    let F : Fresh (tags g.width) g (format_of tags g v).volume = format-fresh tags g v sz e in
    let X : Premises (tags g.width) g (format_of tags g v).volume = setting (tags g.width) g sz (format_of tags g v).volume F in
    all_hold tags g (format_of tags g v).volume X _ _
    (lasts tags g (format_of tags g v).volume X (begin (format_of tags g v).volume) start es (starts tags g (format_of tags g v).volume X F))

pub guaranteed-sha256 : GuaranteedSha256
guaranteed-sha256 g v e = guaranteed tag_of g (formatted-plain g v e) v e

pub guaranteed-hmac : GuaranteedHmac
guaranteed-hmac key g v e = guaranteed (hmac_tag_of key) g (formatted-length (hmac key) (mac-length key) g v e) v e
