-- The store of a step, told and made: specs/NextStore.
use Prim.Native.Nat.{ℕ, zero, suc, ◌+◌, ◌*◌, ◌≤◌, ◌<◌}
use mathlib.Core.Bool.{Bool, true, false, ◌&&◌}
use mathlib.Core.List.{List, [], ◌∷◌}
use mathlib.Core.Path.{◌≡◌, refl, sym, ◌∙◌, subst}
use native.Mathlib.Nat.{mod-lt}
use native.Mathlib.Omega.{arith}
use lib.Dec.{leb, ltb}
use lib.ListN.{length, take, drop, length-take, length-drop}
use borrow.Author.Tests.{leb-false}
use Rattle.octets.specs.Answer.{Refusal, refused, refusal, refuse}
use Rattle.octets.specs.Choice.{first_met}
use Rattle.octets.specs.Sectors.{sector_at}
use Rattle.octets.proofs.Parts.{length_part, length-patch}
use Rattle.octets.specs.Parts.{patch}
use Rattle.on_disk.specs.declared.Layout.{Layout}
use Rattle.model.specs.declared.Phase.{Phase}
use Rattle.model.specs.declared.Phase.TheVariants.{Filling, Committing, WritingBack, Recovering}
use Rattle.model.specs.declared.State.{State}
use Rattle.on_disk.specs.Layout.{section_size, base, tag_sector, tag_offset, first_piece, needed}
use Rattle.on_disk.specs.Section.{Entry}
use Rattle.model.specs.Journal.{section_for, replay}
use Rattle.model.specs.Store.{after_effect, content_of, home_count, home_store, store_of, RecoveryStep, storing, recovery_step_at}
use Rattle.model.specs.State.{passed, state_ok, volume_ok, staged_ok, sector_ok}
use Rattle.model.specs.Step.{recovery_row, range_rows, phase_step, step_by, step_of}
use Rattle.model.specs.JournalStep.{staged_entry, commit_store, commit_step, home_step, recover_at}
use Rattle.model.specs.StepResult.{StepResult}
use Rattle.model.specs.NextStore.{next_store_of, store_named, Placed, Within, sector_named, sector_stored, StepStores}
use Rattle.on_disk.proofs.Addresses.{and_both, Ranged, ranged, data-high, tag-high, data-room, tag-offset, tag-room, next-room, section-low, base-room}
use Rattle.on_disk.proofs.Sections.{bytes-length, tag-length}
use Rattle.model.proofs.Journals.{length-sealed}
use Rattle.model.proofs.Replays.{Which, is_true, is_false, which}
use Rattle.model.proofs.Entries.{Complete, replay-complete, StepFor, step-every}
use Rattle.model.proofs.Plans.{home-crosses}
use Rattle.model.proofs.States.{state-layout, staged-length, staged-store, state-committing, state-writing-back, volume-room, volume-replay}

-- ---- a store of a step lies in the layout

module _ (s : State) (v st : List ℕ) where
  -- what is said of a step's result
  record Stores (o : StepResult) : Type 0 where
    within : Within s.layout v o.effect
    sector : sector_named o.answer ≡ sector_stored o.effect
    made : (out : List ℕ) → store_named v o.answer (content_of out o.effect) ≡ after_effect v o.effect

  refusing : (r : Refusal ℕ) → Stores (step_by s v st (refused r))
  refusing r = record { within = tt; sector = refl; made = λ out. refl }

  module _ (sound : state_ok s ≡ true) (fits : volume_ok s v ≡ true) (staging : staged_ok s st ≡ true) where
    abbrev g : Layout
    g = s.layout

    R : Ranged g
    R = ranged g (state-layout s sound)

    room : needed g * 512 ≤ length v
    room = volume-room s v fits

    staged : length st ≡ section_size g.width * 512
    staged = staged-length s st staging

    committing : (j : ℕ) → s.phase ≡ Committing j → Stores (commit_step s v st j)
    unfolding commit_step
    committing j q = go (which (ltb (j + 1) (section_size g.width)))
      where
        low : j < section_size g.width
        low = (state-committing s sound j q).0

        section : section_for g s.id < g.sections
        section = mod-lt _ (omega (arith, R.s-low))

        placed : Placed g v (commit_store s v st j)
        placed =
            record {
              behind = omega arith;
              inside = omega (arith, low, section-low g R (section_for g s.id) section, base-room g R);
              lent = room;
              whole = length-sealed g st s.id j staged low;
            }

        go : Which (ltb (j + 1) (section_size g.width)) → Stores (commit_step s v st j)
        go (is_true e) = rw e (record { within = placed; sector = refl; made = λ out. refl })
        go (is_false e) = rw e (record { within = placed; sector = refl; made = λ out. refl })

    module _ (e : Entry) (low : e.sector < g.provided) (whole : length e.bytes ≡ 512) (sized : length e.tag ≡ g.width) where
      -- a sector with some bytes of the tag replaced
      tag-placed : (a off : ℕ) (x : List ℕ) → base g ≤ a → a + 1 ≤ needed g → off + length x ≤ 512
          → Placed g v (record { at = a; content = patch (sector_at v a) off x })
      tag-placed a off x low high fit =
          let sector : length (sector_at v a) ≡ 512 = length_part v (a * 512) 512 (omega (arith, high, room)) in
          record { behind = omega arith; inside = omega arith; lent = room; whole = length-patch (sector_at v a) off x (omega arith) ∙ sector }

      home-placed : (h : ℕ) → h < home_count g e → Placed g v (home_store g v e h)
      home-placed zero l =
          record {
            behind = omega (arith, data-high g R e.sector);
            inside = omega (arith, data-room g R e.sector low);
            lent = room;
            whole = whole;
          }
      home-placed (suc zero) l =
          tag-placed (tag_sector g e.sector) (tag_offset g e.sector) (take (first_piece g e.sector) e.tag)
          (tag-high g R e.sector) (tag-room g R e.sector low)
          (omega (arith, length-take (first_piece g e.sector) e.tag, tag-offset g R e.sector))
      home-placed (suc (suc h)) l =
          tag-placed (tag_sector g e.sector + 1) 0 (drop (first_piece g e.sector) e.tag)
          (omega (arith, tag-high g R e.sector)) (omega (arith, next-room g R e.sector low (home-crosses g e (omega arith))))
          (omega (arith, length-drop (first_piece g e.sector) e.tag, R.t.bound))

      bringing : (h : ℕ) → h < home_count g e → (last : Bool) (p : Phase) (left : List ℕ) → Stores (home_step s v st e h last p left)
      unfolding home_step
      bringing h l true p left = record { within = home-placed h l; sector = refl; made = λ out. refl }
      bringing h l false p left = record { within = home-placed h l; sector = refl; made = λ out. refl }

    -- a phase with a row, and what its step does where that is not met
    by_row : (b : Bool) (r : Refusal ℕ) → (b ≡ false → Stores (phase_step s v st s.phase)) → Stores (step_by s v st (first_met ((b, refused r) ∷ []) passed))
    by_row true r f = refusing r
    by_row false r f = f refl

    at-phase : (p : Phase) → s.phase ≡ p → Stores (phase_step s v st p) → Stores (phase_step s v st s.phase)
    at-phase p q n = subst (λ (x : Phase). Stores (phase_step s v st x)) (sym q) n

    writing-back : (i h : ℕ) → s.phase ≡ WritingBack i h → Stores (step_by s v st (first_met (range_rows s v st (WritingBack i h)) passed))
    writing-back i h q =
        let i-low = (state-writing-back s sound i h q).1 in
        by_row (leb g.provided (staged_entry s st i).sector) (refusal 6 (i ∷ []))
        (λ n. at-phase (WritingBack i h) q
        (bringing (staged_entry s st i) (leb-false g.provided (staged_entry s st i).sector n)
        (bytes-length g.width i R.t.bound i-low st staged) (tag-length g.width i R.t.bound i-low st staged) h (staged-store s st staging i h q) _ _ _))

    recovering : (k : ℕ) → s.phase ≡ Recovering k → (p : RecoveryStep) → recovery_step_at g v k ≡ p → StepFor g (Complete g) p → Stores (step_by s v st (first_met (recovery_row g p ∷ []) passed))
    recovering k q (storing (store_of x h)) e c =
        by_row (leb g.provided x.entry.sector) (refusal 6 (x.section ∷ x.index ∷ []))
        (λ n. at-phase (Recovering k) q
        (subst (λ (y : RecoveryStep). Stores (recover_at s v st k y)) (sym e)
        (bringing x.entry (leb-false g.provided x.entry.sector n) c.0.whole c.0.sized h c.1 _ _ _)))

    by-phase : (p : Phase) → s.phase ≡ p → Stores (step_by s v st (first_met (range_rows s v st p) passed))
    by-phase Filling q = at-phase Filling q (record { within = tt; sector = refl; made = λ out. refl })
    by-phase (Committing j) q = at-phase (Committing j) q (committing j q)
    by-phase (WritingBack i h) q = writing-back i h q
    by-phase (Recovering k) q =
        recovering k q (recovery_step_at g v k) refl (step-every g (Complete g) (replay g v) (replay-complete g R v room) k (volume-replay s v fits k q))

  stores : Stores (step_of s v st)
  unfolding step_of
  stores = go (which (state_ok s && (volume_ok s v && staged_ok s st)))
    where
      go : Which (state_ok s && (volume_ok s v && staged_ok s st)) → Stores (step_of s v st)
      go (is_false e) = rw e (refusing (refusal 1 []))
      go (is_true e) =
          let a = and_both (state_ok s) _ e in
          let b = and_both (volume_ok s v) _ a.1 in
          rw e (by-phase a.0 b.0 b.1 s.phase refl)

  pub next-told : (out : List ℕ) → sector_ok out ≡ true → next_store_of s v st out ≡ step_of s v st
  unfolding next_store_of step_of
  next-told out e = rw e

  pub step-stores : StepStores s v st
  step-stores = record { within = stores.within; sector = stores.sector; told = next-told; made = stores.made }

  pub next-refused : (out : List ℕ) → sector_ok out ≡ false → next_store_of s v st out ≡ step_by s v st (refuse 1 [])
  unfolding next_store_of
  next-refused out e = rw e
