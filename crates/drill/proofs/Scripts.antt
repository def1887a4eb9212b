-- A list of events, event by event; and the event that four bytes of a script are.
use Prim.Native.Nat.{ℕ, ◌+◌, ◌*◌}
use mathlib.Core.List.{List, [], ◌∷◌, ◌++◌}
use mathlib.Core.Path.{◌≡◌, refl, sym, ap, ◌∙◌}
use native.Mathlib.Nat.{add-zero}
use native.Mathlib.Numerals.{add-one}
use native.Mathlib.Omega.{arith}
use lib.ListN.{length, get_or, take, drop}
use lib.Seq.{take_at}
use Rattle.std.proofs.lemmas.List.{drop_at}
use Rattle.std.proofs.Common.{drop-drop}
use Rattle.std.specs.Prelude.{Option}
use Rattle.octets.specs.Numbers.{value}
use Rattle.octets.specs.Parts.{part}
use Rattle.octets.proofs.Parts.{get_or-part, part-part}
use Rattle.model.specs.Medium.{volume_in}
use Rattle.model.specs.World.{Event, World, next, after}
use Rattle.drill.specs.Script.{event_size, kind_of, event_by, event_of, event_at, events_up_to}
use Rattle.drill.specs.Played.{setting, staging_next, staging_after}

-- a turn of the loop over the events: i of them are played, the next is in the bytes c, and s is left behind it
module _ (i : ℕ) (script r c s : List ℕ) (er : r ≡ drop (4 * i) script) (e : r ≡ c ++ s) (size : length c ≡ 4) where
  pub rest-turn : s ≡ drop (4 * (i + 1)) script
  rest-turn =
      let n : 4 * (i + 1) ≡ 4 * i + 4 = omega arith in
      let behind : drop 4 r ≡ s = ap (drop 4) e ∙ drop_at c s 4 size in
      rw (n, ← drop-drop, ← er) (sym behind)

  pub is-event : (n : ℕ) → event_by n (kind_of (get_or c 0 0)) (value (part c 1 2)) (get_or c 3 0) ≡ event_at n script i
  unfolding event_of
  is-event n =
      let at : 4 * i ≡ i * event_size = omega arith in
      let block : c ≡ part script (i * event_size) 4 = rw at at (sym (ap (take 4) (sym er ∙ e) ∙ take_at c s 4 size)) in
      rw (block, get_or-part script (i * event_size) 4 0 (omega arith), get_or-part script (i * event_size) 4 3 (omega arith), part-part script (i * event_size) 4 1 2 (omega arith), add-zero) refl

module _ (key : Option (List ℕ)) (r : ℕ) where
  after_more : (w : World) (es : List Event) (e : Event) → after (setting key r) w (es ++ (e ∷ [])) ≡ next (setting key r) (after (setting key r) w es) e
  unfolding after
  after_more w [] e = refl
  after_more w (x ∷ es) e = after_more (next (setting key r) w x) es e

  staging-more : (w : World) (st : List ℕ) (es : List Event) (e : Event)
      → staging_after key r w st (es ++ (e ∷ [])) ≡ staging_next key r (volume_in (after (setting key r) w es).medium) (after (setting key r) w es).live (staging_after key r w st es) e
  unfolding after staging_after
  staging-more w st [] e = refl
  staging-more w st (x ∷ es) e = staging-more (next (setting key r) w x) (staging_next key r (volume_in w.medium) w.live st x) es e

  module _ (w : World) (n i : ℕ) (script : List ℕ) where
    pub world-more : after (setting key r) w (events_up_to n script (i + 1)) ≡ next (setting key r) (after (setting key r) w (events_up_to n script i)) (event_at n script i)
    world-more = rw add-one (after_more w (events_up_to n script i) (event_at n script i))

    pub loan-more : (st : List ℕ) → staging_after key r w st (events_up_to n script (i + 1))
        ≡ staging_next key r (volume_in (after (setting key r) w (events_up_to n script i)).medium) (after (setting key r) w (events_up_to n script i)).live (staging_after key r w st (events_up_to n script i)) (event_at n script i)
    loan-more st = rw add-one (staging-more w st (events_up_to n script i) (event_at n script i))
