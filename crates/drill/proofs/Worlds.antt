-- Drills, event by event, and a whole drill.
use Prim.Native.Nat.{ℕ, ◌+◌}
use mathlib.Core.Bool.{Bool, true, false, true≢false}
use mathlib.Core.List.{List, []}
use mathlib.Core.Path.{◌≡◌, refl, sym, ap, ◌∙◌, subst}
use lib.ListN.{length}
use Rattle.std.specs.Prelude.{Option, Some, None, Result, Ok, Err}
use Rattle.octets.specs.Answer.{taken, refused, is_taken}
use Rattle.hmac.specs.Hmac.{key_ok}
use Rattle.model.specs.Tag.{tag_of}
use Rattle.model.specs.State.{Verdict, passed, volume_loan_ok}
use Rattle.model.specs.Keyed.{format_keyed_of, key_refusal}
use Rattle.model.specs.JournalStep.{commit_steps}
use Rattle.model.specs.Ledger.{ledger_of}
use Rattle.model.proofs.Keyed.{keyed-calls}
use Rattle.model.proofs.Replays.{Which, which, is_true, is_false}
use Rattle.model.specs.Refusal.{answer_by, plain_answer}
use Rattle.model.specs.Format.{FormatResult, format_of}
use Rattle.model.specs.Medium.{volume_in}
use Rattle.model.specs.World.{Event, World, next, begin, after, transcript}
use Rattle.model.specs.Demand3.{Agrees, Demand3For}
use Rattle.model.proofs.Demand3.{demand3-sha256, demand3-hmac}
use Rattle.model.specs.declared.Refusal.{Refusal}
use Rattle.on_disk.specs.declared.Layout.{Layout}
use Rattle.drill.specs.declared.Moment.{Moment}
use Rattle.drill.specs.Script.{event_at, events_up_to, events_of}
use Rattle.drill.specs.Played.{tags_for, setting, at_rest, last_of, live_of, world_of, staging_next, staging_after, Turn, Ran, played_by, Plays}
use Rattle.drill.proofs.Scripts.{world-more, loan-more}

module _ (key : Option (List ℕ)) (r : ℕ) (v₀ st₀ : List ℕ) where
  -- before the first event
  pub begins : (m : Moment) → m ≡ at_rest None → Ran key r v₀ st₀ [] m v₀ st₀
  unfolding after staging_after
  begins m q = record { world = ap (λ (y : Moment). world_of y v₀ st₀) q; staging = refl }

  -- one event more
  module _ (n i : ℕ) (script v st v' st' : List ℕ) (m m' : Moment) (before : Ran key r v₀ st₀ (events_up_to n script i) m v st) where
    pub event-played : (e : Event) → Turn key r v (live_of m.live st) st e m' v' st' → e ≡ event_at n script i
        → Ran key r v₀ st₀ (events_up_to n script (i + 1)) m' v' st'
    event-played e turn is =
        record {
          world = turn.world
              ∙ ap (λ (x : Event). next (setting key r) (world_of m v st) x) is
              ∙ ap (λ (w : World). next (setting key r) w (event_at n script i)) before.world
              ∙ sym (world-more key r (begin v₀) n i script);
          staging = turn.staging
              ∙ (λ j. staging_next key r (volume_in (before.world j).medium) (before.world j).live (before.staging j) (is j))
              ∙ sym (loan-more key r (begin v₀) n i script st₀);
        }

-- ---- a whole drill

-- what format leaves on v, with those tags and as they are given: demand 3 holds of it
pub record Formats (key : Option (List ℕ)) (g : Layout) (v : List ℕ) (o : FormatResult) : Type 0 where
  pub demand : Demand3For (tags_for key) g v
  pub made : is_taken o.answer ≡ true → o ≡ format_of (tags_for key) g v

module _ (key : Option (List ℕ)) (g : Layout) (v : List ℕ) (o : FormatResult) (by : Formats key g v o) (script st : List ℕ) where
  Demand : Verdict → Type 0
  Demand y = (after (setting key g.reserved) (begin o.volume) (played_by y script st)).settled ≡ true
      → Agrees (tags_for key) g o.volume (after (setting key g.reserved) (begin o.volume) (played_by y script st))
      (ledger_of (commit_steps g) (transcript (setting key g.reserved) (begin o.volume) (played_by y script st)))

  agreeing : (y : Verdict) → o.answer ≡ y → Demand y
  unfolding Demand after
  agreeing (taken x) e =
      let is : o ≡ format_of (tags_for key) g v = by.made (ap is_taken e) in
      let answered : (format_of (tags_for key) g v).answer ≡ passed = sym (ap (λ (f : FormatResult). f.answer) is) ∙ e in
      subst (λ (w : List ℕ). (after (setting key g.reserved) (begin w) (events_of (length st) script)).settled ≡ true
      → Agrees (tags_for key) g w (after (setting key g.reserved) (begin w) (events_of (length st) script))
      (ledger_of (commit_steps g) (transcript (setting key g.reserved) (begin w) (events_of (length st) script))))
      (sym (ap (λ (f : FormatResult). f.volume) is)) (by.demand answered (events_of (length st) script))
  agreeing (refused x) e = λ t. absurd (true≢false (sym t))

  plays : (p : Result Moment Refusal) (v₁ v' st' : List ℕ) → record { answer = answer_by (λ m. tt) p; volume = v₁ } ≡ o
      → Ran key g.reserved v₁ st (played_by (answer_by (λ m. tt) p) script st) (last_of p) v' st' → Plays key g o script st p v' st'
  unfolding Demand
  plays p v₁ v' st' is l =
      let world : world_of (last_of p) v' st' ≡ after (setting key g.reserved) (begin o.volume) (played_by o.answer script st) =
      l.world ∙ (λ j. after (setting key g.reserved) (begin (is j).volume) (played_by (is j).answer script st)) in
      record {
        format = ap (λ (x : FormatResult). x.answer) is;
        events = record {
          world = world;
          staging = l.staging ∙ (λ j. staging_after key g.reserved (begin (is j).volume) st (played_by (is j).answer script st));
        };
        agrees = λ t.
            subst
            (λ (w : World). Agrees (tags_for key) g o.volume w (ledger_of (commit_steps g) (transcript (setting key g.reserved) (begin o.volume) (played_by o.answer script st))))
            (sym world)
            (agreeing o.answer refl (sym (ap (λ (w : World). w.settled) world) ∙ t));
      }

  -- where format answered a, and left v₁: nothing was played, or all was
  module _ (a : Result (Unit {0}) Refusal) (v₁ : List ℕ) (is : record { answer = plain_answer a; volume = v₁ } ≡ o) where
    given : (b : Result (Unit {0}) Refusal) → a ≡ b → record { answer = plain_answer b; volume = v₁ } ≡ o
    given b e = ap (λ (y : Result (Unit {0}) Refusal). record { answer = plain_answer y; volume = v₁ }) (sym e) ∙ is

    pub none-played : (p : Result Moment Refusal) (x : Refusal) → a ≡ Err x → p ≡ Err x → Plays key g o script st p v₁ st
    none-played p x e q =
        subst (λ (y : Result Moment Refusal). Plays key g o script st y v₁ st) (sym q) (plays (Err x) v₁ v₁ st (given (Err x) e) (begins key g.reserved v₁ st (at_rest None) refl))

    pub all-played : (m : Moment) (v' st' : List ℕ) → a ≡ Ok tt → Ran key g.reserved v₁ st (events_of (length st) script) m v' st' → Plays key g o script st (Ok m) v' st'
    all-played m v' st' e l = plays (Ok m) v₁ v' st' (given (Ok tt) e) l

-- ---- the two ways to format

pub plain : (g : Layout) (v : List ℕ) → Formats None g v (format_of tag_of g v)
plain g v = record { demand = demand3-sha256 g v; made = λ t. refl }

module _ (key : List ℕ) (g : Layout) (v : List ℕ) where
  -- a format with a key that is taken, was with one in range
  pub key-taken : is_taken (format_keyed_of key g v).answer ≡ true → key_ok key ≡ true
  key-taken t = side (which (key_ok key))
    where
      no : (ok : Bool) → is_taken {Value = ℕ} {A = Unit {0}} (key_refusal ok) ≡ false
      no true = refl
      no false = refl

      side : Which (key_ok key) → key_ok key ≡ true
      side (is_true e) = e
      side (is_false e) =
          absurd (true≢false (sym t ∙ ap (λ (o : FormatResult). is_taken o.answer) ((keyed-calls.refused key e).format g v) ∙ no (volume_loan_ok v)))

  pub keyed : Formats (Some key) g v (format_keyed_of key g v)
  keyed = record { demand = demand3-hmac key g v; made = λ t. (keyed-calls.taken key (key-taken t)).format g v }
