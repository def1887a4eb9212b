-- Number and values tell any two answers apart: each answer can be told from them.
use Prim.Native.Nat.{ℕ}
use mathlib.Core.Bool.{Bool}
use mathlib.Core.List.{List, [], ◌∷◌}
use mathlib.Core.Path.{◌≡◌, refl, sym, ap, ◌∙◌}
use lib.Dec.{eqb}
use Rattle.std.proofs.Common.{Option, Result, Ok, Err}
use Rattle.octets.specs.Answer.{Answer, taken, refused}
use Rattle.octets.specs.Answer as octets
use Rattle.octets.specs.Choice.{pick, first_met}
use Rattle.model.specs.declared.Flushed.{Flushed}
use Rattle.model.specs.declared.Flushed.TheVariants.{Acknowledged, Begun}
use Rattle.model.specs.declared.Held.{Held}
use Rattle.on_disk.specs.declared.Layout.{Layout}
use Rattle.model.specs.declared.Opened.{Opened}
use Rattle.model.specs.declared.Refusal.{Refusal}
use Rattle.model.specs.declared.Refusal.TheVariants.{Malformed, Parameter, Superblock, Invalid, Short, Range, StagedRange, JournalRange, TagMismatch, JournalTagMismatch, Full, NotNow, Exhausted, Misplaced}
use Rattle.model.specs.declared.Says.{Says}
use Rattle.model.specs.declared.State.{State}
use Rattle.model.specs.declared.Step.{Step}
use Rattle.model.specs.Refusal.{refusal_of, answer_by, at_once, AnswersDiffer}

-- ---- a refusal

with_none : ℕ → Refusal
with_none n =
    first_met
    ((eqb n 2, Parameter) ∷ (eqb n 3, Superblock) ∷ (eqb n 4, Invalid) ∷ (eqb n 6, Range) ∷ (eqb n 8, Full) ∷ (eqb n 9, NotNow) ∷ (eqb n 10, Exhausted) ∷ [])
    Malformed

with_one : ℕ → ℕ → Refusal
with_one n x = first_met ((eqb n 5, Short x) ∷ (eqb n 6, StagedRange x) ∷ (eqb n 7, TagMismatch x) ∷ []) (Misplaced x)

with_two : ℕ → ℕ → ℕ → Refusal
with_two n x y = pick (eqb n 6) (JournalRange x y) (JournalTagMismatch x y)

told : octets.Refusal ℕ → Refusal
told r = go r.number r.values
  where
    go : ℕ → List ℕ → Refusal
    go n [] = with_none n
    go n (x ∷ []) = with_one n x
    go n (x ∷ y ∷ zs) = with_two n x y

told_back : (r : Refusal) → told (refusal_of r) ≡ r
unfolding told with_none with_one with_two
told_back Malformed = refl
told_back Parameter = refl
told_back Superblock = refl
told_back Invalid = refl
told_back (Short n) = refl
told_back Range = refl
told_back (StagedRange i) = refl
told_back (JournalRange k i) = refl
told_back (TagMismatch s) = refl
told_back (JournalTagMismatch k i) = refl
told_back Full = refl
told_back NotNow = refl
told_back Exhausted = refl
told_back (Misplaced k) = refl

-- ---- an answer

-- what a call hands back, made of its answer
abbrev from : {A B : Type 0} → (B → A) → Answer ℕ B → Result A Refusal
from give (taken x) = Ok (give x)
from give (refused r) = Err (told r)

-- a call that gives what can be told from its answer is told by its answer
module _ {A B : Type 0} (of : A → B) (give : B → A) (back : (x : A) → give (of x) ≡ x) where
  returned : (a : Result A Refusal) → from give (answer_by of a) ≡ a
  returned (Ok x) = ap Ok (back x)
  returned (Err r) = ap Err (told_back r)

  apart : (a b : Result A Refusal) → answer_by of a ≡ answer_by of b → a ≡ b
  apart a b e = sym (returned a) ∙ ap (from give) e ∙ returned b

flushed_back : (x : Flushed) → pick (at_once x) Acknowledged Begun ≡ x
flushed_back Acknowledged = refl
flushed_back Begun = refl

pub answers-differ : AnswersDiffer
answers-differ =
    record {
      plain = apart (λ (x : Unit {0}). x) (λ (x : Unit {0}). x) (λ x. refl);
      opens = apart (λ (o : Opened). (o.state, o.stores)) (λ (x : State × ℕ). record { state = x.0; stores = x.1 }) (λ x. refl);
      query = apart (λ (h : Held). (h.layout, h.staging)) (λ (x : Layout × ℕ). record { layout = x.0; staging = x.1 }) (λ x. refl);
      flush = apart at_once (λ (x : Bool). pick x Acknowledged Begun) flushed_back;
      step = apart (λ (x : Step). (x.stored, x.says)) (λ (x : Option ℕ × Says). record { stored = x.0; says = x.1 }) (λ x. refl);
    }
