-- Replaying lists of writes over homes, with no bytes of a volume in sight. `H s d` says that sector s holds d at home, with a fitting tag.
use Prim.Native.Nat.{ℕ, zero, suc, ◌≤◌, ◌<◌}
use mathlib.Core.Bool.{Bool, true, false, ◌||◌}
use mathlib.Core.Path.{◌≡◌, refl, sym, ap, ◌∙◌, subst}
use mathlib.Core.Logic.{◌≢◌}
use mathlib.Core.List.{List, [], ◌∷◌, ◌++◌}
use native.Mathlib.Omega.{arith}
use lib.ListN.{length, take, get_or}
use lib.Seq.{take-suc, take_all}
use lib.Dec.{eqb}
use borrow.Author.Tests.{eqb-true, eqb-false, eq-eqb}
use Rattle.octets.specs.Choice.{pick}
use Rattle.model.specs.Ledger.{Write, Contents, last_for, entered}

abbrev pub mentions : List Write → ℕ → Bool
mentions [] s = false
mentions (w ∷ ws) s = ◌||◌ (eqb w.sector s) (mentions ws s)

pub last_for-append : (a b : List Write) (s : ℕ) (d : List ℕ) → last_for (a ++ b) s d ≡ last_for b s (last_for a s d)
last_for-append [] b s d = refl
last_for-append (w ∷ a) b s d = last_for-append a b s (pick (eqb w.sector s) w.bytes d)

pub mentions-append : (a b : List Write) (s : ℕ) → mentions (a ++ b) s ≡ ◌||◌ (mentions a s) (mentions b s)
mentions-append [] b s = refl
mentions-append (w ∷ a) b s = go (mentions-append a b s) (eqb w.sector s)
  where
    go : mentions (a ++ b) s ≡ ◌||◌ (mentions a s) (mentions b s)
        → (t : Bool) → ◌||◌ t (mentions (a ++ b) s) ≡ ◌||◌ (◌||◌ t (mentions a s)) (mentions b s)
    go ih true = refl
    go ih false = ih

pub or-false : (a b : Bool) → ◌||◌ a b ≡ false → (a ≡ false) × (b ≡ false)
or-false true b e = absurd (let z : ◌≡◌ {A = ℕ} 0 1 = cc in omega arith)
or-false false b e = (refl, e)

pub last_for-unnamed : (a : List Write) (s : ℕ) (d : List ℕ) → mentions a s ≡ false → last_for a s d ≡ d
last_for-unnamed [] s d e = refl
last_for-unnamed (w ∷ a) s d e =
    let k : eqb w.sector s ≡ false = (or-false (eqb w.sector s) (mentions a s) e).0 in
    rw k (last_for-unnamed a s d (or-false (eqb w.sector s) (mentions a s) e).1)

-- a sector that is mentioned: what was there before does not matter
pub last_for-named : (a : List Write) (s : ℕ) (d d' : List ℕ) → mentions a s ≡ true → last_for a s d ≡ last_for a s d'
last_for-named [] s d d' e = absurd (let z : ◌≡◌ {A = ℕ} 0 1 = cc in omega arith)
last_for-named (w ∷ a) s d d' e = go (last_for-named a s d d') (eqb w.sector s) e
  where
    go : (mentions a s ≡ true → last_for a s d ≡ last_for a s d')
        → (t : Bool) → ◌||◌ t (mentions a s) ≡ true → last_for a s (pick t w.bytes d) ≡ last_for a s (pick t w.bytes d')
    go ih true k = refl
    go ih false k = ih k

-- which of the two: a Bool with its equation
pub data Which (t : Bool) : Type 0 where
  is_true : t ≡ true → Which t
  is_false : t ≡ false → Which t

pub which : (t : Bool) → Which t
which true = is_true refl
which false = is_false refl

pub mentions-get : (L : List Write) (i : ℕ) (z : Write) → i < length L → mentions L (get_or L i z).sector ≡ true
mentions-get [] i z l = absurd (omega arith)
mentions-get (w ∷ L) zero z l = rw (eq-eqb w.sector w.sector refl)
mentions-get (w ∷ L) (suc i) z l = rw (mentions-get L i z (omega arith)) (or-true (eqb w.sector (get_or L i z).sector))
  where
    or-true : (t : Bool) → ◌||◌ t true ≡ true
    or-true true = refl
    or-true false = refl

or-drop : (t : Bool) → ◌||◌ t false ≡ true → t ≡ true
or-drop true e = refl
or-drop false e = e

abbrev pub Holds : Type 1
Holds = ℕ → List ℕ → Type 0

-- every home but n's is kept
abbrev pub Frame : Holds → Holds → ℕ → Type 0
Frame H H' n = (s : ℕ) (d : List ℕ) → s ≢ n → H s d → H' s d

abbrev pub no_write : Write
no_write = record { sector = 0; bytes = [] }

module _ (P : ℕ) where
  abbrev pub Clean : Holds → Contents → Type 0
  Clean H c = (s : ℕ) → s < P → H s (c s)

  -- what a cut at any time leaves true: replaying J over the homes gives the contents
  pub record Durable (H : Holds) (J : List Write) (c : Contents) : Type 0 where
    pub unnamed : (s : ℕ) → s < P → mentions J s ≡ false → H s (c s)
    pub named : (s : ℕ) → s < P → mentions J s ≡ true → (d : List ℕ) → last_for J s d ≡ c s

  -- homes may be changed at will where J mentions the sector
  pub touch : {H H' : Holds} {J : List Write} {c : Contents} (n : ℕ) → Frame H H' n → mentions J n ≡ true
      → Durable H J c → Durable H' J c
  touch {J = J} {c} n fr m D =
      record {
        unnamed = λ s l e. fr s (c s) (λ q. eqb_no s q e) (D.unnamed s l e);
        named = D.named;
      }
    where
      eqb_no : (s : ℕ) → s ≡ n → mentions J s ≡ false → ⊥
      eqb_no s q e =
          let k : mentions J s ≡ true = rw q m in
          let z : ◌≡◌ {A = ℕ} 0 1 = cc in omega arith

  -- the oldest section goes, once all is home
  pub tear : {H : Holds} {c : Contents} (b J : List Write) → Clean H c → Durable H (b ++ J) c → Durable H J c
  tear {H} {c} b J C D =
      record {
        unnamed = λ s l e. C s l;
        named = λ s l e d.
            last_for-named J s d (last_for b s d) e ∙ sym (last_for-append b J s d)
            ∙ D.named s l (mentions-append b J s ∙ ap (◌||◌ (mentions b s)) e ∙ or-true (mentions b s)) d;
      }
    where
      or-true : (t : Bool) → ◌||◌ t true ≡ true
      or-true true = refl
      or-true false = refl

  -- a new section, replayed last
  pub commit : {H : Holds} {c : Contents} (J b : List Write) → Clean H c → Durable H J c → Durable H (J ++ b) (entered c b)
  commit {H} {c} J b C D =
      record {
        unnamed = λ s l e.
            let k : mentions b s ≡ false = (or-false (mentions J s) (mentions b s) (sym (mentions-append J b s) ∙ e)).1 in
            subst (H s) (sym (last_for-unnamed b s (c s) k)) (C s l);
        named = λ s l e d. last_for-append J b s d ∙ lp s l d (which (mentions J s)) (sym (mentions-append J b s) ∙ e);
      }
    where
      lp : (s : ℕ) → s < P → (d : List ℕ) → Which (mentions J s) → ◌||◌ (mentions J s) (mentions b s) ≡ true
          → last_for b s (last_for J s d) ≡ last_for b s (c s)
      lp s l d (is_true t) e = ap (last_for b s) (D.named s l t d)
      lp s l d (is_false f) e = last_for-named b s (last_for J s d) (c s) (sym (ap (λ (x : Bool). ◌||◌ x (mentions b s)) f) ∙ e)

  -- ---- a pass that brings the writes of L home, one after the other: i are home, and where mid, the next is under way

  pub record Pass (H : Holds) (c : Contents) (L : List Write) (i : ℕ) : Type 0 where
    pub within : i ≤ length L
    pub rest : (s : ℕ) → s < P → mentions L s ≡ false → H s (c s)
    pub ends : (s : ℕ) → s < P → mentions L s ≡ true → (d : List ℕ) → last_for L s d ≡ c s
    pub done : (s : ℕ) → s < P → mentions (take i L) s ≡ true → (d : List ℕ) → H s (last_for (take i L) s d)

  -- an entry under way: its own sector is as it may be
  pub record Midway (H : Holds) (c : Contents) (L : List Write) (i : ℕ) : Type 0 where
    pub under : i < length L
    pub mrest : (s : ℕ) → s < P → mentions L s ≡ false → H s (c s)
    pub mends : (s : ℕ) → s < P → mentions L s ≡ true → (d : List ℕ) → last_for L s d ≡ c s
    pub mdone : (s : ℕ) → s < P → s ≢ (get_or L i no_write).sector → mentions (take i L) s ≡ true → (d : List ℕ) → H s (last_for (take i L) s d)

  pub pass-ends : {H : Holds} {c : Contents} {L : List Write} → Pass H c L (length L) → Clean H c
  pass-ends {H} {c} {L} p s l = go (which (mentions L s))
    where
      all : take (length L) L ≡ L
      all = take_all (length L) L (omega arith)

      go : Which (mentions L s) → H s (c s)
      go (is_true t) = subst (H s) (ap (λ (x : List Write). last_for x s []) all ∙ p.ends s l t []) (p.done s l (ap (λ (x : List Write). mentions x s) all ∙ t) [])
      go (is_false f) = p.rest s l f

  pub pass-begins : {H : Holds} {c : Contents} {L : List Write} {i : ℕ} → i < length L → Pass H c L i → Midway H c L i
  pass-begins l p = record { under = l; mrest = p.rest; mends = p.ends; mdone = λ s k n m d. p.done s k m d }

  -- a store to the sector of the entry under way
  pub mid-touch : {H H' : Holds} {c : Contents} {L : List Write} {i : ℕ} → Frame H H' (get_or L i no_write).sector → Midway H c L i → Midway H' c L i
  mid-touch {H} {H'} {c} {L} {i} fr m =
      record {
        under = m.under;
        mrest = λ s l e. fr s (c s) (λ q. no s q e) (m.mrest s l e);
        mends = m.mends;
        mdone = λ s l n k d. fr s (last_for (take i L) s d) n (m.mdone s l n k d);
      }
    where
      no : (s : ℕ) → s ≡ (get_or L i no_write).sector → mentions L s ≡ false → ⊥
      no s q e =
          let k : mentions L s ≡ true = rw q (mentions-get L i no_write m.under) in
          let z : ◌≡◌ {A = ℕ} 0 1 = cc in omega arith

  -- the last store of the entry under way
  pub mid-ends : {H H' : Holds} {c : Contents} {L : List Write} {i : ℕ} → Frame H H' (get_or L i no_write).sector
      → H' (get_or L i no_write).sector (get_or L i no_write).bytes → Midway H c L i → Pass H' c L (suc i)
  mid-ends {H} {H'} {c} {L} {i} fr h m =
      let m' : Midway H' c L i = mid-touch fr m in
      record {
        within = m.under;
        rest = m'.mrest;
        ends = m'.mends;
        done = λ s l e d.
            subst (H' s) (ap (λ (x : List Write). last_for x s d) cut)
            (one s l d (which (eqb w.sector s)) (ap (λ (x : List Write). mentions x s) cut ∙ e) (m'.mdone s l));
      }
    where
      w : Write
      w = get_or L i no_write

      cut : take i L ++ (w ∷ []) ≡ take (suc i) L
      cut = sym (take-suc L i no_write m.under)

      one : (s : ℕ) → s < P → (d : List ℕ) → Which (eqb w.sector s) → mentions (take i L ++ (w ∷ [])) s ≡ true
          → (s ≢ w.sector → mentions (take i L) s ≡ true → (d : List ℕ) → H' s (last_for (take i L) s d))
          → H' s (last_for (take i L ++ (w ∷ [])) s d)
      one s l d (is_true t) e k =
          let q : w.sector ≡ s = eqb-true w.sector s t in
          rw (last_for-append (take i L) (w ∷ []) s d, t) (subst (λ (n : ℕ). H' n w.bytes) q h)
      one s l d (is_false f) e k =
          let n : s ≢ w.sector = λ q. eqb-false w.sector s f (sym q) in
          let e₁ : ◌||◌ (mentions (take i L) s) (◌||◌ (eqb w.sector s) false) ≡ true = sym (mentions-append (take i L) (w ∷ []) s) ∙ e in
          let e₂ : mentions (take i L) s ≡ true = or-drop (mentions (take i L) s) (rw f at e₁) in
          rw (last_for-append (take i L) (w ∷ []) s d, f) (k n e₂ d)

  -- a pass over a batch that has just been entered
  pub pass-starts : (H : Holds) (c : Contents) (L : List Write) → Clean H c → Pass H (entered c L) L 0
  pass-starts H c L C =
      record {
        within = omega arith;
        rest = λ s l e. subst (H s) (sym (last_for-unnamed L s (c s) e)) (C s l);
        ends = λ s l e d. last_for-named L s d (c s) e;
        done = λ s l e d. absurd (let z : ◌≡◌ {A = ℕ} 0 1 = cc in omega arith);
      }

  -- a pass over all that is to be replayed
  pub pass-replays : {H : Holds} {c : Contents} {J : List Write} → Durable H J c → Pass H c J 0
  pass-replays D =
      record {
        within = omega arith;
        rest = D.unnamed;
        ends = D.named;
        done = λ s l e d. absurd (let z : ◌≡◌ {A = ℕ} 0 1 = cc in omega arith);
      }

  pub durable-map : {H H' : Holds} {J : List Write} {c : Contents} → ((s : ℕ) (d : List ℕ) → H s d → H' s d) → Durable H J c → Durable H' J c
  durable-map {c = c} f D = record { unnamed = λ s l e. f s (c s) (D.unnamed s l e); named = D.named }

pub or_right : (a b : Bool) → b ≡ true → ◌||◌ a b ≡ true
or_right true b e = refl
or_right false b e = e
