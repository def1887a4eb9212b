-- The loops that make a section empty: what each has written so far.
use Prim.Native.Nat.{ℕ, suc, ◌+◌, ◌-◌, ◌*◌, ◌≤◌, ◌<◌}
use mathlib.Core.List.{List, ◌++◌, append_assoc}
use mathlib.Core.Path.{◌≡◌, refl, sym, ap, ◌∙◌, subst}
use native.Mathlib.Nat.{mul_comm, suc-mul, mul-le-mul_right, div-add-mod'}
use native.Mathlib.Numerals.{add-one}
use native.Mathlib.Omega.{arith}
use lib.ListN.{length, take, drop, replicate, length-replicate, replicate-append-replicate}
use lib.Seq.{take_at, drop-append-add, take_all}
use borrow.Author.Tests.{lt-ltb, le-ltb}
use Rattle.octets.specs.Numbers.{le}
use Rattle.octets.specs.Parts.{part, patch}
use Rattle.octets.proofs.Parts.{take-patch, drop-replicate}
use Rattle.on_disk.specs.Layout.{tag_part, entry_size, per_sector}
use Rattle.on_disk.specs.Section.{unused, empty_entry, empty_sector}
use Rattle.octets.specs.Lists.{collect}
use Rattle.on_disk.proofs.Sections.{length-collect}

-- a patch that starts where the first of two lists ends
patch-behind : (a b x : List ℕ) (at : ℕ) → length a ≡ at → patch (a ++ b) at x ≡ a ++ (x ++ drop (length x) b)
patch-behind a b x at e =
    let back : drop (at + length x) (a ++ b) ≡ drop (length x) b =
    subst (λ (n : ℕ). drop (n + length x) (a ++ b) ≡ drop (length x) b) e (drop-append-add a b (length x)) in
    rw (take_at a b at e, back)

-- ---- a metadata sector: i entries are marked as unused, the rest is zero

abbrev pub marked : ℕ → ℕ → List ℕ
marked t i = collect i (λ j. empty_entry t) ++ replicate (512 - i * entry_size t) 0

module _ (t i : ℕ) where
  entries-length : length (collect i (λ j. empty_entry t)) ≡ i * entry_size t
  entries-length = length-collect (λ j. empty_entry t) (entry_size t) i (λ j l. simp length-replicate (omega arith))

  pub mark-room : i < per_sector t → i * entry_size t + entry_size t ≤ 496
  mark-room l =
      let h : suc i * entry_size t ≤ per_sector t * entry_size t = mul-le-mul_right (entry_size t) l in
      omega (arith, suc-mul i (entry_size t), div-add-mod' 496 (entry_size t))

  pub mark : (r r' : List ℕ) → i * entry_size t + entry_size t ≤ 512 → r ≡ marked t i → r' ≡ patch r (i * entry_size t) (le 8 unused)
      → r' ≡ marked t (i + 1)
  mark r r' h e e' =
      let next : (i + 1) * entry_size t ≡ i * entry_size t + entry_size t = ap (λ (k : ℕ). k * entry_size t) (add-one i) ∙ suc-mul i (entry_size t) in
      let left : 512 - i * entry_size t - 8 ≡ 8 + tag_part t + (512 - (i + 1) * entry_size t) = omega arith in
      let zeros : drop 8 (replicate {A = ℕ} (512 - i * entry_size t) 0) ≡ replicate (8 + tag_part t) 0 ++ replicate (512 - (i + 1) * entry_size t) 0 =
      drop-replicate 8 (512 - i * entry_size t) 0 (omega arith) ∙ ap (λ (k : ℕ). replicate k 0) left
      ∙ sym (replicate-append-replicate (8 + tag_part t) (512 - (i + 1) * entry_size t) 0) in
      e' ∙ ap (λ (x : List ℕ). patch x (i * entry_size t) (le 8 unused)) e
      ∙ patch-behind (collect i (λ j. empty_entry t)) (replicate (512 - i * entry_size t) 0) (le 8 unused) (i * entry_size t) entries-length
      ∙ ap (λ (x : List ℕ). collect i (λ j. empty_entry t) ++ (le 8 unused ++ x)) zeros
      ∙ sym (append_assoc (collect i (λ j. empty_entry t)) (empty_entry t) (replicate (512 - (i + 1) * entry_size t) 0))
      ∙ ap (λ (k : ℕ). collect k (λ j. empty_entry t) ++ replicate (512 - (i + 1) * entry_size t) 0) (sym (add-one i))

pub all-marked : (t i : ℕ) (r : List ℕ) → i ≡ per_sector t → r ≡ marked t i → r ≡ empty_sector t 0
all-marked t i r e q =
    q ∙ ap (marked t) e
    ∙ ap (λ (k : ℕ). collect (per_sector t) (λ j. empty_entry t) ++ replicate (512 - k) 0) (mul_comm (per_sector t) (entry_size t))

-- ---- a section: its first j sectors are those of an empty section

module _ (t j : ℕ) (sec sec' : List ℕ) (h : j * 512 + 512 ≤ length sec) (e : take (j * 512) sec ≡ collect j (empty_sector t)) where
  cleared : (x : List ℕ) → length x ≡ 512 → x ≡ empty_sector t j → sec' ≡ patch sec (j * 512) x → take ((j + 1) * 512) sec' ≡ collect (j + 1) (empty_sector t)
  cleared x n w q =
      let end : (j + 1) * 512 ≡ j * 512 + length x = omega arith in
      rw end (ap (take (j * 512 + length x)) q ∙ take-patch sec (j * 512) x (omega arith) ∙ ap (λ (y : List ℕ). y ++ x) e
      ∙ ap (λ (y : List ℕ). collect j (empty_sector t) ++ y) w ∙ ap (λ (k : ℕ). collect k (empty_sector t)) (sym (add-one j)))

  pub clear-metadata : (x : List ℕ) → x ≡ empty_sector t 0 → length x ≡ 512 → j < 8 → sec' ≡ patch sec (j * 512) (part x 0 512)
      → take ((j + 1) * 512) sec' ≡ collect (j + 1) (empty_sector t)
  clear-metadata x m n l q =
      let same : empty_sector t 0 ≡ empty_sector t j = rw (lt-ltb j 8 l) in
      cleared x n (m ∙ same) (q ∙ ap (patch sec (j * 512)) (take_all 512 x (omega arith)))

  pub clear-data : 8 ≤ j → sec' ≡ patch sec (j * 512) (replicate 512 0) → take ((j + 1) * 512) sec' ≡ collect (j + 1) (empty_sector t)
  clear-data l q = cleared (replicate 512 0) refl (rw (le-ltb j 8 l)) q
